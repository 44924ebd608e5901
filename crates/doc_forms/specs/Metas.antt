-- What a document says of its database, and the binaries to which its attachments refer.
use Rattle.std.specs.Prelude.{ℕ, pos, negsuc, Bool, true, false, if◌then◌else◌, Option, Some, None, List, [], ◌∷◌, ◌++◌, codes, option_map, option_and_then, Ok, Err}
use Rattle.text_forms.specs.MarkupGrammar.Attributes.{attribute_text}
use Rattle.text_forms.specs.MarkupGrammar.Elements.{element}
use Rattle.text_forms.specs.Texts.{bytes_of_length}
use Rattle.vault_model.specs.Db.{nil_id}
use Rattle.vault_model.specs.Empty.{new_meta, new_protection}
use Rattle.vault_model.specs.declared.forms.DocForm.{DocForm}
use Rattle.vault_model.specs.declared.forms.DocForm.TheVariants.{V4}
use Rattle.vault_model.specs.declared.metas.Bin.{Bin}
use Rattle.vault_model.specs.declared.metas.Icon.{Icon}
use Rattle.vault_model.specs.declared.metas.Meta.{Meta}
use Rattle.vault_model.specs.declared.metas.MetaSettings.{MetaSettings}
use Rattle.vault_model.specs.declared.metas.MetaView.{MetaView}
use Rattle.vault_model.specs.declared.metas.Protection.{Protection}
use Rattle.doc_forms.specs.declared.fails.DocFail.TheVariants.{Compressed}
use Rattle.doc_forms.specs.Children.{Child, value, container}
use Rattle.doc_forms.specs.ElementTexts.{Setting, is_marked, is_hidden, read_element}
use Rattle.stream_core.specs.OutsideCore.Results.{◌>>=◌}
use Rattle.doc_forms.specs.Refusals.{checked_value}
use Rattle.doc_forms.specs.Tables.{put, custom_data}
use Rattle.doc_forms.specs.Values.{text_in, bytes_in, value_or, id, boolean, number32, number64, signed32, signed64, time}

-- Bytes to which attachments refer by a number, and whether they are hidden.
pub record ReadBinary : Type 0 where
  pub number : ℕ
  pub bytes : List ℕ
  pub hidden : Bool

-- What is known of a database before its end: what it says of itself, the hash of its file's
-- header, and the binaries, in their order.
pub record MetaParts : Type 0 where
  pub meta : Meta
  pub hash : Option (List ℕ)
  pub binaries : List ReadBinary

-- a database of which nothing is known
abbrev pub no_meta : MetaParts
no_meta = record { meta = new_meta; hash = None; binaries = [] }

-- what is known with what the database says of itself changed
abbrev pub with_meta : (Meta → Meta) → MetaParts → MetaParts
with_meta change p = record p { meta = change p.meta }

-- with its settings changed
abbrev pub with_settings : (MetaSettings → MetaSettings) → MetaParts → MetaParts
with_settings change p =
    record p {
      meta = record p.meta {
        settings = record p.meta.settings { value = change p.meta.settings.value };
      };
    }

-- with its view changed
abbrev pub with_view : (MetaView → MetaView) → MetaParts → MetaParts
with_view change p = record p { meta = record p.meta { view = change p.meta.view } }

-- with its recycle bin changed
abbrev pub with_bin : (Bin → Bin) → MetaParts → MetaParts
with_bin change p =
    record p {
      meta = record p.meta { bin = record p.meta.bin { value = change p.meta.bin.value } };
    }

-- ---- protection, icons and binaries

-- the children of `MemoryProtection`
abbrev pub protection_rows : Setting → List (List ℕ × Child Protection)
protection_rows s =
    (codes "ProtectTitle", value s (value_or false boolean) (λ p v. record p { title = v }))
    ∷ (codes "ProtectUserName", value s (value_or false boolean) (λ p v. record p { user = v }))
    ∷ (codes "ProtectPassword", value s (value_or true boolean) (λ p v. record p { password = v }))
    ∷ (codes "ProtectURL", value s (value_or false boolean) (λ p v. record p { url = v }))
    ∷ (codes "ProtectNotes", value s (value_or false boolean) (λ p v. record p { notes = v }))
    ∷ []

-- an icon of which nothing is known
abbrev pub no_icon : Icon
no_icon = record { id = nil_id; bytes = []; name = []; changed = 0 }

-- the children of `Icon`
abbrev pub icon_rows : Setting → List (List ℕ × Child Icon)
icon_rows s =
    (codes "UUID", value s (value_or nil_id id) (λ p v. record p { id = v }))
    ∷ (codes "Data", value s bytes_in (λ p v. record p { bytes = v }))
    ∷ (codes "Name", value s text_in (λ p v. record p { name = v }))
    ∷ (codes "LastModificationTime", value s (value_or 0 time) (λ p v. record p { changed = v }))
    ∷ []

-- the children of `CustomIcons`: of two icons of one id the last counts
abbrev pub icons_rows : Setting → List (List ℕ × Child (List Icon))
icons_rows s = (
  codes "Icon",
  container s (icon_rows s) no_icon
      (λ icons icon. put (λ (i : Icon). i.id) icon icons),
) ∷ []

-- a binary, after those before it: its number is its attribute `ID`
abbrev pub binary : Setting → Child (List ReadBinary)
binary s binaries (element offset name raw content) cursor = do
  x ← read_element s (element offset name raw content) cursor
  number ← checked_value offset (option_and_then number64 (attribute_text raw (codes "ID")))
  bytes ← checked_value offset (bytes_in x.0)
  if is_marked (codes "Compressed") raw then Err (Compressed offset)
      else Ok (
        binaries ++ record { number = number; bytes = bytes; hidden = is_hidden raw } ∷ [],
        x.1,
      )

-- `Binaries`, which are unknown where the file keeps them apart
abbrev pub binaries_rows : DocForm → Setting → List (List ℕ × Child MetaParts)
binaries_rows V4 s = []
binaries_rows _ s = (
  codes "Binaries",
  container s ((codes "Binary", binary s) ∷ []) []
      (λ p v. record p { binaries = v }),
) ∷ []

-- ---- what a database says of itself

-- the children of `Meta`
abbrev pub meta_rows : Setting → List (List ℕ × Child MetaParts)
meta_rows s =
    (codes "Generator", value s text_in (λ p v. p))
    ∷ (
      codes "HeaderHash",
      value s (value_or None (λ text. option_map Some (bytes_of_length 32 text)))
          (λ p v. record p { hash = v }),
    )
    ∷ (
      codes "SettingsChanged",
      value s (value_or 0 time)
          (λ p v. with_meta (λ m. record m { settings = record m.settings { changed = v } }) p),
    )
    ∷ (
      codes "DatabaseName",
      value s text_in (λ p v. with_meta (λ m. record m { name = record m.name { value = v } }) p),
    )
    ∷ (
      codes "DatabaseNameChanged",
      value s (value_or 0 time) (λ p v. with_meta
          (λ m. record m { name = record m.name { changed = v } }) p),
    )
    ∷ (
      codes "DatabaseDescription",
      value s text_in (λ p v. with_meta (λ m. record m
          { description = record m.description { value = v } }) p),
    )
    ∷ (
      codes "DatabaseDescriptionChanged",
      value s (value_or 0 time)
          (λ p v. with_meta (λ m. record m { description = record m.description { changed = v } })
          p),
    )
    ∷ (
      codes "DefaultUserName",
      value s text_in (λ p v. with_meta (λ m. record m { user = record m.user { value = v } }) p),
    )
    ∷ (
      codes "DefaultUserNameChanged",
      value s (value_or 0 time) (λ p v. with_meta
          (λ m. record m { user = record m.user { changed = v } }) p),
    )
    ∷ (
      codes "MaintenanceHistoryDays",
      value s (value_or 365 number32) (λ p v. with_settings (λ m. record m { days = v }) p),
    )
    ∷ (codes "Color", value s text_in (λ p v. with_settings (λ m. record m { color = v }) p))
    ∷ (
      codes "MasterKeyChanged",
      value s (value_or 0 time) (λ p v. with_view (λ m. record m { key_changed = v }) p),
    )
    ∷ (
      codes "MasterKeyChangeRec",
      value s (value_or (negsuc 0) signed64) (λ p v. with_settings (λ m. record m { key_rec = v })
          p),
    )
    ∷ (
      codes "MasterKeyChangeForce",
      value s (value_or (negsuc 0) signed64) (λ p v. with_settings (λ m. record m { key_force = v })
          p),
    )
    ∷ (
      codes "MasterKeyChangeForceOnce",
      value s (value_or false boolean)
          (λ p v. with_settings (λ m. record m { key_force_once = v }) p),
    )
    ∷ (
      codes "MemoryProtection",
      container s (protection_rows s) new_protection
          (λ p v. with_settings (λ m. record m { protect = v }) p),
    )
    ∷ (
      codes "CustomIcons",
      container s (icons_rows s) [] (λ p v. with_meta (λ m. record m { icons = v }) p),
    )
    ∷ (
      codes "RecycleBinEnabled",
      value s (value_or true boolean) (λ p v. with_bin (λ m. record m { enabled = v }) p),
    )
    ∷ (
      codes "RecycleBinUUID",
      value s (value_or nil_id id)
          (λ p v. with_bin (λ m. record m { id = v }) p),
    )
    ∷ (
      codes "RecycleBinChanged",
      value s (value_or 0 time) (λ p v. with_meta
          (λ m. record m { bin = record m.bin { changed = v } }) p),
    )
    ∷ (
      codes "EntryTemplatesGroup",
      value s (value_or nil_id id)
          (λ p v. with_meta (λ m. record m { templates = record m.templates { value = v } }) p),
    )
    ∷ (
      codes "EntryTemplatesGroupChanged",
      value s (value_or 0 time)
          (λ p v. with_meta (λ m. record m { templates = record m.templates { changed = v } }) p),
    )
    ∷ (
      codes "LastSelectedGroup",
      value s (value_or nil_id id) (λ p v. with_view (λ m. record m { last_group = v }) p),
    )
    ∷ (
      codes "LastTopVisibleGroup",
      value s (value_or nil_id id) (λ p v. with_view (λ m. record m { last_top = v }) p),
    )
    ∷ (
      codes "HistoryMaxItems",
      value s (value_or (pos 10) signed32) (λ p v. with_settings
          (λ m. record m { history_items = v }) p),
    )
    ∷ (
      codes "HistoryMaxSize",
      value s (value_or (pos 6291456) signed64)
          (λ p v. with_settings (λ m. record m { history_size = v }) p),
    )
    ∷ (codes "CustomData", custom_data s (λ p v. with_meta (λ m. record m { items = v }) p))
    ∷ binaries_rows s.form s

-- `Meta`: the last one counts as a whole
abbrev pub metas : {P : Type 0} → Setting → (P → MetaParts → P) → Child P
metas s keep = container s (meta_rows s) no_meta keep
