-- What `history` prints.
use Rattle.std.specs.Prelude.{ℕ, ◌+◌, ◌==◌, Bool, not, ◌||◌, if◌then◌else◌, List, [], ◌∷◌, ◌++◌, codes, flat_map, map, Result, Ok}
use Rattle.std.specs.Cmp.Lexicographic.{slice_cmp}
use Rattle.std.specs.Fmt.{decimal}
use Rattle.std.specs.Option.{option_cmp}
use Rattle.std.specs.Ordering.{bool_cmp, is_ne, match_ordering}
use Rattle.outside_core.specs.Results.{◌>>=◌}
use Rattle.doc_spelling.specs.Moments.{iso_at}
use Rattle.vault_model.specs.Bare.{BareContent, BareField}
use Rattle.vault_model.specs.Orders.{attachment_cmp, auto_type_cmp, bytes_cmp, field_cmp, item_cmp}
use Rattle.vault_model.specs.Shape.{BareVersion, EntryRecord}
use Rattle.vault_model.specs.Tree.{BareDoc}
use Rattle.tree_core.specs.After.{entry_named}
use Rattle.tree_core.specs.Histories.{numbered_versions}
use Rattle.cli_messages.specs.declared.answers.Refusal.{Refusal}
use Rattle.cli_showing.specs.Showing.{entry_or_refusal}

-- ---- what differs between a version and the next older one, which is that of the next number

-- A name, where what it stands for has changed.
abbrev pub name_if : (changed : Bool) → List ℕ → List (List ℕ)
name_if changed name = if changed then name ∷ [] else []

-- The names of the fields that differ, where a field and others after it are compared with older
-- fields; `later` are those of the fields after it.
abbrev pub names_beside : BareField → (later : List BareField → List (List ℕ)) → List BareField
    → List (List ℕ)
names_beside field later [] = field.key ∷ later []
names_beside field later (older ∷ olders) = match_ordering (bytes_cmp field.key older.key)
    (field.key ∷ later (older ∷ olders))
    (name_if (is_ne (field_cmp field older)) field.key ++ later olders)
    (older.key ∷ names_beside field later olders)

-- The names of the fields that differ between newer and older ones, each list by rising name: of
-- two first fields the one with the lesser name is in one list alone, and two of one name differ
-- where their values do, or whether they are hidden.
abbrev pub names_changed : (newer older : List BareField) → List (List ℕ)
names_changed [] older = map (λ (f : BareField). f.key) older
names_changed (field ∷ newer) older = names_beside field (names_changed newer) older

-- The icon or the custom icon differs.
abbrev pub is_icon_changed : (newer older : BareContent) → Bool
is_icon_changed newer older = not (newer.icon == older.icon)
    || is_ne (option_cmp bytes_cmp newer.custom_icon older.custom_icon)

-- Whether it expires, or when, differs.
abbrev pub is_expiry_changed : (newer older : BareContent) → Bool
is_expiry_changed newer older = is_ne (bool_cmp newer.expires older.expires)
    || not (newer.expiry == older.expiry)

-- The attachments differ.
abbrev pub are_attachments_changed : (newer older : BareContent) → Bool
are_attachments_changed newer older =
    is_ne (slice_cmp attachment_cmp newer.attachments older.attachments)

-- The foreground or the background differs.
abbrev pub are_colours_changed : (newer older : BareContent) → Bool
are_colours_changed newer older = is_ne (bytes_cmp newer.fore older.fore)
    || is_ne (bytes_cmp newer.back older.back)

-- Anything else differs: the time of creation, the URL override, how it is typed, the custom items,
-- or whether its password counts in reports.
abbrev pub is_other_changed : (newer older : BareContent) → Bool
is_other_changed newer older = not (newer.created == older.created)
    || is_ne (bytes_cmp newer.url_override older.url_override)
    || is_ne (auto_type_cmp newer.auto_type older.auto_type)
    || is_ne (slice_cmp item_cmp newer.items older.items)
    || is_ne (bool_cmp newer.quality older.quality)

-- What differs of two versions beside their fields.
abbrev pub parts_changed : (newer older : BareContent) → List (List ℕ)
parts_changed newer older = name_if (is_icon_changed newer older) (codes "icon")
    ++ name_if (is_ne (bytes_cmp newer.tags older.tags)) (codes "tags")
    ++ name_if (is_expiry_changed newer older) (codes "expiry")
    ++ name_if (are_attachments_changed newer older) (codes "attachments")
    ++ name_if (are_colours_changed newer older) (codes "colours")
    ++ name_if (is_other_changed newer older) (codes "other")

-- What differs of two versions: the names of fields, and then the other parts.
abbrev pub all_changed : (newer older : BareContent) → List (List ℕ)
all_changed newer older = names_changed newer.fields older.fields ++ parts_changed newer older

-- ---- lines

-- Names with a comma and a space between each two.
abbrev pub comma_joined : List (List ℕ) → List ℕ
comma_joined [] = []
comma_joined (name ∷ names) = name ++ flat_map (λ n. codes ", " ++ n) names

-- What differs between a version and the first of those before it; of the oldest there is nothing
-- to say.
abbrev pub changes_told : BareVersion → List BareVersion → List ℕ
changes_told version [] = codes "-"
changes_told version (older ∷ olders) =
    comma_joined (all_changed version.mark.content older.mark.content)

-- The line of a version: its number, when it was modified, and what differs from those before it.
abbrev pub version_line : ℕ → BareVersion → List BareVersion → List ℕ
version_line number version olders = ((decimal number ++ codes "  ")
    ++ (iso_at version.mark.modified ++ codes "  "))
    ++ (changes_told version olders ++ codes "\n")

-- The lines of versions, from the newest to the oldest; the first has this number.
abbrev pub version_lines : ℕ → List BareVersion → List ℕ
version_lines number [] = []
version_lines number (version ∷ olders) =
    version_line number version olders ++ version_lines (number + 1) olders

-- The lines of all versions of an entry, from the current one, which is 0, to the oldest.
abbrev pub history_text : EntryRecord → List ℕ
history_text e = version_lines 0 (numbered_versions e)

-- What `history` prints of the document of a file, or why it refuses: the path names no entry.
unfoldable pub history_shown : List ℕ → List ℕ → BareDoc → Result (List ℕ) Refusal
history_shown file path doc =
    entry_or_refusal file (entry_named path doc) >>= λ entry. Ok (history_text entry.1)
