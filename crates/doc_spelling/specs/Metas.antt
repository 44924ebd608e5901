-- The elements of what a document says of its database.
use Rattle.std.specs.Prelude.{ℕ, Bool, true, false, Option, List, [], ◌∷◌, codes}
use Rattle.vault_model.specs.declared.forms.DocForm.{DocForm}
use Rattle.vault_model.specs.declared.forms.DocForm.TheVariants.{Plain, V3, V4}
use Rattle.vault_model.specs.declared.metas.Icon.{Icon}
use Rattle.vault_model.specs.declared.metas.Meta.{Meta}
use Rattle.vault_model.specs.declared.metas.Protection.{Protection}
use Rattle.doc_forms.specs.Attachments.{binaries_from}
use Rattle.doc_forms.specs.Metas.{ReadBinary}
use Rattle.doc_spelling.specs.Entries.{number_attribute}
use Rattle.doc_spelling.specs.Pieces.{Piece, Pieces, secret, box, none, ◌▹◌, ◌▹▹◌, pieces_of, piece_if, unless_empty, unless_false, unless_zero, text_piece, base64_piece, in_memory_attribute}
use Rattle.doc_spelling.specs.Pool.{PoolPair}
use Rattle.doc_spelling.specs.Values.{bool_piece, number_piece, signed_piece, id_piece, time_piece, change_pieces, items_piece}

-- the program that writes
abbrev pub generator : List ℕ
generator = codes "vaultmerge"

-- `MemoryProtection`
abbrev pub protection_piece : Protection → Piece
protection_piece p = box (codes "MemoryProtection") (
    bool_piece (codes "ProtectTitle") p.title
    ▹ bool_piece (codes "ProtectUserName") p.user
    ▹ bool_piece (codes "ProtectPassword") p.password
    ▹ bool_piece (codes "ProtectURL") p.url
    ▹ bool_piece (codes "ProtectNotes") p.notes
    ▹ none)

-- `Icon`
abbrev pub icon_piece : DocForm → Icon → Piece
icon_piece form i = box (codes "Icon") (
    id_piece (codes "UUID") i.id
    ▹ base64_piece (codes "Data") [] i.bytes
    ▹ piece_if (text_piece (codes "Name")) (unless_empty i.name)
    ▹▹ change_pieces form i.changed)

-- a binary of a number with its bytes; those that are hidden have the same attributes as a value
abbrev pub numbered_piece : DocForm → ℕ → List ℕ → Bool → Piece
numbered_piece form n bytes false =
    base64_piece (codes "Binary") (number_attribute (codes "ID") n ∷ []) bytes
numbered_piece Plain n bytes true =
    base64_piece (codes "Binary") (number_attribute (codes "ID") n ∷ in_memory_attribute ∷ []) bytes
numbered_piece _ n bytes true =
    secret (codes "Binary") (number_attribute (codes "ID") n ∷ []) bytes

-- a binary of the pool
abbrev pub binary_piece : DocForm → ReadBinary → Piece
binary_piece form b = numbered_piece form b.number b.bytes b.hidden

-- `Binaries`, which a file of KDBX 4 keeps apart from its document
abbrev pub pool_pieces : DocForm → List PoolPair → Pieces
pool_pieces V4 pool = none
pool_pieces form pool =
    box (codes "Binaries") (pieces_of (binary_piece form) (binaries_from 0 pool)) ▹ none

-- the hash of the header, which only a file of KDBX 3.1 has in its document
abbrev pub hash_pieces : DocForm → Option (List ℕ) → Pieces
hash_pieces V3 hash = piece_if (base64_piece (codes "HeaderHash") []) hash
hash_pieces _ hash = none

-- when the settings were changed, which a file of KDBX 3.1 says only where the time is not 0
abbrev pub settings_change_pieces : DocForm → ℕ → Pieces
settings_change_pieces V3 changed =
    piece_if (time_piece V3 (codes "SettingsChanged")) (unless_zero changed)
settings_change_pieces form changed = time_piece form (codes "SettingsChanged") changed ▹ none

-- the names of a database, and when they and its settings were changed
abbrev pub title_pieces : DocForm → Meta → Pieces
title_pieces form m =
    settings_change_pieces form m.settings.changed
    ▹▹ text_piece (codes "DatabaseName") m.name.value
    ▹ time_piece form (codes "DatabaseNameChanged") m.name.changed
    ▹ text_piece (codes "DatabaseDescription") m.description.value
    ▹ time_piece form (codes "DatabaseDescriptionChanged") m.description.changed
    ▹ text_piece (codes "DefaultUserName") m.user.value
    ▹ time_piece form (codes "DefaultUserNameChanged") m.user.changed
    ▹ none

-- its settings, and the icons that it holds
abbrev pub setting_pieces : DocForm → Meta → Pieces
setting_pieces form m =
    number_piece (codes "MaintenanceHistoryDays") m.settings.value.days
    ▹ text_piece (codes "Color") m.settings.value.color
    ▹ time_piece form (codes "MasterKeyChanged") m.view.key_changed
    ▹ signed_piece (codes "MasterKeyChangeRec") m.settings.value.key_rec
    ▹ signed_piece (codes "MasterKeyChangeForce") m.settings.value.key_force
    ▹ piece_if (bool_piece (codes "MasterKeyChangeForceOnce"))
    (unless_false m.settings.value.key_force_once)
    ▹▹ protection_piece m.settings.value.protect
    ▹ box (codes "CustomIcons") (pieces_of (icon_piece form) m.icons)
    ▹ none

-- its recycle bin, its templates, and what was last looked at
abbrev pub place_pieces : DocForm → Meta → Pieces
place_pieces form m =
    bool_piece (codes "RecycleBinEnabled") m.bin.value.enabled
    ▹ id_piece (codes "RecycleBinUUID") m.bin.value.id
    ▹ time_piece form (codes "RecycleBinChanged") m.bin.changed
    ▹ id_piece (codes "EntryTemplatesGroup") m.templates.value
    ▹ time_piece form (codes "EntryTemplatesGroupChanged") m.templates.changed
    ▹ id_piece (codes "LastSelectedGroup") m.view.last_group
    ▹ id_piece (codes "LastTopVisibleGroup") m.view.last_top
    ▹ none

-- the limits of histories
abbrev pub limit_pieces : Meta → Pieces
limit_pieces m =
    signed_piece (codes "HistoryMaxItems") m.settings.value.history_items
    ▹ signed_piece (codes "HistoryMaxSize") m.settings.value.history_size
    ▹ none

-- `Meta`
abbrev pub meta_piece : DocForm → Option (List ℕ) → List PoolPair → Meta → Piece
meta_piece form hash pool m = box (codes "Meta") (
    text_piece (codes "Generator") generator
    ▹ hash_pieces form hash
    ▹▹ title_pieces form m
    ▹▹ setting_pieces form m
    ▹▹ place_pieces form m
    ▹▹ limit_pieces m
    ▹▹ pool_pieces form pool
    ▹▹ (items_piece form m.items ▹ none))
