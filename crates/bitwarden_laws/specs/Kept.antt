-- What becomes of the passwords that an item had before.
use Rattle.std.specs.Prelude.{◌≡◌, ◌<◌, ℕ, true, List, Ok, Some, codes}
use Rattle.bitwarden_items.specs.BitwardenFields.Said.{field}
use Rattle.bitwarden_forms.specs.Json.{text, values}
use Rattle.bitwarden_items.specs.Versions.{item_row}
use Rattle.serde_json.specs.Data.{Data}
use Rattle.vault_model.specs.Db.{NodeId}
use Rattle.vault_model.specs.Join.{IsIn}
use Rattle.vault_model.specs.Shape.{BareVersion, EntryRecord}

-- a version has this password, which is hidden
abbrev pub HasPassword : List ℕ → BareVersion → Type 0
HasPassword password version =
    IsIn (field (codes "Password") password true) version.mark.content.fields

-- Every password of an item's history is that of a version before the current one.
abbrev pub PasswordsAreKept : Type 0
PasswordsAreKept = (now : ℕ) (id : NodeId) (item : Data) (row : NodeId × EntryRecord) (value : Data)
    → item_row now id item ≡ Ok row
    → IsIn value (values (codes "passwordHistory") (Some item))
    → (version : BareVersion) × IsIn version row.1.history
    × HasPassword (text (codes "password") (Some value)) version

-- Each version before the current one is modified before it.
abbrev pub VersionsAreEarlier : Type 0
VersionsAreEarlier = (now : ℕ) (id : NodeId) (item : Data) (row : NodeId × EntryRecord)
    (version : BareVersion) → item_row now id item ≡ Ok row → IsIn version row.1.history
    → version.mark.modified < row.1.current.mark.modified
