-- What an import gives is settled.
use Rattle.std.specs.Prelude.{◌≡◌, ℕ, List, Ok}
use Rattle.bitwarden_core.specs.Documents.{bitwarden_document}
use Rattle.psafe_core.specs.Outcome.{psafe_outcome}
use Rattle.table_reading.specs.Documents.{csv_document}
use Rattle.vault_model.specs.Tree.{BareDoc, IsDoc, IsSettled, LEVELS}

-- A document that keeps what every document keeps is settled.
abbrev pub Settles : BareDoc → Type 0
Settles doc = IsDoc doc → IsSettled LEVELS doc

-- A table.
abbrev pub TablesSettle : Type 0
TablesSettle = (bytes : List ℕ) (now : ℕ) (doc : BareDoc) → csv_document bytes now ≡ Ok doc
    → Settles doc

-- A file of Password Safe, under a password.
abbrev pub SafesSettle : Type 0
SafesSettle = (bytes password : List ℕ) (now : ℕ) (doc : BareDoc)
    → psafe_outcome bytes password now ≡ Ok doc → Settles doc

-- An export of Bitwarden: the passwords that an item had before rise, and all of them were used
-- before the item was changed last.
abbrev pub ExportsSettle : Type 0
ExportsSettle = (bytes : List ℕ) (now : ℕ) (doc : BareDoc) → bitwarden_document bytes now ≡ Ok doc
    → Settles doc
