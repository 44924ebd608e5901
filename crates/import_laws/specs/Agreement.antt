-- One source that is imported at two moments gives documents that agree.
use Rattle.std.specs.Prelude.{◌≡◌, ℕ, List, [], ◌∷◌, map, Ok}
use Rattle.import_tree.specs.Entries.{ImportedEntry}
use Rattle.import_tree.specs.Outcome.{imported_document}
use Rattle.psafe_core.specs.Outcome.{psafe_outcome}
use Rattle.table_reading.specs.Documents.{csv_document}
use Rattle.vault_model.specs.Join.{Agreed}
use Rattle.vault_model.specs.Tree.{BareDoc, IsDoc, db_in}

-- Documents, of which each keeps what every document keeps, are copies of one database in which
-- nothing was changed after it was deleted, and whose moves never make a cycle.
abbrev pub Agree : BareDoc → BareDoc → Type 0
Agree one other = IsDoc one → IsDoc other → Agreed (db_in one ∷ db_in other ∷ [])

-- An entry without its times.
abbrev pub untimed : ImportedEntry → ImportedEntry
untimed entry = record entry { created = 0; modified = 0 }

-- Entries that are the same but for their times, imported at any two moments.
abbrev pub EntriesAgree : Type 0
EntriesAgree = (now later : ℕ) (entries others : List ImportedEntry) (one other : BareDoc)
    → map untimed entries ≡ map untimed others → imported_document now entries ≡ Ok one
    → imported_document later others ≡ Ok other → Agree one other

-- A table.
abbrev pub TablesAgree : Type 0
TablesAgree = (bytes : List ℕ) (now later : ℕ) (one other : BareDoc)
    → csv_document bytes now ≡ Ok one → csv_document bytes later ≡ Ok other → Agree one other

-- A file of Password Safe, under a password.
abbrev pub SafesAgree : Type 0
SafesAgree = (bytes password : List ℕ) (now later : ℕ) (one other : BareDoc)
    → psafe_outcome bytes password now ≡ Ok one → psafe_outcome bytes password later ≡ Ok other
    → Agree one other
