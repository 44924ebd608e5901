-- One source that is imported at a moment and at a later one.
use Rattle.std.specs.Prelude.{◌≡◌, ◌≤◌, ℕ, List, [], ◌∷◌, Ok, Some}
use Rattle.std.specs.FinMap.{get}
use Rattle.history_laws.specs.Current.{current, current_view}
use Rattle.psafe_core.specs.Outcome.{psafe_outcome}
use Rattle.table_reading.specs.Documents.{csv_document}
use Rattle.vault_model.specs.Db.{Db, NodeId, Versions}
use Rattle.vault_model.specs.Join.{join}
use Rattle.vault_model.specs.Tree.{BareDoc, IsDoc, db_in}

-- A database has an entry whose current version is that of these.
abbrev pub HasCurrent : Db → NodeId → Versions → Type 0
HasCurrent merged entry versions = (all : Versions) × (get merged.entries entry ≡ Some all)
    × (current all ≡ current versions)

-- What is current of the merge of two documents is what is current of the second: its entries with
-- their current versions, its groups, the places of both, and what it says of itself. What the first
-- has besides is a version before a current one. So each entry of the second has there the current
-- version that it has in the second.
pub record Replaces (one later : BareDoc) : Type 0 where
  pub databases : current_view (join (db_in one ∷ db_in later ∷ [])) ≡ current_view (db_in later)
  pub entries : (entry : NodeId) (versions : Versions)
      → get (db_in later).entries entry ≡ Some versions
      → HasCurrent (join (db_in one ∷ db_in later ∷ [])) entry versions

-- The later of two documents that a source gives, of which each keeps what every document keeps,
-- takes the place of the other in a merge. This holds of an entry whatever times its source gives: of
-- two versions that were changed at one time the one that was imported later is the greater, since
-- it expires then.
abbrev pub LaterReplaces : BareDoc → BareDoc → Type 0
LaterReplaces one later = IsDoc one → IsDoc later → Replaces one later

-- A table.
abbrev pub TablesReplace : Type 0
TablesReplace = (bytes : List ℕ) (now later : ℕ) (one other : BareDoc) → now ≤ later
    → csv_document bytes now ≡ Ok one → csv_document bytes later ≡ Ok other
    → LaterReplaces one other

-- A file of Password Safe, under a password.
abbrev pub SafesReplace : Type 0
SafesReplace = (bytes password : List ℕ) (now later : ℕ) (one other : BareDoc) → now ≤ later
    → psafe_outcome bytes password now ≡ Ok one → psafe_outcome bytes password later ≡ Ok other
    → LaterReplaces one other
