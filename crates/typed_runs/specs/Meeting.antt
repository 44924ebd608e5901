-- Two edits of one entry, on two copies of a document that are merged.
use Rattle.std.specs.Prelude.{◌≡◌, ℕ, List, [], ◌∷◌, Ok}
use Rattle.vault_model.specs.Db.{Mark, NodeId}
use Rattle.vault_model.specs.Join.{join}
use Rattle.vault_model.specs.SeenNodes.{entry_time}
use Rattle.vault_model.specs.Tree.{BareDoc, IsDoc, db_in}
use Rattle.tree_core.specs.After.{Holding, after_edit, entry_named, time_after}
use Rattle.tree_core.specs.FurtherChanges.{FurtherChange}
use Rattle.tree_core.specs.NewNodes.{GivenValues}
use Rattle.document_merge.specs.Merging.{merge_result}
use Rattle.agreed_laws.specs.Merges.{MergesInto}
use Rattle.history_laws.specs.TwoEdits.{HasBoth}
use Rattle.command_laws.specs.Growing.{edited_mark}

-- Merged either way, two documents have one database, in which an entry has versions of both marks
-- and the later is current; and only too many levels can refuse it.
pub record Meet (e f : BareDoc) (u : NodeId) (k l : Mark) : Type 0 where
  pub result : MergesInto (join (db_in e ∷ db_in f ∷ [])) (merge_result e (f ∷ []))
  pub both : (g : BareDoc) → merge_result e (f ∷ []) ≡ Ok g → HasBoth (db_in g) u k l
  pub either : (g h : BareDoc) → merge_result e (f ∷ []) ≡ Ok g → merge_result f (e ∷ []) ≡ Ok h
      → db_in g ≡ db_in h

-- one entry of a document is edited on two copies, at these times
abbrev pub TwoEditsMeet : Type 0
TwoEditsMeet = (d e f : BareDoc) (path other : List ℕ) (values others : GivenValues)
    (further more : FurtherChange) (now later one two : ℕ) (held : Holding) → IsDoc d → IsDoc e
    → IsDoc f → entry_named path d ≡ Ok held → entry_named other d ≡ Ok held
    → time_after now (entry_time held.entry.1) ≡ Ok one
    → time_after later (entry_time held.entry.1) ≡ Ok two
    → after_edit path values further now d ≡ Ok e → after_edit other others more later d ≡ Ok f
    → Meet e f held.entry.0 (edited_mark d values further one held.entry.1)
    (edited_mark d others more two held.entry.1)
