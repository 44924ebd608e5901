-- Runs of changes, merges and copies over several replicas, as calls make them, where no version is
-- dropped.
use Rattle.std.specs.Prelude.{◌≡◌, ℕ, List, [], ◌∷◌, Ok}
use Rattle.vault_model.specs.Db.{Db}
use Rattle.vault_model.specs.Join.{join, IsWithin, Agreed}
use Rattle.vault_model.specs.Plans.{World, begin, change, IsStep}
use Rattle.vault_model.specs.Tree.{BareDoc, LEVELS, IsDoc, db_in}
use Rattle.agreed_laws.specs.DocumentMerge.Merging.{merge_result}
use Rattle.agreed_laws.specs.Runs.{docs_of}
use Rattle.run_laws.specs.TrimmedRuns.{DocEvent, after_doc_event, growth, joining, overwriting, world_after}

-- what may be done: a document only grows
abbrev pub IsWholeDocEvent : World → DocEvent → Type 0
IsWholeDocEvent w (growth i d) = IsDoc d × IsStep LEVELS w (change i d)
IsWholeDocEvent w (joining i js d) = merge_result (w i).doc (docs_of w js) ≡ Ok d
IsWholeDocEvent w (overwriting i j) = Unit {0}

-- each is one that may be done
abbrev pub AreWholeDocEvents : World → List DocEvent → Type 0
AreWholeDocEvents w [] = Unit {0}
AreWholeDocEvents w (x ∷ xs) = IsWholeDocEvent w x × AreWholeDocEvents (after_doc_event w x) xs

-- A run: replicas that begin with documents of their own, and what is done to them.
pub record IsWholeRun (docs : ℕ → BareDoc) (xs : List DocEvent) : Type 0 where
  pub are_docs : (i : ℕ) → IsDoc (docs i)
  pub are_doc_events : AreWholeDocEvents (begin docs) xs

-- a replica that has learned what is within an agreed set has the join of it
abbrev pub WholeRunsJoin : Type 0
WholeRunsJoin = (S : List Db) (docs : ℕ → BareDoc) (xs : List DocEvent) → Agreed S
    → IsWholeRun docs xs → (i : ℕ) → IsWithin (world_after docs xs i).learned S
    → db_in (world_after docs xs i).doc ≡ join (world_after docs xs i).learned

-- and so replicas that have learned the same have the same database
abbrev pub WholeRunsSame : Type 0
WholeRunsSame = (S : List Db) (docs : ℕ → BareDoc) (xs : List DocEvent) → Agreed S
    → IsWholeRun docs xs → (i j : ℕ) → IsWithin (world_after docs xs j).learned S
    → IsWithin (world_after docs xs i).learned (world_after docs xs j).learned
    → IsWithin (world_after docs xs j).learned (world_after docs xs i).learned
    → db_in (world_after docs xs i).doc ≡ db_in (world_after docs xs j).doc
