-- Runs of changes, merges and copies over several replicas, as calls make them, where histories may be
-- trimmed.
use Rattle.std.specs.Prelude.{◌≡◌, ℕ, List, [], ◌∷◌, ◌++◌, Ok}
use Rattle.vault_model.specs.Db.{Db}
use Rattle.vault_model.specs.Join.{join, IsWithin, Agreed}
use Rattle.vault_model.specs.Plans.{World, begin, change, learned_by, put}
use Rattle.vault_model.specs.Tree.{BareDoc, LEVELS, IsDoc, db_in}
use Rattle.agreed_laws.specs.DocumentMerge.Merging.{merge_result}
use Rattle.agreed_laws.specs.Runs.{docs_of}
use Rattle.history_laws.specs.Current.{current_view}
use Rattle.history_laws.specs.Histories.{IsTrimmedStep}

-- What is done to a replica: its document grows in what is current, other replicas are merged into
-- it, or it becomes a copy of another.
pub data DocEvent : Type 0 where
  growth : ℕ → BareDoc → DocEvent
  joining : ℕ → List ℕ → BareDoc → DocEvent
  overwriting : ℕ → ℕ → DocEvent

-- what may be done
abbrev pub IsDocEvent : World → DocEvent → Type 0
IsDocEvent w (growth i d) = IsDoc d × IsTrimmedStep LEVELS w (change i d)
IsDocEvent w (joining i js d) = merge_result (w i).doc (docs_of w js) ≡ Ok d
IsDocEvent w (overwriting i j) = Unit {0}

-- the replicas after it, one of which has this document now, and has learned what it was made of
abbrev pub after_doc_event : World → DocEvent → World
after_doc_event w (growth i d) = put w i (record {
  doc = d;
  learned = (w i).learned ++ db_in d ∷ [];
})
after_doc_event w (joining i js d) = put w i (record {
  doc = d;
  learned = (w i).learned ++ learned_by w js;
})
after_doc_event w (overwriting i j) = put w i (w j)

-- the replicas after several, one after another
abbrev pub after_doc_events : World → List DocEvent → World
after_doc_events w [] = w
after_doc_events w (x ∷ xs) = after_doc_events (after_doc_event w x) xs

-- the replicas after a run that begins with these documents
abbrev pub world_after : (ℕ → BareDoc) → List DocEvent → World
world_after docs xs = after_doc_events (begin docs) xs

-- each is one that may be done
abbrev pub AreDocEvents : World → List DocEvent → Type 0
AreDocEvents w [] = Unit {0}
AreDocEvents w (x ∷ xs) = IsDocEvent w x × AreDocEvents (after_doc_event w x) xs

-- A run: replicas that begin with documents of their own, and what is done to them.
pub record IsRun (docs : ℕ → BareDoc) (xs : List DocEvent) : Type 0 where
  pub are_docs : (i : ℕ) → IsDoc (docs i)
  pub are_doc_events : AreDocEvents (begin docs) xs

-- what is current of a replica that has learned what is within an agreed set is what is current of
-- the join of it
abbrev pub TrimmedRunsJoin : Type 0
TrimmedRunsJoin = (S : List Db) (docs : ℕ → BareDoc) (xs : List DocEvent) → Agreed S → IsRun docs xs
    → (i : ℕ) → IsWithin (world_after docs xs i).learned S
    → current_view (db_in (world_after docs xs i).doc)
    ≡ current_view (join (world_after docs xs i).learned)

-- and so replicas that have learned the same are alike in what is current
abbrev pub TrimmedRunsSame : Type 0
TrimmedRunsSame = (S : List Db) (docs : ℕ → BareDoc) (xs : List DocEvent) → Agreed S → IsRun docs xs
    → (i j : ℕ) → IsWithin (world_after docs xs j).learned S
    → IsWithin (world_after docs xs i).learned (world_after docs xs j).learned
    → IsWithin (world_after docs xs j).learned (world_after docs xs i).learned
    → current_view (db_in (world_after docs xs i).doc)
    ≡ current_view (db_in (world_after docs xs j).doc)
