-- Runs that agree by what is done: nothing is deleted for good, no group is moved, and no id is drawn
-- twice.
use Rattle.std.specs.Prelude.{◌≡◌, ℕ, List, [], ◌∷◌, map}
use Rattle.vault_model.specs.Db.{Db}
use Rattle.vault_model.specs.Join.{join, IsWithin, Agreed}
use Rattle.vault_model.specs.Plans.{World, begin}
use Rattle.vault_model.specs.Tree.{BareDoc, db_in}
use Rattle.agreed_laws.specs.DocumentMerge.Merging.{merge_result}
use Rattle.agreed_laws.specs.Merges.{MergesInto}
use Rattle.agreed_laws.specs.Runs.{docs_of}
use Rattle.history_laws.specs.Current.{current_view}
use Rattle.history_laws.specs.FreeHistories.{IsFresh, OnlyAdds}
use Rattle.run_laws.specs.TrimmedRuns.{DocEvent, IsRun, after_doc_event, growth, joining, overwriting, world_after}

-- all databases that were made by growth, each known when it was made
abbrev pub known_by : List Db → DocEvent → List Db
known_by known (growth i d) = db_in d ∷ known
known_by known (joining i js d) = known
known_by known (overwriting i j) = known

-- after several
abbrev pub known_by_all : List Db → List DocEvent → List Db
known_by_all known [] = known
known_by_all known (x ∷ xs) = known_by_all (known_by known x) xs

-- growth only adds, and its new ids are fresh
abbrev pub IsFreeDocEvent : World → List Db → DocEvent → Type 0
IsFreeDocEvent w known (growth i d) = OnlyAdds (db_in (w i).doc) (db_in d)
    × IsFresh known (db_in (w i).doc) (db_in d)
IsFreeDocEvent w known (joining i js d) = Unit {0}
IsFreeDocEvent w known (overwriting i j) = Unit {0}

-- each is one that is free
abbrev pub AreFreeDocEvents : World → List Db → List DocEvent → Type 0
AreFreeDocEvents w known [] = Unit {0}
AreFreeDocEvents w known (x ∷ xs) = IsFreeDocEvent w known x
    × AreFreeDocEvents (after_doc_event w x) (known_by known x) xs

-- A run of copies of one database in which growth only adds.
pub record IsFreeRun (m : Db) (docs : ℕ → BareDoc) (xs : List DocEvent) : Type 0 where
  pub run : IsRun docs xs
  pub copies : (i : ℕ) → db_in (docs i) ≡ m
  pub free : AreFreeDocEvents (begin docs) (m ∷ []) xs

-- all that is learned in it agrees
abbrev pub FreeRunsAgree : Type 0
FreeRunsAgree = (m : Db) (docs : ℕ → BareDoc) (xs : List DocEvent) → IsFreeRun m docs xs
    → Agreed (known_by_all (m ∷ []) xs)
    × ((i : ℕ) → IsWithin (world_after docs xs i).learned (known_by_all (m ∷ []) xs))

-- after it no merge is refused but where a node is too deep
abbrev pub FreeRunsMerge : Type 0
FreeRunsMerge = (m : Db) (docs : ℕ → BareDoc) (xs : List DocEvent) → IsFreeRun m docs xs
    → (i : ℕ) (js : List ℕ)
    → MergesInto (join (map db_in (docs_of (world_after docs xs) (i ∷ js))))
    (merge_result (world_after docs xs i).doc (docs_of (world_after docs xs) js))

-- and replicas that have learned the same are alike in what is current
abbrev pub FreeRunsSame : Type 0
FreeRunsSame = (m : Db) (docs : ℕ → BareDoc) (xs : List DocEvent) → IsFreeRun m docs xs → (i j : ℕ)
    → IsWithin (world_after docs xs i).learned (world_after docs xs j).learned
    → IsWithin (world_after docs xs j).learned (world_after docs xs i).learned
    → current_view (db_in (world_after docs xs i).doc)
    ≡ current_view (db_in (world_after docs xs j).doc)
