-- Runs of changes and merges over several replicas, as calls make them.
use Rattle.std.specs.Prelude.{◌≡◌, ℕ, List, [], ◌∷◌, ◌++◌, Ok, map}
use Rattle.vault_model.specs.Db.{Db}
use Rattle.vault_model.specs.Join.{join, IsWithin, Agreed}
use Rattle.vault_model.specs.Plans.{Step, World, begin, change, learned_by, merged, put, run, IsSchedule, IsStep}
use Rattle.vault_model.specs.Tree.{BareDoc, LEVELS, IsDoc, db_in}
use Rattle.merge_core.specs.JoinLaws.{LearnsWithin}
use Rattle.document_merge.specs.Merging.{merge_result}

-- What a call writes: a document that a replica's grew to, or what a merge of other replicas into
-- one resulted in.
pub data Writing : Type 0 where
  growth : ℕ → BareDoc → Writing
  joining : ℕ → List ℕ → BareDoc → Writing

-- the documents of some replicas
abbrev pub docs_of : World → List ℕ → List BareDoc
docs_of w js = map (λ j. (w j).doc) js

-- what may be written: what a document grows to, or the result of a merge
abbrev pub IsWriting : World → Writing → Type 0
IsWriting w (growth i d) = IsDoc d × IsStep LEVELS w (change i d)
IsWriting w (joining i js d) = merge_result (w i).doc (docs_of w js) ≡ Ok d

-- the replicas after it, one of which has this document now, and has learned what it was made of
abbrev pub after_writing : World → Writing → World
after_writing w (growth i d) = put w i (record {
  doc = d;
  learned = (w i).learned ++ db_in d ∷ [];
})
after_writing w (joining i js d) = put w i (record {
  doc = d;
  learned = (w i).learned ++ learned_by w js;
})

-- the replicas after several, one after another
abbrev pub after_writings : World → List Writing → World
after_writings w [] = w
after_writings w (x ∷ xs) = after_writings (after_writing w x) xs

-- each is one that may be written
abbrev pub AreWritings : World → List Writing → Type 0
AreWritings w [] = Unit {0}
AreWritings w (x ∷ xs) = IsWriting w x × AreWritings (after_writing w x) xs

-- it is this step of a schedule
abbrev pub step_of : Writing → Step
step_of (growth i d) = change i d
step_of (joining i js d) = merged i js

-- A run: replicas that begin with documents of their own, what is written to them, and a set in
-- which everything is that is learned anywhere.
pub record IsRun (S : List Db) (docs : ℕ → BareDoc) (xs : List Writing) : Type 0 where
  pub agreed : Agreed S
  pub are_docs : (i : ℕ) → IsDoc (docs i)
  pub are_writings : AreWritings (begin docs) xs
  pub within : LearnsWithin (after_writings (begin docs) xs) S

-- a run is a schedule
abbrev pub RunsAreSchedules : Type 0
RunsAreSchedules = (S : List Db) (docs : ℕ → BareDoc) (xs : List Writing) → IsRun S docs xs
    → IsSchedule LEVELS (begin docs) (map step_of xs)
    × (run LEVELS (begin docs) (map step_of xs) ≡ after_writings (begin docs) xs)

-- and so each replica's database is the join of what it has learned
abbrev pub RunsJoin : Type 0
RunsJoin = (S : List Db) (docs : ℕ → BareDoc) (xs : List Writing) → IsRun S docs xs → (i : ℕ)
    → db_in (after_writings (begin docs) xs i).doc
    ≡ join (after_writings (begin docs) xs i).learned

-- and replicas that have learned the same databases have the same database, whatever was written
abbrev pub RunsAgree : Type 0
RunsAgree = (S : List Db) (docs : ℕ → BareDoc) (xs : List Writing) → IsRun S docs xs → (i j : ℕ)
    → IsWithin (after_writings (begin docs) xs i).learned
    (after_writings (begin docs) xs j).learned
    → IsWithin (after_writings (begin docs) xs j).learned
    (after_writings (begin docs) xs i).learned
    → db_in (after_writings (begin docs) xs i).doc ≡ db_in (after_writings (begin docs) xs j).doc
