-- The laws of joining copies of one database, each a statement by itself.
use Rattle.std.specs.Prelude.{◌≡◌, ◌≤◌, ℕ, true, List, [], ◌∷◌, ◌++◌, None, Some, map, max, ◌↔◌}
use Rattle.std.specs.FinMap.{get}
use Rattle.vault_model.specs.declared.contents.Stats.{Stats}
use Rattle.vault_model.specs.Db.{NodeId, Mark, Versions, Place, Db, holds, Sound}
use Rattle.vault_model.specs.Join.{is_held, latest, own, kept, join, IsIn, IsWithin, IsNotEmpty, IsPart, Agreed}
use Rattle.vault_model.specs.Plans.{Plan, value, tree, leaves, IsAllowed, Fits, World, Step, begin, run, IsSchedule}
use Rattle.vault_model.specs.Tree.{BareDoc, db_in, lay_doc, IsSettled}
use Rattle.vault_model.specs.Unite.{gather}

-- ---- what agreed sets inherit; R is any part of the members

-- an id is own exactly where a member holds it and none has a tombstone of it
abbrev pub OwnIsAlive : Type 0
OwnIsAlive = (S R : List Db) → Agreed S → IsPart R S → (u : NodeId)
    → (own R u ≡ true) ↔ ((is_held R u ≡ true) × ((m : Db) → IsIn m R → get m.tombs u ≡ None))

-- the latest parent of an own node is own
abbrev pub ParentsAreOwn : Type 0
ParentsAreOwn = (S R : List Db) → Agreed S → IsPart R S → (u : NodeId) (p : Place)
    → own R u ≡ true → latest R u ≡ Some p → own R p.parent ≡ true

-- and so the kept nodes are the own ones
abbrev pub KeptIsOwn : Type 0
KeptIsOwn = (S R : List Db) → Agreed S → IsPart R S → (u : NodeId) → kept R u ≡ own R u

-- the join holds exactly the own nodes
abbrev pub JoinHoldsOwn : Type 0
JoinHoldsOwn = (S R : List Db) → Agreed S → IsPart R S → (u : NodeId) → holds (join R) u ≡ own R u

-- and has of each id the latest tombstone that a member has of it
abbrev pub JoinKeepsTombs : Type 0
JoinKeepsTombs = (S R : List Db) → Agreed S → IsPart R S → (u : NodeId)
    → get (join R).tombs u ≡ gather max (map (λ (m : Db). get m.tombs u) R)

-- several parts of a set
abbrev pub AreParts : List (List Db) → List Db → Type 0
AreParts [] S = Unit {0}
AreParts (R ∷ Rs) S = IsPart R S × AreParts Rs S

-- lists put end to end
abbrev pub end_to_end : List (List Db) → List Db
end_to_end [] = []
end_to_end (R ∷ Rs) = R ++ end_to_end Rs

-- the joins of parts of an agreed set are agreed again
abbrev pub JoinsAgree : Type 0
JoinsAgree = (S : List Db) (Rs : List (List Db)) → Agreed S → AreParts Rs S → Agreed (map join Rs)

-- and the join of the joins is the join of all
abbrev pub JoinOfJoins : Type 0
JoinOfJoins = (S : List Db) (Rs : List (List Db)) → Agreed S → AreParts Rs S → IsNotEmpty Rs
    → join (map join Rs) ≡ join (end_to_end Rs)

-- ---- plans

-- the leaves of a plan name every member of a set, and nothing else
abbrev pub Names : Plan → List Db → Type 0
Names p S = IsWithin (leaves p) S × IsWithin S (leaves p)

-- every order and grouping of merges of an agreed set can be carried out, and results in the join
-- of the set
abbrev pub PlansAgree : Type 0
PlansAgree = (S : List Db) (p : Plan) → Agreed S → Names p S → IsAllowed p × (value p ≡ join S)

-- and where no level passes the limit on the way, so does the document that it writes
abbrev pub DocumentsAgree : Type 0
DocumentsAgree = (n : ℕ) (S : List Db) (p : Plan) → Agreed S → Names p S → Fits n p
    → db_in (tree n p) ≡ join S

-- ---- revisions

-- the versions of an entry in a database have one at a mark, used at least so late and so often
pub record IsThere (m : Db) (u : NodeId) (k : Mark) (s : Stats) : Type 0 where
  pub versions : Versions
  pub stats : Stats
  pub entry : get m.entries u ≡ Some versions
  pub version : get versions k ≡ Some stats
  pub accessed : s.accessed ≤ stats.accessed
  pub usage : s.usage ≤ stats.usage

-- each version that a member has of a kept entry is in the join, whether the members agree or not
abbrev pub KeptVersionsStay : Type 0
KeptVersionsStay = (S : List Db) (m : Db) (u : NodeId) (v : Versions) (k : Mark) (s : Stats)
    → IsIn m S → kept S u ≡ true → get m.entries u ≡ Some v → get v k ≡ Some s
    → IsThere (join S) u k s

-- each version of each entry that a member holds and none has deleted is in the join
abbrev pub VersionsStay : Type 0
VersionsStay = (S : List Db) (m : Db) (u : NodeId) (v : Versions) (k : Mark) (s : Stats) → Agreed S
    → IsIn m S
    → get m.entries u ≡ Some v → get v k ≡ Some s → ((n : Db) → IsIn n S → get n.tombs u ≡ None)
    → IsThere (join S) u k s

-- ---- merging again

-- a merge of what is already in a settled target leaves it as it is
abbrev pub MergesAgain : Type 0
MergesAgain = (n : ℕ) (S R : List Db) (Rs : List (List Db)) (t : BareDoc) → Agreed S → IsPart R S
    → AreParts Rs R
    → db_in t ≡ join R → IsSettled n t → lay_doc n (join (db_in t ∷ map join Rs)) t ≡ t

-- ---- schedules

-- what is learned anywhere is within a set
abbrev pub LearnsWithin : World → List Db → Type 0
LearnsWithin w S = (i : ℕ) → IsWithin (w i).learned S

-- after every step each replica's database is the join of what it has learned
abbrev pub SchedulesAgree : Type 0
SchedulesAgree = (n : ℕ) (S : List Db) (docs : ℕ → BareDoc) (done rest : List Step) → Agreed S
    → IsSchedule n (begin docs) (done ++ rest) → LearnsWithin (run n (begin docs) (done ++ rest)) S
    → (i : ℕ) → db_in (run n (begin docs) done i).doc ≡ join (run n (begin docs) done i).learned

-- and so two replicas that have learned the same databases have the same one
abbrev pub SameLearnedSameDb : Type 0
SameLearnedSameDb = (n : ℕ) (S : List Db) (docs : ℕ → BareDoc) (done rest : List Step) → Agreed S
    → IsSchedule n (begin docs) (done ++ rest) → LearnsWithin (run n (begin docs) (done ++ rest)) S
    → (i j : ℕ)
    → IsWithin (run n (begin docs) done i).learned (run n (begin docs) done j).learned
    → IsWithin (run n (begin docs) done j).learned (run n (begin docs) done i).learned
    → db_in (run n (begin docs) done i).doc ≡ db_in (run n (begin docs) done j).doc

-- ---- beside the laws

-- a sound database alone is agreed
abbrev pub OneIsAgreed : Type 0
OneIsAgreed = (m : Db) → Sound m → Agreed (m ∷ [])
