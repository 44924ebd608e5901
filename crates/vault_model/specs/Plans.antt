-- Orders and groupings of merges, and runs of changes and merges over several replicas.
use Rattle.std.specs.Prelude.{◌≡◌, ℕ, List, [], ◌∷◌, ◌++◌, cond, nat_eq}
use Rattle.vault_model.specs.Db.{Db}
use Rattle.vault_model.specs.Join.{join, Allowed}
use Rattle.vault_model.specs.Tree.{BareDoc, db_in, lay_doc, FitsLevels}

-- ---- plans

-- A document, or a merge of plans of which the first is the target.
mutual
  pub data Plan : Type 0 where
    leaf : BareDoc → Plan
    merge : Plan → Plans → Plan

  -- plans side by side
  pub data Plans : Type 0 where
    none : Plans
    more : Plan → Plans → Plans

-- what a plan results in, as a database
abbrev mutual
  pub value : Plan → Db
  value (leaf d) = db_in d
  value (merge p ps) = join (value p ∷ values ps)

  -- the values of several plans
  pub values : Plans → List Db
  values none = []
  values (more p ps) = value p ∷ values ps

-- the document that carrying a plan out writes, on n levels
abbrev mutual
  pub tree : ℕ → Plan → BareDoc
  tree n (leaf d) = d
  tree n (merge p ps) = lay_doc n (join (db_in (tree n p) ∷ tree_dbs n ps)) (tree n p)

  -- the databases of the documents that several plans write
  pub tree_dbs : ℕ → Plans → List Db
  tree_dbs n none = []
  tree_dbs n (more p ps) = db_in (tree n p) ∷ tree_dbs n ps

-- the databases at the leaves of a plan
abbrev mutual
  pub leaves : Plan → List Db
  leaves (leaf d) = db_in d ∷ []
  leaves (merge p ps) = leaves p ++ all_leaves ps

  -- the same of several plans
  pub all_leaves : Plans → List Db
  all_leaves none = []
  all_leaves (more p ps) = leaves p ++ all_leaves ps

-- every list joined on the way can be joined
abbrev mutual
  pub IsAllowed : Plan → Type 0
  IsAllowed (leaf d) = Unit {0}
  IsAllowed (merge p ps) = Allowed (value p ∷ values ps) × (IsAllowed p × AreAllowed ps)

  -- the same of several plans
  pub AreAllowed : Plans → Type 0
  AreAllowed none = Unit {0}
  AreAllowed (more p ps) = IsAllowed p × AreAllowed ps

-- no level passes n on the way
abbrev mutual
  pub Fits : ℕ → Plan → Type 0
  Fits n (leaf d) = Unit {0}
  Fits n (merge p ps) = FitsLevels n (value (merge p ps)) × (Fits n p × AllFit n ps)

  -- the same of several plans
  pub AllFit : ℕ → Plans → Type 0
  AllFit n none = Unit {0}
  AllFit n (more p ps) = Fits n p × AllFit n ps

-- ---- schedules

-- A replica: its document, and the databases that it has learned.
pub record Replica : Type 0 where
  pub doc : BareDoc
  pub learned : List Db

-- all replicas, by their numbers
abbrev pub World : Type 0
World = ℕ → Replica

-- A replica's document is changed, or some replicas are merged into it.
pub data Step : Type 0 where
  change : ℕ → BareDoc → Step
  merged : ℕ → List ℕ → Step

-- each replica begins with its own document, and has learned its database
abbrev pub begin : (ℕ → BareDoc) → World
begin docs = λ i. record { doc = docs i; learned = db_in (docs i) ∷ [] }

-- what some replicas have learned, end to end
abbrev pub learned_by : World → List ℕ → List Db
learned_by w [] = []
learned_by w (j ∷ js) = (w j).learned ++ learned_by w js

-- the databases of some replicas' documents
abbrev pub dbs_of : World → List ℕ → List Db
dbs_of w [] = []
dbs_of w (j ∷ js) = db_in (w j).doc ∷ dbs_of w js

-- the replicas with one put in the place of that of its number
abbrev pub put : World → ℕ → Replica → World
put w i r = λ j. cond (nat_eq j i) r (w j)

-- one step, on n levels
abbrev pub after_step : ℕ → World → Step → World
after_step n w (change i d) = put w i (record { doc = d; learned = (w i).learned ++ db_in d ∷ [] })
after_step n w (merged i js) = put w i (record {
  doc = lay_doc n (join (db_in (w i).doc ∷ dbs_of w js)) (w i).doc;
  learned = (w i).learned ++ learned_by w js;
})

-- the replicas after some steps, one after another
abbrev pub run : ℕ → World → List Step → World
run n w [] = w
run n w (s ∷ ss) = run n (after_step n w s) ss

-- a change only grows: the join of the databases before and after it is the one after it; a merge
-- passes no level
abbrev pub IsStep : ℕ → World → Step → Type 0
IsStep n w (change i d) = join (db_in (w i).doc ∷ db_in d ∷ []) ≡ db_in d
IsStep n w (merged i js) = FitsLevels n (join (db_in (w i).doc ∷ dbs_of w js))

-- each step is one that may be made
abbrev pub IsSchedule : ℕ → World → List Step → Type 0
IsSchedule n w [] = Unit {0}
IsSchedule n w (s ∷ ss) = IsStep n w s × IsSchedule n (after_step n w s) ss
