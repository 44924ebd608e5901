-- Runs of changes, merges and copies over several replicas, whose histories may be trimmed.
use Rattle.std.specs.Prelude.{◌≡◌, ℕ, List, [], ◌∷◌}
use Rattle.vault_model.specs.Db.{Db}
use Rattle.vault_model.specs.Join.{join, IsWithin, Agreed}
use Rattle.vault_model.specs.Plans.{Step, World, after_step, begin, change, dbs_of, merged, put, IsStep}
use Rattle.vault_model.specs.Tree.{BareDoc, FitsLevels, db_in}
use Rattle.history_laws.specs.Current.{current_view}

-- A step of a schedule; or a replica becomes a copy of another, as where a file is overwritten.
pub data Event : Type 0 where
  schedule_step : Step → Event
  copy : ℕ → ℕ → Event

-- the replicas after it; a copy has the document of the other, and has learned what the other has
abbrev pub after_event : ℕ → World → Event → World
after_event n w (schedule_step s) = after_step n w s
after_event n w (copy i j) = put w i (w j)

-- the replicas after several, one after another
abbrev pub after_events : ℕ → World → List Event → World
after_events n w [] = w
after_events n w (e ∷ es) = after_events n (after_event n w e) es

-- ---- whole histories

-- a change only grows, a merge passes no level, and any replica may be copied
abbrev pub IsEvent : ℕ → World → Event → Type 0
IsEvent n w (schedule_step s) = IsStep n w s
IsEvent n w (copy i j) = Unit {0}

-- each event is one that may be
abbrev pub AreEvents : ℕ → World → List Event → Type 0
AreEvents n w [] = Unit {0}
AreEvents n w (e ∷ es) = IsEvent n w e × AreEvents n (after_event n w e) es

-- ---- trimmed histories

-- a change only grows in what is current; a merge passes no level
abbrev pub IsTrimmedStep : ℕ → World → Step → Type 0
IsTrimmedStep n w (change i d) =
    current_view (join (db_in (w i).doc ∷ db_in d ∷ [])) ≡ current_view (db_in d)
IsTrimmedStep n w (merged i js) = FitsLevels n (join (db_in (w i).doc ∷ dbs_of w js))

-- and any replica may be copied
abbrev pub IsTrimmedEvent : ℕ → World → Event → Type 0
IsTrimmedEvent n w (schedule_step s) = IsTrimmedStep n w s
IsTrimmedEvent n w (copy i j) = Unit {0}

-- each event is one that may be
abbrev pub AreTrimmedEvents : ℕ → World → List Event → Type 0
AreTrimmedEvents n w [] = Unit {0}
AreTrimmedEvents n w (e ∷ es) = IsTrimmedEvent n w e × AreTrimmedEvents n (after_event n w e) es

-- ---- the laws

-- whatever other replicas do, one that has learned what is within an agreed set has the join of it
abbrev pub HistoriesAgree : Type 0
HistoriesAgree = (n : ℕ) (S : List Db) (docs : ℕ → BareDoc) (es : List Event) → Agreed S
    → AreEvents n (begin docs) es → (i : ℕ)
    → IsWithin (after_events n (begin docs) es i).learned S
    → db_in (after_events n (begin docs) es i).doc
    ≡ join (after_events n (begin docs) es i).learned

-- and where histories are trimmed, what is current of it
abbrev pub TrimmedAgree : Type 0
TrimmedAgree = (n : ℕ) (S : List Db) (docs : ℕ → BareDoc) (es : List Event) → Agreed S
    → AreTrimmedEvents n (begin docs) es → (i : ℕ)
    → IsWithin (after_events n (begin docs) es i).learned S
    → current_view (db_in (after_events n (begin docs) es i).doc)
    ≡ current_view (join (after_events n (begin docs) es i).learned)

-- so two replicas that have learned the same have the same database
abbrev pub SameHistorySameDb : Type 0
SameHistorySameDb = (n : ℕ) (S : List Db) (docs : ℕ → BareDoc) (es : List Event) → Agreed S
    → AreEvents n (begin docs) es → (i j : ℕ)
    → IsWithin (after_events n (begin docs) es j).learned S
    → IsWithin (after_events n (begin docs) es i).learned
    (after_events n (begin docs) es j).learned
    → IsWithin (after_events n (begin docs) es j).learned
    (after_events n (begin docs) es i).learned
    → db_in (after_events n (begin docs) es i).doc
    ≡ db_in (after_events n (begin docs) es j).doc

-- and where histories are trimmed, the same current entries, and the same groups, places, settings
-- and tombstones
abbrev pub SameHistorySameCurrent : Type 0
SameHistorySameCurrent = (n : ℕ) (S : List Db) (docs : ℕ → BareDoc) (es : List Event) → Agreed S
    → AreTrimmedEvents n (begin docs) es → (i j : ℕ)
    → IsWithin (after_events n (begin docs) es j).learned S
    → IsWithin (after_events n (begin docs) es i).learned
    (after_events n (begin docs) es j).learned
    → IsWithin (after_events n (begin docs) es j).learned
    (after_events n (begin docs) es i).learned
    → current_view (db_in (after_events n (begin docs) es i).doc)
    ≡ current_view (db_in (after_events n (begin docs) es j).doc)
