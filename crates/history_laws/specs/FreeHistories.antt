-- Histories that agree by what was done: nothing is deleted for good, no group is moved, and no id
-- is drawn twice.
use Rattle.std.specs.Prelude.{◌≡◌, ℕ, true, false, List, [], ◌∷◌, None, Some}
use Rattle.std.specs.FinMap.{contains_key, get}
use Rattle.vault_model.specs.Db.{Db, NodeId, Place, Sound, holds}
use Rattle.vault_model.specs.Join.{Agreed, IsIn, IsWithin}
use Rattle.vault_model.specs.Plans.{World, begin, change, merged}
use Rattle.vault_model.specs.Tree.{BareDoc, db_in}
use Rattle.history_laws.specs.Current.{current_view}
use Rattle.history_laws.specs.Histories.{AreTrimmedEvents, Event, after_event, after_events, copy, schedule_step}

-- A change that adds, edits or moves entries, or adds groups: what is there stays and is no tombstone, and
-- groups stay where they are.
pub record OnlyAdds (m n : Db) : Type 0 where
  pub root : m.root ≡ n.root
  pub entries : (u : NodeId) → contains_key m.entries u ≡ true → contains_key n.entries u ≡ true
  pub groups : (u : NodeId) → contains_key m.groups u ≡ true → contains_key n.groups u ≡ true
  pub tombs : m.tombs ≡ n.tombs
  pub parents : (g : NodeId) (p q : Place) → contains_key m.groups g ≡ true
      → get m.places g ≡ Some p → get n.places g ≡ Some q → p.parent ≡ q.parent

-- what is new in the second database is held by none that is known, and none has a tombstone of it
abbrev pub IsFresh : List Db → Db → Db → Type 0
IsFresh known m n = (x : Db) (u : NodeId) → IsIn x known → holds n u ≡ true → holds m u ≡ false
    → (holds x u ≡ false) × (get x.tombs u ≡ None)

-- all databases that were made by changes, each known when it was made
abbrev pub known_after : List Db → Event → List Db
known_after known (schedule_step (change i d)) = db_in d ∷ known
known_after known (schedule_step (merged i js)) = known
known_after known (copy i j) = known

-- after several events
abbrev pub known_at_end : List Db → List Event → List Db
known_at_end known [] = known
known_at_end known (e ∷ es) = known_at_end (known_after known e) es

-- a change only adds, and its new ids are fresh
abbrev pub IsFree : World → List Db → Event → Type 0
IsFree w known (schedule_step (change i d)) = Sound (db_in d)
    × (OnlyAdds (db_in (w i).doc) (db_in d) × IsFresh known (db_in (w i).doc) (db_in d))
IsFree w known (schedule_step (merged i js)) = Unit {0}
IsFree w known (copy i j) = Unit {0}

-- each event is one that is free
abbrev pub AreFree : ℕ → World → List Db → List Event → Type 0
AreFree n w known [] = Unit {0}
AreFree n w known (e ∷ es) = IsFree w known e
    × AreFree n (after_event n w e) (known_after known e) es

-- A history of copies of one database, in which each change only adds.
pub record IsFreeHistory (n : ℕ) (m : Db) (docs : ℕ → BareDoc) (es : List Event) : Type 0 where
  pub sound : Sound m
  pub copies : (i : ℕ) → db_in (docs i) ≡ m
  pub events : AreTrimmedEvents n (begin docs) es
  pub free : AreFree n (begin docs) (m ∷ []) es

-- all that is learned in it agrees
abbrev pub FreeHistoriesAgree : Type 0
FreeHistoriesAgree = (n : ℕ) (m : Db) (docs : ℕ → BareDoc) (es : List Event)
    → IsFreeHistory n m docs es → Agreed (known_at_end (m ∷ []) es)
    × ((i : ℕ) → IsWithin (after_events n (begin docs) es i).learned (known_at_end (m ∷ []) es))

-- so two replicas that have learned the same are alike in what is current, with no other premise
abbrev pub FreeSameCurrent : Type 0
FreeSameCurrent = (n : ℕ) (m : Db) (docs : ℕ → BareDoc) (es : List Event)
    → IsFreeHistory n m docs es → (i j : ℕ)
    → IsWithin (after_events n (begin docs) es i).learned
    (after_events n (begin docs) es j).learned
    → IsWithin (after_events n (begin docs) es j).learned
    (after_events n (begin docs) es i).learned
    → current_view (db_in (after_events n (begin docs) es i).doc)
    ≡ current_view (db_in (after_events n (begin docs) es j).doc)
