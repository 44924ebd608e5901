-- What the marking of nodes results in.
use Rattle.std.specs.Prelude.{◌≡◌, ℕ, List, None, Some, Result, Ok, Err}
use Rattle.std.specs.List.{list_any}
use Rattle.vault_model.specs.Db.{NodeId, Db, Sound}
use Rattle.vault_model.specs.Join.{is_id, kept, IsIn}
use Rattle.merge_parts.specs.KnownIds.{known_ids}
use Rattle.merge_core.specs.Marking.{Marks, is_marked, mark_own, strays}
use Rattle.merge_core.specs.Refusals.{least}
use Rattle.merge_join.specs.declared.marking.JoinRefusal.{JoinRefusal}
use Rattle.merge_join.specs.declared.marking.JoinRefusal.TheVariants.{NoMemory, Stray}

-- every member is sound
abbrev pub AllSound : List Db → Type 0
AllSound S = (m : Db) → IsIn m S → Sound m

-- an own node is refused where no marked one is above it within the limit
abbrev pub IsMarkRefusal : List Db → ℕ → NodeId → Marks → Result (Unit {0}) JoinRefusal → Type 0
IsMarkRefusal S limit u t (Ok x) = Unit {0}
IsMarkRefusal S limit u t (Err NoMemory) = Unit {0}
IsMarkRefusal S limit u t (Err (Stray v)) = (v ≡ u) × (mark_own S limit u t ≡ None)

-- the marked ids are the kept ones
abbrev pub AreKept : List Db → Marks → Type 0
AreKept S t = (u : NodeId) → is_marked t u ≡ kept S u

-- the kept ids are marked, and there is no stray; or the least stray is refused
abbrev pub IsKeptResult : List Db → Result Marks JoinRefusal → Type 0
IsKeptResult S (Ok t) = AreKept S t × (least (strays S) ≡ None)
IsKeptResult S (Err NoMemory) = Unit {0}
IsKeptResult S (Err (Stray u)) = least (strays S) ≡ Some u

-- some ids are all that the members know of
abbrev pub AreKnown : List Db → List NodeId → Type 0
AreKnown S us = (u : NodeId) → list_any (is_id u) us ≡ list_any (is_id u) (known_ids S)
