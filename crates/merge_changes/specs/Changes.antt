-- The changes from one database to another, by rising id. The entries of the document that the
-- first is the database of say which version was current.
use Rattle.std.specs.Prelude.{Bool, true, false, ◌&&◌, cond, List, [], ◌∷◌, ◌++◌, Option, None, Some}
use Rattle.std.specs.FinMap.{FinMap, entries, get, keys}
use Rattle.std.specs.List.{flat_map}
use Rattle.std.specs.Ordering.{eq_by_cmp}
use Rattle.vault_model.specs.declared.contents.Stats.{Stats}
use Rattle.vault_model.specs.Db.{NodeId, id_cmp, Mark, mark_cmp, Versions, Place, Db}
use Rattle.vault_model.specs.Join.{is_id}
use Rattle.vault_model.specs.Shape.{EntryRecord, last_of}
use Rattle.vault_model.specs.Unite.{tabulate}
use Rattle.merge_changes.specs.declared.changes.Change.{Change}
use Rattle.merge_changes.specs.declared.changes.Change.TheVariants.{Created, Updated, Moved, Deleted, Metadata, Deletions, Order}
use Rattle.merge_changes.specs.declared.changes.Kind.{Kind}
use Rattle.merge_changes.specs.declared.changes.Kind.TheVariants.{Entry, Group}
use Rattle.merge_changes.specs.Equality.{same_all, same_nat, same_state, same_stats}

-- two marks are the same, and used the same
abbrev pub same_use : Mark × Stats → Mark × Stats → Bool
same_use v w = eq_by_cmp mark_cmp v.0 w.0 && same_stats v.1 w.1

-- two entries have the same versions, used the same
abbrev pub same_versions : Versions → Versions → Bool
same_versions v w = same_all same_use (entries v) (entries w)

-- the last of these versions, which rise, has this mark
abbrev pub is_last : Mark → List (Mark × Stats) → Bool
is_last m [] = false
is_last m (v ∷ vs) = eq_by_cmp mark_cmp m (last_of v vs).0

-- the version that was current still is: it is the greatest of these
abbrev pub stays_current : Option EntryRecord → Versions → Bool
stays_current None w = false
stays_current (Some e) w = is_last e.current.mark (entries w)

-- two places are the same, or neither is there
abbrev pub same_place : Option Place → Option Place → Bool
same_place None None = true
same_place None (Some q) = false
same_place (Some p) None = false
same_place (Some p) (Some q) =
    same_nat p.placed q.placed && (is_id p.parent q.parent && is_id p.previous q.previous)

-- the changes of a node of one kind: it is there only now; it has another value, or another place;
-- it was there only before
abbrev pub kind_changes : {A : Type 0} → (A → A → Bool) → Kind → NodeId → Bool → Option A
    → Option A → List Change
kind_changes same kind u stays None None = []
kind_changes same kind u stays None (Some y) = Created kind u ∷ []
kind_changes same kind u stays (Some x) None = Deleted kind u ∷ []
kind_changes same kind u stays (Some x) (Some y) = cond (same x y) [] (Updated kind u ∷ [])
    ++ cond stays [] (Moved kind u ∷ [])

-- the changes of an entry of this id; its value differs also where another version is current
abbrev pub entry_changes : FinMap id_cmp EntryRecord → Db → Db → NodeId → List Change
entry_changes older a b u = kind_changes
    (λ v w. same_versions v w && stays_current (get older u) w) Entry u
    (same_place (get a.places u) (get b.places u)) (get a.entries u) (get b.entries u)

-- the changes of a group of this id
abbrev pub group_changes : Db → Db → NodeId → List Change
group_changes a b u = kind_changes same_state Group u
    (same_place (get a.places u) (get b.places u)) (get a.groups u) (get b.groups u)

-- the changes of the node of an id
abbrev pub changes_at : FinMap id_cmp EntryRecord → Db → Db → NodeId → List Change
changes_at older a b u = entry_changes older a b u ++ group_changes a b u

-- some ids by rising id, each once
abbrev pub rising_ids : List NodeId → List NodeId
rising_ids us = keys (tabulate {R = id_cmp} us (λ u. Some true))

-- the nodes of two databases
abbrev pub nodes_of : Db → Db → List NodeId
nodes_of a b = (keys a.entries ++ keys a.groups) ++ (keys b.entries ++ keys b.groups)

-- the changes of all nodes
abbrev pub node_changes : FinMap id_cmp EntryRecord → Db → Db → List Change
node_changes older a b = flat_map (changes_at older a b) (rising_ids (nodes_of a b))

-- where nothing else is listed and the documents differ, their arrangement does: that of siblings,
-- or of the versions in an entry's history
abbrev pub or_order : Bool → List Change → List Change
or_order same [] = cond same [] (Order ∷ [])
or_order same (c ∷ cs) = c ∷ cs

-- the changes of a database: of its nodes, of what it says of itself, of its tombstones, and of its
-- arrangement, where these are found to be the same or not
abbrev pub all_changes : FinMap id_cmp EntryRecord → Db → Db → (metas tombs same : Bool)
    → List Change
all_changes older a b metas tombs same = or_order same (node_changes older a b
    ++ (cond metas [] (Metadata ∷ []) ++ cond tombs [] (Deletions ∷ [])))
