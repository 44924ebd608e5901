-- Changes of a tree: one group changed, nodes put into it and taken out.
use Rattle.std.specs.Prelude.{ℕ, suc, max, find, is_some, Bool, false, not, ◌&&◌, ◌||◌, cond, List, [], ◌∷◌, ◌++◌, Option, None, Some}
use Rattle.std.specs.Option.{option_and_then}
use Rattle.std.specs.Ordering.{is_lt}
use Rattle.std.specs.List.{list_all}
use Rattle.vault_model.specs.declared.nodes.Tombstone.{Tombstone}
use Rattle.vault_model.specs.Db.{NodeId, id_cmp, nil_id}
use Rattle.vault_model.specs.Join.{is_id}
use Rattle.vault_model.specs.SeenNodes.{entry_time}
use Rattle.vault_model.specs.Shape.{EntryRecord, GroupRecord}
use Rattle.vault_model.specs.Tree.{BareDoc, Tree, Trees, beside, entry_rows, group_rows, id_of, is_elsewhere, node, none}
use Rattle.tree_core.specs.Finding.{or_else}

-- ---- one group of a tree

-- a tree has a group of this id
abbrev mutual
  pub has_group : NodeId → Tree → Bool
  has_group u (node v r es ts) = is_id v u || have_group u ts

  -- the same of groups side by side
  pub have_group : NodeId → Trees → Bool
  have_group u none = false
  have_group u (beside t ts) = has_group u t || have_group u ts

-- the tree with its group of this id changed, the first in document order
abbrev mutual
  pub changed_at : NodeId → (Tree → Tree) → Tree → Tree
  changed_at u f (node v r es ts) =
      cond (is_id v u) (f (node v r es ts)) (node v r es (changed_in u f ts))

  -- the same of groups side by side
  pub changed_in : NodeId → (Tree → Tree) → Trees → Trees
  changed_in u f none = none
  changed_in u f (beside t ts) =
      cond (has_group u t) (beside (changed_at u f t) ts) (beside t (changed_in u f ts))

-- the group of this id, where there is one: the first in document order
abbrev mutual
  pub group_with : NodeId → Tree → Option Tree
  group_with u (node v r es ts) = cond (is_id v u) (Some (node v r es ts)) (group_among u ts)

  -- the same of groups side by side
  pub group_among : NodeId → Trees → Option Tree
  group_among u none = None
  group_among u (beside t ts) = cond (has_group u t) (group_with u t) (group_among u ts)

-- the level of the group of this id, the root's being 1, and 0 where there is none
abbrev mutual
  pub level_of : NodeId → Tree → ℕ
  level_of u (node v r es ts) = cond (is_id v u) 1 (suc (level_among u ts))

  -- the same of groups side by side
  pub level_among : NodeId → Trees → ℕ
  level_among u none = 0
  level_among u (beside t ts) = cond (has_group u t) (level_of u t) (level_among u ts)

-- an id that a new node may have: it is not nil, no node's and no tombstone's
abbrev pub is_free : NodeId → BareDoc → Bool
is_free u d = not (is_id nil_id u) && is_elsewhere d.tree u
    && list_all (λ (t : Tombstone). not (is_id t.id u)) d.tombs

-- ---- entries

-- a group whose own entries are changed
abbrev pub on_entries : (List (NodeId × EntryRecord) → List (NodeId × EntryRecord)) → Tree → Tree
on_entries k (node v r es ts) = node v r (k es) ts

-- a group with one entry more, after the others
abbrev pub with_entry : NodeId × EntryRecord → Tree → Tree
with_entry e = on_entries (λ es. es ++ e ∷ [])

-- entries without the first of this id
abbrev pub without : NodeId → List (NodeId × EntryRecord) → List (NodeId × EntryRecord)
without u [] = []
without u (e ∷ es) = cond (is_id e.0 u) es (e ∷ without u es)

-- a group without its own entry of this id
abbrev pub without_entry : NodeId → Tree → Tree
without_entry u = on_entries (without u)

-- entries of which the first of this id is changed
abbrev pub with_changed : NodeId → (EntryRecord → EntryRecord) → List (NodeId × EntryRecord)
    → List (NodeId × EntryRecord)
with_changed u f [] = []
with_changed u f (e ∷ es) = cond (is_id e.0 u) ((e.0, f e.1) ∷ es) (e ∷ with_changed u f es)

-- a group whose own entry of this id is changed
abbrev pub changed_entry : NodeId → (EntryRecord → EntryRecord) → Tree → Tree
changed_entry u f = on_entries (with_changed u f)

-- a group's own entry of this id
abbrev pub own_entry : NodeId → Tree → Option (NodeId × EntryRecord)
own_entry u (node v r es ts) = find (λ (e : NodeId × EntryRecord). is_id e.0 u) es

-- the entry of this id in the group of another
abbrev pub entry_at : NodeId → NodeId → Tree → Option (NodeId × EntryRecord)
entry_at g u t = option_and_then (own_entry u) (group_with g t)

-- the group that holds the entry of this id, the first in document order
abbrev mutual
  pub holder : NodeId → Tree → Option NodeId
  holder u (node v r es ts) =
      cond (is_some (find (λ (e : NodeId × EntryRecord). is_id e.0 u) es)) (Some v)
      (holder_among u ts)

  -- the same of groups side by side
  pub holder_among : NodeId → Trees → Option NodeId
  holder_among u none = None
  holder_among u (beside t ts) = or_else (holder u t) (holder_among u ts)

-- an entry that is moved out of a group: since when it is in another, and its previous parent
abbrev pub moved_entry : NodeId → ℕ → EntryRecord → EntryRecord
moved_entry from time e = record e { placed = time; previous = from }

-- a tree whose entry is moved from one group to the end of another's entries
abbrev pub entry_moved : NodeId → NodeId → ℕ → NodeId × EntryRecord → Tree → Tree
entry_moved from to time e t =
    changed_at to (with_entry (e.0, moved_entry from time e.1))
    (changed_at from (without_entry e.0) t)

-- ---- groups

-- a group whose own groups are changed
abbrev pub on_groups : (Trees → Trees) → Tree → Tree
on_groups k (node v r es ts) = node v r es (k ts)

-- groups side by side with one more after them
abbrev pub with_last : Tree → Trees → Trees
with_last t none = beside t none
with_last t (beside x xs) = beside x (with_last t xs)

-- groups side by side without the first of this id
abbrev pub but_group : NodeId → Trees → Trees
but_group u none = none
but_group u (beside t ts) = cond (is_id (id_of t) u) ts (beside t (but_group u ts))

-- the first of groups side by side that has this id
abbrev pub own_group : NodeId → Trees → Option Tree
own_group u none = None
own_group u (beside t ts) = cond (is_id (id_of t) u) (Some t) (own_group u ts)

-- a group's own group of this id
abbrev pub child_with : NodeId → Tree → Option Tree
child_with u (node v r es ts) = own_group u ts

-- a group with one group more, after the others
abbrev pub with_group : Tree → Tree → Tree
with_group t = on_groups (with_last t)

-- a group without its own group of this id
abbrev pub without_group : NodeId → Tree → Tree
without_group u = on_groups (but_group u)

-- the group that holds the group of this id, the first in document order; none holds the root
abbrev mutual
  pub parent_of : NodeId → Tree → Option NodeId
  parent_of u (node v r es ts) = cond (is_some (own_group u ts)) (Some v) (parent_among u ts)

  -- the same of groups side by side
  pub parent_among : NodeId → Trees → Option NodeId
  parent_among u none = None
  parent_among u (beside t ts) = or_else (parent_of u t) (parent_among u ts)

-- since when a group is where it is
abbrev pub placed_of : Tree → ℕ
placed_of (node u r es ts) = r.placed

-- a group that is moved out of another, in the same way
abbrev pub moved_group : NodeId → ℕ → Tree → Tree
moved_group from time (node u r es ts) = node u (record r { placed = time; previous = from }) es ts

-- a tree whose group is moved from one group to the end of another's groups
abbrev pub group_moved : NodeId → NodeId → ℕ → Tree → Tree → Tree
group_moved from to time g t =
    changed_at to (with_group (moved_group from time g))
    (changed_at from (without_group (id_of g)) t)

-- ---- tombstones

-- tombstones with one more, before the first of a greater id
abbrev pub with_tomb : Tombstone → List Tombstone → List Tombstone
with_tomb t [] = t ∷ []
with_tomb t (x ∷ xs) = cond (is_lt (id_cmp t.id x.id)) (t ∷ x ∷ xs) (x ∷ with_tomb t xs)

-- the tombstone of a node that is deleted now, or when it was last modified if that is later
abbrev pub tomb_at : ℕ → NodeId → ℕ → Tombstone
tomb_at now id modified = record { id = id; deleted = max now modified }

-- tombstones with those of some entries that are deleted now
abbrev pub entries_buried : ℕ → List (NodeId × EntryRecord) → List Tombstone → List Tombstone
entries_buried now [] tombs = tombs
entries_buried now (e ∷ es) tombs =
    with_tomb (tomb_at now e.0 (entry_time e.1)) (entries_buried now es tombs)

-- tombstones with those of some groups that are deleted now
abbrev pub groups_buried : ℕ → List (NodeId × GroupRecord) → List Tombstone → List Tombstone
groups_buried now [] tombs = tombs
groups_buried now (g ∷ gs) tombs =
    with_tomb (tomb_at now g.0 g.1.state.modified) (groups_buried now gs tombs)

-- tombstones with those of a group and all below it, which are deleted now
abbrev pub tree_buried : ℕ → Tree → List Tombstone → List Tombstone
tree_buried now t tombs =
    entries_buried now (entry_rows t) (groups_buried now (group_rows t) tombs)
