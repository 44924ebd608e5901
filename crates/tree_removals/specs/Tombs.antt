-- The tombstones of a tree that is deleted.
use Rattle.std.specs.Prelude.{ℕ, Bool, List, ◌++◌, map}
use Rattle.std.specs.List.Sorted.{IsSortedByKey}
use Rattle.vault_model.specs.declared.nodes.Tombstone.{Tombstone}
use Rattle.vault_model.specs.Db.{NodeId, id_cmp}
use Rattle.vault_model.specs.Proper.{rises}
use Rattle.vault_model.specs.SeenNodes.{entry_time}
use Rattle.vault_model.specs.Shape.{EntryRecord, GroupRecord}
use Rattle.vault_model.specs.Tree.{Tree, Trees, entry_rows, entry_rows_all, group_rows, group_rows_all}
use Rattle.tree_core.specs.Changes.{tomb_at}

-- the tombstone of an entry that is deleted now
abbrev pub entry_tomb : ℕ → NodeId × EntryRecord → Tombstone
entry_tomb now e = tomb_at now e.0 (entry_time e.1)

-- those of all entries of a tree
abbrev pub entry_tombs : ℕ → Tree → List Tombstone
entry_tombs now t = map (entry_tomb now) (entry_rows t)

-- those of all entries of trees side by side
abbrev pub entry_tombs_all : ℕ → Trees → List Tombstone
entry_tombs_all now ts = map (entry_tomb now) (entry_rows_all ts)

-- the tombstone of a group that is deleted now
abbrev pub group_tomb : ℕ → NodeId × GroupRecord → Tombstone
group_tomb now g = tomb_at now g.0 g.1.state.modified

-- those of all groups of a tree
abbrev pub group_tombs : ℕ → Tree → List Tombstone
group_tombs now t = map (group_tomb now) (group_rows t)

-- those of all groups of trees side by side
abbrev pub group_tombs_all : ℕ → Trees → List Tombstone
group_tombs_all now ts = map (group_tomb now) (group_rows_all ts)

-- the tombstones of all nodes of a tree
abbrev pub tombs_of : ℕ → Tree → List Tombstone
tombs_of now t = entry_tombs now t ++ group_tombs now t

-- tombstones are in order by id
abbrev pub AreSorted : List Tombstone → Type 0
AreSorted tombs = IsSortedByKey (λ (t : Tombstone). t.id) id_cmp tombs

-- the ids of tombstones rise
abbrev pub ids_rise : List Tombstone → Bool
ids_rise tombs = rises (λ (t : Tombstone). t.id) tombs
