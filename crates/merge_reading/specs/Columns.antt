-- A tree read into columns: what is there of each node.
use Rattle.std.specs.Prelude.{◌≡◌, List, [], ◌∷◌}
use Rattle.std.specs.FinMap.{empty, insert}
use Rattle.vault_model.specs.Db.{NodeId, Versions, Db}
use Rattle.vault_model.specs.Shape.{BareVersion, EntryRecord, GroupRecord, Stay, place_at, versions_of}
use Rattle.vault_model.specs.Tree.{Tree, node, Trees, none, beside, id_of}
use Rattle.merge_reading.specs.declared.reading.Columns.{Columns}

-- one version as a map
abbrev pub one_version : BareVersion → Versions
one_version v = insert empty v.mark v.stats

-- an entry's stay
abbrev pub entry_stay : EntryRecord → Stay
entry_stay e = record { placed = e.placed; previous = e.previous }

-- a group's stay
abbrev pub group_stay : GroupRecord → Stay
group_stay g = record { placed = g.placed; previous = g.previous }

-- the stay of a tree's group
abbrev pub tree_stay : Tree → Stay
tree_stay (node u r es ts) = group_stay r

-- an entry of a group put to the columns
abbrev pub with_entry : NodeId → NodeId × EntryRecord → Columns → Columns
with_entry p e c = record c {
  entries = insert c.entries e.0 (versions_of e.1);
  places = insert c.places e.0 (place_at (entry_stay e.1) p);
}

-- one after another
abbrev pub with_entries : NodeId → List (NodeId × EntryRecord) → Columns → Columns
with_entries p [] c = c
with_entries p (e ∷ es) c = with_entries p es (with_entry p e c)

-- the place of a group, in its parent, put to the columns
abbrev pub with_place : NodeId → Tree → Columns → Columns
with_place p t c = record c { places = insert c.places (id_of t) (place_at (tree_stay t) p) }

-- a group with all below it
abbrev mutual
  pub with_tree : Tree → Columns → Columns
  with_tree (node u r es ts) c = with_trees u ts
      (with_entries u es (record c { groups = insert c.groups u r.state }))

  -- the groups of a group, one after another
  pub with_trees : NodeId → Trees → Columns → Columns
  with_trees p none c = c
  with_trees p (beside t ts) c = with_trees p ts (with_tree t (with_place p t c))

-- the columns of a database
abbrev pub HasColumns : Db → Columns → Type 0
HasColumns m c = (c.entries ≡ m.entries) × ((c.groups ≡ m.groups) × (c.places ≡ m.places))
