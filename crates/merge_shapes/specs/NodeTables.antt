-- A tree put into tables: its rows, one after another.
use Rattle.std.specs.Prelude.{◌≡◌, List, [], ◌∷◌, map}
use Rattle.std.specs.FinMap.{insert}
use Rattle.vault_model.specs.Db.{NodeId}
use Rattle.vault_model.specs.Shape.{Children, EntryRecord, Shape}
use Rattle.vault_model.specs.Tree.{Tree, node, Trees, none, beside, ids_of}
use Rattle.merge_shapes.specs.declared.nodes.NodeTables.{NodeTables}

-- the ids of the children of a tree's group
abbrev pub children_in : Tree → Children
children_in (node u r es ts) = record {
  entries = map (λ (e : NodeId × EntryRecord). e.0) es;
  groups = ids_of ts;
}

-- an entry put to the tables
abbrev pub with_row : NodeId × EntryRecord → NodeTables → NodeTables
with_row e n = record n { entries = insert n.entries e.0 e.1 }

-- some entries, one after another
abbrev pub with_rows : List (NodeId × EntryRecord) → NodeTables → NodeTables
with_rows [] n = n
with_rows (e ∷ es) n = with_rows es (with_row e n)

-- a group with all below it
abbrev mutual
  pub with_nodes : Tree → NodeTables → NodeTables
  with_nodes (node u r es ts) n = with_all_nodes ts (with_rows es (record n {
    groups = insert n.groups u r;
    children = insert n.children u (children_in (node u r es ts));
  }))

  -- groups side by side, one after another
  pub with_all_nodes : Trees → NodeTables → NodeTables
  with_all_nodes none n = n
  with_all_nodes (beside t ts) n = with_all_nodes ts (with_nodes t n)

-- the tables of a shape
abbrev pub HasNodes : Shape → NodeTables → Type 0
HasNodes s n = (n.entries ≡ s.entries) × ((n.groups ≡ s.groups) × (n.children ≡ s.children))
