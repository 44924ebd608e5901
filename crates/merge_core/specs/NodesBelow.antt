-- The nodes of a tree without its root.
use Rattle.std.specs.Prelude.{List, ◌++◌, map}
use Rattle.vault_model.specs.Db.{NodeId}
use Rattle.vault_model.specs.Shape.{EntryRecord}
use Rattle.vault_model.specs.Tree.{Tree, node, node_ids_all}

-- the ids of all nodes but the root
abbrev pub below_ids : Tree → List NodeId
below_ids (node u r es ts) = map (λ (e : NodeId × EntryRecord). e.0) es ++ node_ids_all ts
