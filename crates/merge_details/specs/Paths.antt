-- The paths of nodes: a slash, and then the names from below the root with a slash between each
-- two.
use Rattle.std.specs.Prelude.{ℕ, List, [], ◌++◌, codes, map}
use Rattle.std.specs.FinMap.{find}
use Rattle.std.specs.Option.{unwrap_or}
use Rattle.vault_model.specs.Db.{NodeId, id_cmp}
use Rattle.vault_model.specs.Tree.{BareDoc}
use Rattle.vault_model.specs.Walk.{Node, Walked, a_group, an_entry, walk}

-- the id of a node
abbrev pub node_id : Node → NodeId
node_id (an_entry u e) = u
node_id (a_group u g) = u

-- a node's id beside its path
abbrev pub path_row : Walked → NodeId × List ℕ
path_row w = (node_id w.found, codes "/" ++ w.path)

-- The path of the node of an id in a document, that of the root a slash; nothing where there is no
-- such node.
abbrev pub path_in : BareDoc → NodeId → List ℕ
path_in doc id = unwrap_or (find id_cmp id (map path_row (walk doc))) []
