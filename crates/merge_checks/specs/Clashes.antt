-- The least of the nodes that pass a test, found node by node.
use Rattle.std.specs.Prelude.{Bool, cond, List, [], ◌∷◌, Option, None, Some, map, ◌&&◌}
use Rattle.vault_model.specs.Db.{NodeId, Db}
use Rattle.vault_model.specs.Shape.{EntryRecord}
use Rattle.vault_model.specs.Tree.{BareDoc, Tree, Trees, node, none, beside, id_of}
use Rattle.vault_model.specs.Unite.{join_options}
use Rattle.merge_core.specs.Refusals.{is_entry, is_group, lesser}

-- an id is an entry's in one member and a group's in another
abbrev pub is_of_two_kinds : List Db → NodeId → Bool
is_of_two_kinds S u = is_entry S u && is_group S u

-- the least so far, and a node where it passes the test
abbrev pub least_with : (NodeId → Bool) → Option NodeId → NodeId → Option NodeId
least_with test so_far u = join_options lesser so_far (cond (test u) (Some u) None)

-- and some nodes, one after another
abbrev pub least_with_all : (NodeId → Bool) → List NodeId → Option NodeId → Option NodeId
least_with_all test [] so_far = so_far
least_with_all test (u ∷ us) so_far = least_with_all test us (least_with test so_far u)

-- and all nodes of a tree but its root
abbrev mutual
  pub clash_below : (NodeId → Bool) → Tree → Option NodeId → Option NodeId
  clash_below test (node u r es ts) so_far = clash_in_all test ts
      (least_with_all test (map (λ (e : NodeId × EntryRecord). e.0) es) so_far)

  -- and all nodes of groups side by side
  pub clash_in_all : (NodeId → Bool) → Trees → Option NodeId → Option NodeId
  clash_in_all test none so_far = so_far
  clash_in_all test (beside t ts) so_far =
      clash_in_all test ts (clash_below test t (least_with test so_far (id_of t)))

-- and all nodes of documents but their roots
abbrev pub clash_in_docs : (NodeId → Bool) → List BareDoc → Option NodeId → Option NodeId
clash_in_docs test [] so_far = so_far
clash_in_docs test (d ∷ ds) so_far = clash_in_docs test ds (clash_below test d.tree so_far)
