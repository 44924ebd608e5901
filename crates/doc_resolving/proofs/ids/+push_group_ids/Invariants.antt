use Rattle.std.proofs.Common.{◌≡◌, ◌++◌, drop, map}
use Rattle.vault_model.specs.SeenNodes.{tree_seen}
use Rattle.vault_model.specs.Tree.{all_trees, node_ids_all}
use Rattle.doc_resolving.proofs.ids.+push_group_ids.Given as goal

-- what is pushed, with what is left, is all
abbrev pub invariant-loop-below : goal.invariant-loop-below
invariant-loop-below l =
    l.initial.ids.items ++ node_ids_all (all_trees (map tree_seen l.below-items))
    ≡ l.ids.items ++ node_ids_all (all_trees (map tree_seen (drop l.below-index l.below-items)))
