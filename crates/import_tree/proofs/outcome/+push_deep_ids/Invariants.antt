use Rattle.std.proofs.Common.{◌≡◌, ◌++◌, drop, map}
use Rattle.vault_model.specs.SeenNodes.{tree_seen}
use Rattle.vault_model.specs.Tree.{all_trees}
use Rattle.import_tree.specs.Outcome.{groups_below_among}
use Rattle.import_tree.proofs.outcome.+push_deep_ids.Given as goal

-- what is pushed, with what is left, is all
abbrev pub invariant-loop-child : goal.invariant-loop-child
invariant-loop-child l =
    l.initial.ids.items ++ groups_below_among l.below (all_trees (map tree_seen l.child-items))
    ≡ l.ids.items ++ groups_below_among l.below (all_trees (map tree_seen (drop l.child-index l.child-items)))
