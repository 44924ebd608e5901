use Rattle.std.proofs.Common.{◌≡◌, ◌++◌, drop, map}
use Rattle.vault_model.specs.SeenNodes.{tree_seen}
use Rattle.vault_model.specs.Tree.{all_trees}
use Rattle.tree_removals.specs.Tombs.{group_tombs_all}
use Rattle.tree_removals.proofs.burying.+bury_groups.Given as goal

-- what is gathered, with what is left, is all
abbrev pub invariant-loop-child : goal.invariant-loop-child
invariant-loop-child l =
    l.initial.tombs.items ++ group_tombs_all l.now (all_trees (map tree_seen l.child-items))
    ≡ l.tombs.items ++ group_tombs_all l.now (all_trees (map tree_seen (drop l.child-index l.child-items)))
