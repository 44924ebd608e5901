use Rattle.std.proofs.Common.{◌≡◌, ◌+◌, drop, length, map}
use Rattle.vault_model.specs.SeenNodes.{tree_seen}
use Rattle.vault_model.specs.Tree.{all_trees, group_rows_all}
use Rattle.cli_printing.proofs.counts.+count_groups.Given as goal

abbrev pub invariant-loop-child : goal.invariant-loop-child
invariant-loop-child l =
    l.groups + length (group_rows_all (all_trees (map tree_seen (drop l.child-index l.child-items))))
    ≡ l.initial.groups + length (group_rows_all (all_trees (map tree_seen l.child-items)))
