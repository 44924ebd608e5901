use Rattle.std.proofs.Common.{◌≡◌, map, drop}
use Rattle.vault_model.specs.SeenNodes.{tree_seen}
use Rattle.vault_model.specs.Tree.{all_trees}
use Rattle.cli_merging.specs.Names.{with_trees}
use Rattle.cli_merging.proofs.names.+put_group.Given as goal

abbrev pub invariant-loop-child : goal.invariant-loop-child
invariant-loop-child l =
    with_trees (all_trees (map tree_seen (drop l.child-index l.child-items))) l.names
    ≡ with_trees (all_trees (map tree_seen l.child-items)) l.initial.names
