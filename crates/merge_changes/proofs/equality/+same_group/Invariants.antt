use Rattle.std.proofs.Common.{◌≡◌, map, drop}
use Rattle.vault_model.specs.SeenNodes.{tree_seen}
use Rattle.merge_changes.specs.Equality.{same_all, same_tree}
use Rattle.merge_changes.proofs.equality.+same_group.Given as goal

abbrev pub invariant-loop-at : goal.invariant-loop-at
invariant-loop-at l =
    same_all same_tree (map tree_seen l.groups) (map tree_seen l.others)
    ≡ same_all same_tree (map tree_seen (drop l.at l.groups)) (map tree_seen (drop l.at l.others))
