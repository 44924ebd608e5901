use Rattle.std.proofs.Common.{◌≡◌, ◌++◌, map}
use Rattle.vault_model.specs.SeenNodes.{tree_seen}
use Rattle.merge_twins.specs.Rules.{rules_of}
use Rattle.merge_twins.specs.Twins.{group_tree, numbers}
use Rattle.merge_twins.proofs.groups.put_groups.Given as goal

abbrev pub invariant-loop-number : goal.invariant-loop-number
invariant-loop-number l =
    map tree_seen l.groups ≡ map tree_seen l.fn.groups ++ map (group_tree (rules_of l.which) l.count) (numbers l.number)
