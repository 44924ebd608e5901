use Rattle.std.proofs.Common.{◌≡◌, ◌++◌, drop, map}
use Rattle.vault_model.specs.SeenNodes.{tree_seen}
use Rattle.vault_model.specs.Tree.{all_trees}
use Rattle.merge_details.specs.PathTables.{paths_among}
use Rattle.merge_details.proofs.paths.+push_inside.Given as goal

-- what is gathered, with what is left, is all
abbrev pub invariant-loop-child : goal.invariant-loop-child
invariant-loop-child l =
    l.initial.rows.items ++ paths_among l.above (all_trees (map tree_seen l.child-items))
    ≡ l.rows.items ++ paths_among l.above (all_trees (map tree_seen (drop l.child-index l.child-items)))
