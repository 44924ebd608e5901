use Rattle.std.proofs.Common.{◌≡◌, ◌++◌, drop, map}
use Rattle.vault_model.specs.SeenNodes.{tree_seen}
use Rattle.vault_model.specs.Tree.{all_trees, entry_rows_all}
use Rattle.merge_details.proofs.entries.+push_group.Given as goal

-- what is gathered, with what is left, is all
abbrev pub invariant-loop-child : goal.invariant-loop-child
invariant-loop-child l =
    l.initial.rows.items ++ entry_rows_all (all_trees (map tree_seen l.child-items))
    ≡ l.rows.items ++ entry_rows_all (all_trees (map tree_seen (drop l.child-index l.child-items)))
