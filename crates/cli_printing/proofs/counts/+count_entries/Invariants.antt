use Rattle.std.proofs.Common.{◌≡◌, ◌+◌, drop, length, map}
use Rattle.vault_model.specs.SeenNodes.{tree_seen}
use Rattle.vault_model.specs.Tree.{all_trees, entry_rows_all}
use Rattle.cli_printing.proofs.counts.+count_entries.Given as goal

abbrev pub invariant-loop-child : goal.invariant-loop-child
invariant-loop-child l =
    l.entries + length (entry_rows_all (all_trees (map tree_seen (drop l.child-index l.child-items))))
    ≡ l.initial.entries + length (entry_rows_all (all_trees (map tree_seen l.child-items)))
