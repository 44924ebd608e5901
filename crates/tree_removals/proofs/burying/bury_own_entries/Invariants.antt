use Rattle.std.proofs.Common.{◌≡◌, ◌++◌, drop, map}
use Rattle.vault_model.specs.SeenNodes.{entry_row}
use Rattle.tree_removals.specs.Tombs.{entry_tomb}
use Rattle.tree_removals.proofs.burying.bury_own_entries.Given as goal

-- what is gathered, with what is left, is all
abbrev pub invariant-loop-entry : goal.invariant-loop-entry
invariant-loop-entry l =
    l.initial.tombs.items ++ map (entry_tomb l.now) (map entry_row l.entries)
    ≡ l.tombs.items ++ map (entry_tomb l.now) (map entry_row (drop l.entry-index l.entries))
