use Rattle.std.proofs.Common.{◌≡◌, ◌++◌, map}
use Rattle.vault_model.specs.SeenNodes.{entry_row}
use Rattle.merge_twins.specs.Rules.{rules_of}
use Rattle.merge_twins.specs.Twins.{entries_in}
use Rattle.merge_twins.proofs.entries.put_entries.Given as goal

abbrev pub invariant-loop-number : goal.invariant-loop-number
invariant-loop-number l =
    map entry_row l.entries ≡ map entry_row l.fn.entries ++ entries_in (rules_of l.which) l.number l.group
