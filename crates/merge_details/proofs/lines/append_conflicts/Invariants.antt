use Rattle.std.proofs.Common.{◌≡◌, ◌++◌}
use Rattle.std.specs.FinMap.{entries}
use Rattle.merge_details.specs.Lines.{conflict_lines}
use Rattle.merge_details.proofs.lines.append_conflicts.Given as goal

abbrev pub invariant-loop-key : goal.invariant-loop-key
invariant-loop-key l =
    l.text.bytes ++ conflict_lines l.key-iterator ≡ l.fn.text.bytes ++ conflict_lines (entries l.fn.conflicts)
