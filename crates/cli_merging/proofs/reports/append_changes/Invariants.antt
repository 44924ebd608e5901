use Rattle.std.proofs.Common.{◌≡◌, ◌++◌, drop}
use Rattle.cli_merging.specs.Names.{name_at}
use Rattle.cli_merging.specs.Reports.{change_lines}
use Rattle.cli_merging.proofs.reports.append_changes.Given as goal

abbrev pub invariant-loop-change : goal.invariant-loop-change
invariant-loop-change l =
    l.text.bytes ++ change_lines (name_at l.old) (name_at l.new) (drop l.change-index l.changes)
    ≡ l.fn.text.bytes ++ change_lines (name_at l.old) (name_at l.new) l.changes
