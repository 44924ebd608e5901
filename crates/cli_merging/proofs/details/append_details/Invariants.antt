use Rattle.std.proofs.Common.{◌≡◌, ◌++◌, drop}
use Rattle.merge_details.specs.PathTables.{path_at}
use Rattle.cli_merging.specs.Details.{detail_lines}
use Rattle.cli_merging.proofs.details.append_details.Given as goal

abbrev pub invariant-loop-change : goal.invariant-loop-change
invariant-loop-change l =
    l.text.bytes ++ detail_lines (path_at l.old) (path_at l.new) (drop l.change-index l.changes)
    ≡ l.fn.text.bytes ++ detail_lines (path_at l.old) (path_at l.new) l.changes
