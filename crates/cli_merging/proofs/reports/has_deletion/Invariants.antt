use Rattle.std.proofs.Common.{◌≡◌, drop}
use Rattle.std.specs.List.{list_any}
use Rattle.cli_merging.specs.Reports.{is_deletion}
use Rattle.cli_merging.proofs.reports.has_deletion.Given as goal

abbrev pub invariant-loop-change : goal.invariant-loop-change
invariant-loop-change l =
    list_any is_deletion (drop l.change-index l.changes) ≡ list_any is_deletion l.changes
