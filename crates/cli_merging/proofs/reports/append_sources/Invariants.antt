use Rattle.std.proofs.Common.{◌≡◌, ◌++◌, drop}
use Rattle.cli_merging.specs.Reports.{source_lines}
use Rattle.cli_merging.proofs.reports.append_sources.Given as goal

abbrev pub invariant-loop-source : goal.invariant-loop-source
invariant-loop-source l =
    l.text.bytes ++ source_lines l.done l.target (drop l.source-index l.sources)
    ≡ l.fn.text.bytes ++ source_lines l.done l.target l.sources
