use Rattle.std.proofs.Common.{length}
use Rattle.cli_lines.proofs.lines.+read_sources.Given as goal

abbrev pub decreases-read_sources : goal.decreases-read_sources
decreases-read_sources g l = length l.names.now
