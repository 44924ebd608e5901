use Rattle.std.proofs.Common.{length}
use Rattle.cli_lines.proofs.lines.+read_fields.Given as goal

abbrev pub decreases-read_fields : goal.decreases-read_fields
decreases-read_fields g l = length l.names.now
