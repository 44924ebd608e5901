-- Paths, each on a line.
use Rattle.cli_printing.proofs.ListedLines.{paths_listed}
use Rattle.cli_printing.proofs.laws.lines_are_paths.Goals as goal

pub returns : goal.returns
returns c = paths_listed
