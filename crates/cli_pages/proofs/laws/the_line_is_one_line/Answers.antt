-- It is one line.
use Rattle.cli_pages.proofs.Said.{of_line}
use Rattle.cli_pages.proofs.laws.the_line_is_one_line.Goals as goal

pub returns : goal.returns
returns c = of_line
