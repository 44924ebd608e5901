-- A group below in the listing of a group.
use Rattle.cli_printing.proofs.ListedLines.{below_listed}
use Rattle.cli_printing.proofs.laws.subgroups_are_listed.Goals as goal

pub returns : goal.returns
returns c = below_listed
