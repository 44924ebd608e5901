-- A line for each child.
use Rattle.cli_printing.proofs.ListedLines.{children_counted, children_listed}
use Rattle.cli_printing.proofs.laws.each_child_has_a_line.Goals as goal

pub returns-clause-lines : goal.returns-clause-lines
returns-clause-lines c = children_listed

pub returns-clause-count : goal.returns-clause-count
returns-clause-count c = children_counted
