-- Nothing is said of them.
use Rattle.cli_pages.proofs.Said.{of_command, of_opening, of_page, of_standalone}
use Rattle.cli_pages.proofs.laws.commands_and_pages_have_no_line.Goals as goal

pub returns-clause-command : goal.returns-clause-command
returns-clause-command c = of_command

pub returns-clause-page : goal.returns-clause-page
returns-clause-page c = of_page

pub returns-clause-standalone : goal.returns-clause-standalone
returns-clause-standalone c = of_standalone

pub returns-clause-opening : goal.returns-clause-opening
returns-clause-opening c = of_opening
