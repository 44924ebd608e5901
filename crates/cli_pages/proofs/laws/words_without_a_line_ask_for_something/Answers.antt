-- They are a command, or open a session, or ask for a page.
use Rattle.cli_pages.proofs.Said.{of_nothing}
use Rattle.cli_pages.proofs.laws.words_without_a_line_ask_for_something.Goals as goal

pub returns : goal.returns
returns c = of_nothing
