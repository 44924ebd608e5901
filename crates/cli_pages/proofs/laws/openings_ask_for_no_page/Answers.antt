-- They ask for none.
use Rattle.cli_pages.proofs.Openings.{opening_no_page}
use Rattle.cli_pages.proofs.laws.openings_ask_for_no_page.Goals as goal

pub returns : goal.returns
returns c = opening_no_page
