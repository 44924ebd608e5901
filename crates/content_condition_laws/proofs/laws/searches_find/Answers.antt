use Rattle.content_condition_laws.proofs.Printing.{search_succeeds}
use Rattle.content_condition_laws.proofs.laws.searches_find.Goals as goal

pub returns : goal.returns
returns c = search_succeeds
