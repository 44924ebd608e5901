use Rattle.content_condition_laws.proofs.Printing.{show_succeeds}
use Rattle.content_condition_laws.proofs.laws.values_show.Goals as goal

pub returns : goal.returns
returns c = show_succeeds
