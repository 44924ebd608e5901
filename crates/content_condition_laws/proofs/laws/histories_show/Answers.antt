use Rattle.content_condition_laws.proofs.Printing.{history_succeeds}
use Rattle.content_condition_laws.proofs.laws.histories_show.Goals as goal

pub returns : goal.returns
returns c = history_succeeds
