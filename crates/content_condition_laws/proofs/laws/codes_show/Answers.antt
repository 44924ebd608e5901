use Rattle.content_condition_laws.proofs.Printing.{show_code_succeeds}
use Rattle.content_condition_laws.proofs.laws.codes_show.Goals as goal

pub returns : goal.returns
returns c = show_code_succeeds
