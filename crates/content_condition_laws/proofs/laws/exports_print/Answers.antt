use Rattle.content_condition_laws.proofs.Printing.{export_succeeds}
use Rattle.content_condition_laws.proofs.laws.exports_print.Goals as goal

pub returns : goal.returns
returns c = export_succeeds
