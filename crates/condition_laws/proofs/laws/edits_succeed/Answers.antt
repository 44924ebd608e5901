use Rattle.condition_laws.proofs.Succeeds.{edit_succeeds}
use Rattle.condition_laws.proofs.laws.edits_succeed.Goals as goal

pub returns : goal.returns
returns c = edit_succeeds
