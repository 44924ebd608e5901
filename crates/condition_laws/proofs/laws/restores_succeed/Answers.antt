use Rattle.condition_laws.proofs.Succeeds.{restore_succeeds}
use Rattle.condition_laws.proofs.laws.restores_succeed.Goals as goal

pub returns : goal.returns
returns c = restore_succeeds
