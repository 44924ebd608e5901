use Rattle.frame_laws.proofs.Undoing.{restore_undoes}
use Rattle.frame_laws.proofs.laws.restore_undoes.Goals as goal

pub returns : goal.returns
returns c = restore_undoes
