use Rattle.frame_laws.proofs.Examples.{example_changes}
use Rattle.frame_laws.proofs.laws.example_changes.Goals as goal

pub returns : goal.returns
returns c = example_changes
