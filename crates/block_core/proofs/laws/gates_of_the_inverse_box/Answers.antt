use Rattle.block_core.proofs.SlicedSteps.{gates_byte_at}
use Rattle.block_core.proofs.laws.gates_of_the_inverse_box.Goals as goal

pub returns : goal.returns
returns c = gates_byte_at
