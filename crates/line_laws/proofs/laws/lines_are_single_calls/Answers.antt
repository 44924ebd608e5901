use Rattle.line_laws.proofs.LineCalls.{single_calls}
use Rattle.line_laws.proofs.laws.lines_are_single_calls.Goals as goal

pub returns : goal.returns
returns c = single_calls
