use Rattle.call_histories.proofs.FreeCalls.{free_calls_agree}
use Rattle.call_histories.proofs.laws.free_calls_agree.Goals as goal

pub returns : goal.returns
returns c = free_calls_agree
