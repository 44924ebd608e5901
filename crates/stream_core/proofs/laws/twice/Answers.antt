use Rattle.stream_core.proofs.StreamLemmas.{xored-xored}
use Rattle.stream_core.proofs.laws.twice.Goals as goal

pub returns : goal.returns
returns c = xored-xored
