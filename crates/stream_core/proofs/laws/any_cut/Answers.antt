use Rattle.stream_core.proofs.StreamLemmas.{xored-joined}
use Rattle.stream_core.proofs.laws.any_cut.Goals as goal

pub returns : goal.returns
returns c = xored-joined
