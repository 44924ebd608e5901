use Rattle.noninterference_laws.proofs.BlindSearch.{search_is_blind}
use Rattle.noninterference_laws.proofs.laws.search.Goals as goal

pub returns : goal.returns
returns c = search_is_blind
