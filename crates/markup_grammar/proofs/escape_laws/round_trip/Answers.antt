use Rattle.markup_grammar.proofs.RoundTrip.{round_trip_lem}
use Rattle.markup_grammar.proofs.escape_laws.round_trip.Goals as goal

pub returns : goal.returns
returns c = round_trip_lem
