use Rattle.line_laws.proofs.LineCalls.{calls_in_words}
use Rattle.line_laws.proofs.laws.lines_are_calls_in_words.Goals as goal

pub returns : goal.returns
returns c = calls_in_words
