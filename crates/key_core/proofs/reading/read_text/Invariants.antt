use Rattle.std.proofs.Common.{length, ◌++◌}
use Rattle.markup_core.specs.MarkupGrammar.Elements.{own_text}
use Rattle.key_core.proofs.Steps.{Follows}
use Rattle.key_core.proofs.reading.read_text.Given as goal

abbrev pub invariant-items : goal.invariant-items
invariant-items l = Follows own_text (λ content. l.text.bytes ++ own_text content) l.fn.reader l.reader

abbrev pub decreases-items : goal.decreases-items
decreases-items l = length l.reader
