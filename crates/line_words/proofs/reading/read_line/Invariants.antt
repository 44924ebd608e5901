use Rattle.std.proofs.Common.{◌≡◌, length}
use denote.Text.{Utf8}
use denote.Shadow.{shadow}
use Rattle.line_words.specs.inside.Reading.{words_seen, words_with}
use Rattle.line_words.proofs.Quotes.{IsOutside}
use Rattle.line_words.proofs.reading.read_line.Given as goal

-- What is left is outside of quotation marks, and reads on as the whole line did.
abbrev pub invariant-loop-before : goal.invariant-loop-before
invariant-loop-before l =
    shadow (Utf8 l.rest) × IsOutside l.rest l.line
    × (words_with (words_seen l.read) l.rest ≡ words_with (words_seen l.initial.read) l.line)

abbrev pub decreases-loop-before : goal.decreases-loop-before
decreases-loop-before l = length l.rest
