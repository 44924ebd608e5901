use Rattle.std.proofs.Common.{◌≡◌, ℕ, ◌++◌, List, length}
use denote.Text.{Utf8}
use denote.Shadow.{shadow}
use Rattle.line_words.specs.inside.Reading.{words_seen, words_with}
use Rattle.line_words.specs.Spelling.{HasNoQuote}
use Rattle.line_words.proofs.reading.read_unquoted.Given as goal

-- What is left reads on as the whole text did.
abbrev pub invariant-loop-run : goal.invariant-loop-run
invariant-loop-run l =
    shadow (Utf8 l.rest) × HasNoQuote l.rest
    × ((following : List ℕ) → words_with (words_seen l.read) (l.rest ++ following)
    ≡ words_with (words_seen l.initial.read) (l.text ++ following))

abbrev pub decreases-loop-run : goal.decreases-loop-run
decreases-loop-run l = length l.rest
