-- The answers of a reader on a whole text.
use Rattle.std.specs.Prelude.{ℕ, ◌==◌, if◌then◌else◌, List, length, take}
use Rattle.markup_grammar.specs.Answers.{Answer, limit_depth, cut_short}
use Rattle.markup_grammar.specs.Machine.{fresh, answers_from}
use Rattle.markup_grammar.specs.Utf8.{utf8_front}

-- the answers on the first n bytes of a text, where it begins UTF-8 no longer than that
abbrev pub answers_within : List ℕ → ℕ → List Answer
answers_within text n =
    if n == length text then answers_from fresh 0 text else cut_short n
    (answers_from fresh 0 (take n text))

-- the answers on a text: those on the prefix that begins UTF-8, of which at most 256 elements are
-- open at once
unfoldable pub answers : List ℕ → List Answer
answers text = limit_depth 0 (answers_within text (utf8_front text))
