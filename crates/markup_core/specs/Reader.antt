-- What a reader's fields mean: the answers that are left.
use Rattle.std.specs.Prelude.{ℕ, ◌+◌, ◌≡◌, ◌≤◌, ◌<◌, Bool, true, None, if◌then◌else◌, List, ◌∷◌, length}
use Rattle.std.specs.Str.{IsCharBoundary}
use Rattle.markup_grammar.specs.Answers.{Answer, stop, limit_depth, cut_short}
use Rattle.markup_grammar.specs.Utf8.{none_left, utf8_run}
use Rattle.markup_scanner.specs.Left.{answers_at, StandsAt}
use Rattle.markup_scanner.specs.Spans.{SpansFit, open_names}
use Rattle.markup_scanner.specs.Tokens.{state_at}
use Rattle.markup_core.specs.declared.reader.Reader.TheInside.{Inside}

-- the answers with so many elements open, on a text of this length that is the whole or is cut off
-- there
abbrev pub bounded_answers : Bool → ℕ → ℕ → List Answer → List Answer
bounded_answers is_whole len open_count answers = limit_depth open_count
    (if is_whole then answers else cut_short len answers)

-- those that are left from a place between two tokens on
abbrev pub answers_left_from : Inside → ℕ → List Answer
answers_left_from r at =
    bounded_answers r.is_whole (length r.text.now) r.depth
    (answers_at r.text.now (state_at at (open_names r.text.now r.spans r.depth)) at)

-- the answers that are left: where an empty element's `/` comes next, its end comes first
unfoldable pub answers_left : Inside → List Answer
answers_left r = if r.is_empty then stop r.at ∷ answers_left_from r (r.at + 2)
    else answers_left_from r r.at

-- places and counts are within the text and the stack, and the text begins one in UTF-8
pub record IsSound (r : Inside) : Type 0 where
  pub at_within : r.at ≤ length r.text.now
  pub depth_within : r.depth ≤ 256
  pub stack : length r.spans ≡ 256
  pub spans_within : SpansFit r.text.now r.spans r.depth
  pub has_begun : 0 < r.depth → 0 < r.at
  pub is_utf8 : utf8_run r.text.now none_left ≡ None → ⊥
  pub between_characters : IsCharBoundary r.text.now r.at
  pub empty_ends : r.is_empty ≡ true → StandsAt r.text.now (r.at + 1) 62
