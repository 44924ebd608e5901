use Rattle.std.proofs.Common.{◌≡◌, ◌≤◌, ◌-◌, ℕ, List, length, drop, slice_range}
use Rattle.markup_grammar.specs.Bytes.{is_text}
use Rattle.markup_grammar.specs.Machine.{Names, in_words, between, within}
use Rattle.markup_scanner.specs.Left.{answers_at, FailsFirst}
use Rattle.markup_scanner.proofs.tag.words_end.Given as goal

-- the run goes on at the place, with none of the bytes that stand for themselves
abbrev pub invariant-words : goal.invariant-words
invariant-words l =
    (l.at ≤ l.place) × (l.place ≤ length l.text) × FailsFirst is_text (drop l.place l.text) × ((name : List ℕ) (names : Names) → answers_at l.text (between (within name names)) l.at ≡ answers_at l.text (in_words l.at (slice_range l.text l.at l.place) name names) l.place)

abbrev pub decreases-words : goal.decreases-words
decreases-words l = length l.text - l.place
