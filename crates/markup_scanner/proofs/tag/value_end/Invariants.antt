use Rattle.std.proofs.Common.{◌≡◌, ◌≤◌, ◌-◌, ℕ, List, length, drop, slice_range}
use Rattle.markup_grammar.specs.Bytes.{is_value}
use Rattle.markup_grammar.specs.Machine.{Names, in_tag, valuing}
use Rattle.markup_scanner.specs.Left.{answers_at, FailsFirst}
use Rattle.markup_scanner.proofs.tag.value_end.Given as goal

-- the value goes on at the place, with none of the bytes that stand for themselves
abbrev pub invariant-value : goal.invariant-value
invariant-value l =
    (l.at ≤ l.place) × (l.place ≤ length l.text) × FailsFirst (is_value l.quote) (drop l.place l.text) × ((place : ℕ) (name : List ℕ) (from : ℕ) (names : Names) → from ≤ l.at → answers_at l.text (in_tag (valuing l.quote) place name (slice_range l.text from l.at) names) l.at ≡ answers_at l.text (in_tag (valuing l.quote) place name (slice_range l.text from l.place) names) l.place)

abbrev pub decreases-value : goal.decreases-value
decreases-value l = length l.text - l.place
