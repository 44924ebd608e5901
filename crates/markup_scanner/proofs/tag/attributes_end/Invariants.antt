use Rattle.std.proofs.Common.{◌≡◌, ◌≤◌, ◌-◌, ℕ, List, length, slice_range}
use Rattle.markup_grammar.specs.Machine.{Names, in_tag, valued}
use Rattle.markup_scanner.specs.Left.{answers_at}
use Rattle.markup_scanner.proofs.tag.attributes_end.Given as goal

-- whole attributes stand before the place
abbrev pub invariant-attributes : goal.invariant-attributes
invariant-attributes l =
    (l.at ≤ l.place) × (l.place ≤ length l.text) × ((place : ℕ) (name : List ℕ) (names : Names) → answers_at l.text (in_tag valued place name (slice_range l.text l.at l.at) names) l.at ≡ answers_at l.text (in_tag valued place name (slice_range l.text l.at l.place) names) l.place)

abbrev pub decreases-attributes : goal.decreases-attributes
decreases-attributes l = length l.text - l.place
