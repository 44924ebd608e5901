use Rattle.std.proofs.Common.{◌≡◌, ◌≤◌, ◌-◌, length, drop}
use Rattle.markup_grammar.specs.Bytes.{is_space}
use Rattle.markup_grammar.specs.Machine.{Level, between}
use Rattle.markup_scanner.specs.Asides.{IsOutside}
use Rattle.markup_scanner.specs.Left.{answers_at, FailsFirst}
use Rattle.markup_scanner.proofs.aside.outside_end.Given as goal

-- what stands before the place gives nothing, and no white space stands there
abbrev pub invariant-asides : goal.invariant-asides
invariant-asides l =
    (l.at ≤ l.place) × (l.place ≤ length l.text) × ((level : Level) → IsOutside level → answers_at l.text (between level) l.at ≡ answers_at l.text (between level) l.place) × FailsFirst is_space (drop l.place l.text)

abbrev pub decreases-asides : goal.decreases-asides
decreases-asides l = length l.text - l.place
