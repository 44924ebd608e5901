use Rattle.std.proofs.Common.{◌≡◌, ◌≤◌, ◌-◌, length}
use Rattle.markup_grammar.specs.Machine.{Level, between}
use Rattle.markup_scanner.specs.Asides.{EndsTagOrStays}
use Rattle.markup_scanner.specs.Left.{answers_at}
use Rattle.markup_scanner.proofs.aside.asides_end.Given as goal

-- what stands before the place gives nothing
abbrev pub invariant-asides : goal.invariant-asides
invariant-asides l =
    (l.at ≤ l.place) × (l.place ≤ length l.text) × ((level : Level) → answers_at l.text (between level) l.at ≡ answers_at l.text (between level) l.place) × EndsTagOrStays l.text l.at l.place

abbrev pub decreases-asides : goal.decreases-asides
decreases-asides l = length l.text - l.place
