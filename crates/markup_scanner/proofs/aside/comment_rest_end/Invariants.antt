use Rattle.std.proofs.Common.{◌≡◌, ◌≤◌}
use Rattle.markup_grammar.specs.Machine.{Level, in_comment, no_dash}
use Rattle.markup_scanner.specs.Asides.{dashes_of}
use Rattle.markup_scanner.specs.Left.{answers_at}
use Rattle.markup_scanner.proofs.aside.comment_rest_end.Given as goal

-- the bytes so far end in this many dashes
abbrev pub invariant-loop-place : goal.invariant-loop-place
invariant-loop-place l =
    (l.dashes ≤ l.place) × ((level : Level) → answers_at l.text (in_comment no_dash level) l.at ≡ answers_at l.text (in_comment (dashes_of l.dashes) level) l.place)
