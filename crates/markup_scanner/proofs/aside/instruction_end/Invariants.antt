use Rattle.std.proofs.Common.{◌≡◌, false}
use Rattle.markup_grammar.specs.Machine.{Level, in_instruction}
use Rattle.markup_scanner.specs.Left.{answers_at}
use Rattle.markup_scanner.proofs.aside.instruction_end.Given as goal

-- the bytes so far end in a question mark or not
abbrev pub invariant-loop-place : goal.invariant-loop-place
invariant-loop-place l =
    (level : Level) → answers_at l.text (in_instruction false level) l.at ≡ answers_at l.text (in_instruction l.asked level) l.place
