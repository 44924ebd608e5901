use Rattle.std.proofs.Common.{◌≡◌, ◌+◌, ◌≤◌, length}
use Rattle.markup_grammar.specs.Escapes.{unescaped}
use Rattle.text_core.proofs.raw_markup.unescaped_len.Given as goal

abbrev pub invariant-loop-rest : goal.invariant-loop-rest
invariant-loop-rest l =
    record {
      text : l.total + length (unescaped l.rest) ≡ length (unescaped l.initial.rest);
      within : l.total + length l.rest ≤ length l.initial.rest;
    }

abbrev pub decreases-loop-rest : goal.decreases-loop-rest
decreases-loop-rest l = length l.rest
