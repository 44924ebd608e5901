use Rattle.std.proofs.Common.{◌≡◌, ◌+◌, ◌≤◌, ◌++◌, length}
use Rattle.markup_grammar.specs.Escapes.{unescaped}
use Rattle.text_core.proofs.raw_markup.unescape.Given as goal

abbrev pub invariant-loop-rest : goal.invariant-loop-rest
invariant-loop-rest l =
    record {
      bytes : l.out.bytes ++ unescaped l.rest ≡ l.initial.out.bytes ++ unescaped l.initial.rest;
      spare : l.out.spare + length (unescaped l.initial.rest) ≡ l.initial.out.spare + length (unescaped l.rest);
      room : length (unescaped l.rest) ≤ l.out.spare;
    }

abbrev pub decreases-loop-rest : goal.decreases-loop-rest
decreases-loop-rest l = length l.rest
