use Rattle.std.proofs.Common.{◌≡◌, ◌+◌, ◌≤◌, ◌++◌, length}
use Rattle.markup_grammar.specs.Escapes.{escaped}
use Rattle.text_core.proofs.raw_markup.escape_bytes.Given as goal

abbrev pub invariant-runs : goal.invariant-runs
invariant-runs l =
    record {
      bytes : l.out.bytes ++ escaped l.rest ≡ l.initial.out.bytes ++ escaped l.text;
      spare : l.out.spare + length (escaped l.text) ≡ l.initial.out.spare + length (escaped l.rest);
      room : length (escaped l.rest) ≤ l.out.spare;
    }

abbrev pub decreases-runs : goal.decreases-runs
decreases-runs l = length l.rest
