use Rattle.std.proofs.Common.{◌≡◌, ◌≤◌, ◌+◌, length, min}
use Rattle.markup_grammar.specs.Escapes.{escaped}
use Rattle.text_core.proofs.raw_markup.escaped_bytes_len.Given as goal

abbrev pub invariant-runs : goal.invariant-runs
invariant-runs l =
    record {
      value : min (l.total + length (escaped l.rest)) 18446744073709551615
          ≡ min (length (escaped l.text)) 18446744073709551615;
      most : l.total ≤ 18446744073709551615;
    }

abbrev pub decreases-runs : goal.decreases-runs
decreases-runs l = length l.rest
