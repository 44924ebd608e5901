use Rattle.std.proofs.Common.{true, ◌≡◌, ◌+◌, ◌∷◌, ℕ, List, length, Some}
use Rattle.outside_core.specs.Reports.{StaysTruthful}
use Rattle.cli_lines.specs.Cutting.{cut, weight}
use Rattle.cli_lines.specs.Lines.{line_from}
use Rattle.cli_lines.proofs.lines.read_from.Given as goal

-- what was read so far is the front of the line, before the byte that comes next
abbrev pub invariant-loop-byte : goal.invariant-loop-byte
invariant-loop-byte g l =
    record {
      window : length l.window.bytes ≡ 1;
      room : length l.line.bytes + l.line.spare ≡ 4096;
      faults : g.S.Source.faults l.input ≡ g.S.Source.faults l.fn.input;
      truthful : StaysTruthful (g.S.Source.truthful l.fn.input) (g.S.Source.truthful l.input);
      told : g.S.Source.truthful l.input ≡ true → (i : List ℕ) → g.S.Source.left l.fn.input ≡ Some i
          → (rest : List ℕ) × ((g.S.Source.left l.input ≡ Some rest) × (line_from 0 (l.first ∷ i) ≡ cut l.line.bytes l.returned (l.byte ∷ rest)));
    }

abbrev pub decreases-loop-byte : goal.decreases-loop-byte
decreases-loop-byte g l = weight l.line.spare l.returned
