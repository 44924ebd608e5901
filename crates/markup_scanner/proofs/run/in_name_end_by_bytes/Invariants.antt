use Rattle.std.proofs.Common.{◌≡◌, ◌-◌, ◌≤◌, length}
use Rattle.markup_grammar.specs.Bytes.{is_name_byte}
use Rattle.markup_scanner.specs.Scans.{run_end}
use Rattle.markup_scanner.proofs.run.in_name_end_by_bytes.Given as goal

-- the bytes so far have been passed
abbrev pub invariant-loop-end : goal.invariant-loop-end
invariant-loop-end l =
    (run_end is_name_byte l.text l.at ≡ run_end is_name_byte l.text l.end) × (l.at ≤ l.end) × (l.end ≤ length l.text)

abbrev pub decreases-loop-end : goal.decreases-loop-end
decreases-loop-end l = length l.text - l.end
