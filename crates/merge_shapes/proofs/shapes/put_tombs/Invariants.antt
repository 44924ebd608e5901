use Rattle.std.proofs.Common.{◌≡◌, ◌≤◌, length, map, drop}
use Rattle.std.specs.FinMap.{from_entries}
use Rattle.merge_reading.specs.Rows.{tomb_row}
use Rattle.merge_shapes.proofs.shapes.put_tombs.Given as goal

abbrev pub invariant-loop-at : goal.invariant-loop-at
invariant-loop-at l =
    record {
      within : l.at ≤ length l.tombs;
      read : l.table ≡ from_entries (map tomb_row (drop l.at l.tombs));
    }

abbrev pub decreases-loop-at : goal.decreases-loop-at
decreases-loop-at l = l.at
