use Rattle.std.proofs.Common.{◌≡◌, ◌≤◌, length, map, drop}
use Rattle.std.specs.FinMap.{from_entries}
use Rattle.merge_reading.specs.Rows.{icon_row}
use Rattle.merge_reading.proofs.lending.icons_of.Given as goal

abbrev pub invariant-loop-at : goal.invariant-loop-at
invariant-loop-at l =
    record {
      within : l.at ≤ length l.icons;
      read : l.table ≡ from_entries (map icon_row (drop l.at l.icons));
    }

abbrev pub decreases-loop-at : goal.decreases-loop-at
decreases-loop-at l = l.at
