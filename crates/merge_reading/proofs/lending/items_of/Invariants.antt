use Rattle.std.proofs.Common.{◌≡◌, ◌≤◌, length, map, drop}
use Rattle.std.specs.FinMap.{from_entries}
use Rattle.merge_reading.specs.Rows.{item_row}
use Rattle.merge_reading.proofs.lending.items_of.Given as goal

abbrev pub invariant-loop-at : goal.invariant-loop-at
invariant-loop-at l =
    record {
      within : l.at ≤ length l.items;
      read : l.table ≡ from_entries (map item_row (drop l.at l.items));
    }

abbrev pub decreases-loop-at : goal.decreases-loop-at
decreases-loop-at l = l.at
