use Rattle.std.proofs.Common.{◌≡◌, ◌+◌, drop, map}
use Rattle.csv.specs.Records.{fields_of}
use Rattle.import_tree.specs.SeenEntries.{imported_seen}
use Rattle.table_reading.specs.Rows.{row_entries}
use Rattle.table_reading.proofs.Gathered.{after_these}
use Rattle.table_reading.proofs.rows.add_rows.Given as goal

-- the entries so far, with those of the rows that are left, are those of all
abbrev pub invariant-loop-at : goal.invariant-loop-at
invariant-loop-at l = row_entries l.table 1 (map fields_of l.rows)
    ≡ after_these (map imported_seen l.entries.items) (row_entries l.table (l.at + 1) (map fields_of (drop l.at l.rows)))
