use Rattle.std.proofs.Common.{◌≡◌, ◌++◌, drop}
use Rattle.csv.specs.Records.{fields_of}
use Rattle.table_reading.specs.Columns.{passed_from}
use Rattle.table_reading.proofs.columns.add_all_passed.Given as goal

-- the names so far, with those that are left, are all
abbrev pub invariant-loop-at : goal.invariant-loop-at
invariant-loop-at l = l.passed ++ passed_from l.columns l.at (drop l.at (fields_of l.names)) ≡ l.initial.passed ++ passed_from l.columns 0 (fields_of l.names)
