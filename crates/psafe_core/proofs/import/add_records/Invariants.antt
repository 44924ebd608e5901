use Rattle.std.proofs.Common.{◌≡◌, ◌+◌, ◌++◌, None, drop, map}
use Rattle.import_tree.specs.SeenEntries.{imported_seen}
use Rattle.psafe_file.specs.SeenFields.{records_seen}
use Rattle.psafe_core.specs.Outcome.{nil_record}
use Rattle.psafe_core.specs.Records.{imported_records}
use Rattle.psafe_core.proofs.import.add_records.Given as goal

-- The entries so far, with those of the records that are left, are all, and none of these has the nil id.
abbrev pub invariant-loop-at : goal.invariant-loop-at
invariant-loop-at l = record {
  none_nil : nil_record (l.at + 1) (records_seen (drop l.at l.records)) ≡ None;
  so_far : map imported_seen l.entries.items ++ imported_records l.now (records_seen (drop l.at l.records))
      ≡ map imported_seen l.initial.entries.items ++ imported_records l.now (records_seen l.records);
}
