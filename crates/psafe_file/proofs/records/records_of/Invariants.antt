use Rattle.std.proofs.Common.{◌≡◌, ◌++◌, ◌≤◌, ◌-◌, drop, length}
use Rattle.psafe_file.specs.Fields.{records_in, records_of}
use Rattle.psafe_file.specs.SeenFields.{fields_seen, records_seen}
use Rattle.psafe_file.proofs.records.records_of.Given as goal

-- The records so far and those of what is left are all.
abbrev pub invariant-loop-len : goal.invariant-loop-len
invariant-loop-len l = record {
  within : l.start ≤ length l.fields;
  so_far : records_seen l.records ++ records_in (drop l.start (fields_seen l.fields)) ≡ records_of (fields_seen l.fields);
}

abbrev pub decreases-loop-len : goal.decreases-loop-len
decreases-loop-len l = length l.fields - l.start
