use Rattle.std.proofs.Common.{◌≡◌, ◌+◌, drop}
use Rattle.psafe_file.specs.SeenFields.{records_seen}
use Rattle.psafe_core.specs.Outcome.{nil_record}
use Rattle.psafe_core.proofs.import.nil_record.Given as goal

abbrev pub invariant-loop-at : goal.invariant-loop-at
invariant-loop-at l = nil_record (l.at + 1) (records_seen (drop l.at l.records)) ≡ nil_record 1 (records_seen l.records)
