use Rattle.std.proofs.Common.{◌≡◌, drop}
use Rattle.psafe_file.specs.Faults.{first_faulty}
use Rattle.psafe_file.specs.SeenFields.{fields_seen}
use Rattle.psafe_file.proofs.faults.first_faulty.Given as goal

abbrev pub invariant-loop-field : goal.invariant-loop-field
invariant-loop-field l = first_faulty (fields_seen (drop l.field-index l.fields)) ≡ first_faulty (fields_seen l.fields)
