use Rattle.std.proofs.Common.{◌≡◌, drop, take}
use Rattle.psafe_file.specs.Fields.{after_header, records_in}
use Rattle.psafe_file.specs.SeenFields.{fields_seen}
use Rattle.psafe_file.proofs.Sections.{onto_first}
use Rattle.psafe_file.proofs.records.first_end.Given as goal

abbrev pub invariant-loop-at : goal.invariant-loop-at
invariant-loop-at l = record {
  records : records_in (fields_seen l.fields) ≡ onto_first (take l.at (fields_seen l.fields)) (records_in (drop l.at (fields_seen l.fields)));
  later : after_header (drop l.at (fields_seen l.fields)) ≡ after_header (fields_seen l.fields);
}
