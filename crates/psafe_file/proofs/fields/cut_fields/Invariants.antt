use Rattle.std.proofs.Common.{◌≡◌, ◌++◌, ◌≤◌, ◌-◌, length}
use Rattle.psafe_file.specs.Fields.{FieldList, fields_from, fields_of}
use Rattle.psafe_file.specs.SeenFields.{fields_seen}
use Rattle.psafe_file.proofs.fields.cut_fields.Given as goal

-- The fields so far and those of what is left are those of all bytes.
abbrev pub invariant-loop-rest : goal.invariant-loop-rest
invariant-loop-rest l =
    let later : FieldList = fields_from (length l.rest) (length l.bytes - length l.rest) l.rest in
    record {
      within : length l.rest ≤ length l.bytes;
      fields : fields_seen l.fields ++ later.fields ≡ (fields_of l.bytes).fields;
      cut_off : later.cut_off ≡ (fields_of l.bytes).cut_off;
    }

abbrev pub decreases-loop-rest : goal.decreases-loop-rest
decreases-loop-rest l = length l.rest
