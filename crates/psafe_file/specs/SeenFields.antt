-- What is seen of fields in memory, which lend their contents: the bytes.
use Rattle.std.specs.Prelude.{ℕ, List, map}
use Rattle.std.specs.Borrow.{Bor}
use Rattle.outside_core.specs.Results.{Meaning, exact, free}
use Rattle.psafe_file.specs.Fields as fields
use Rattle.psafe_file.specs.declared.fields.FieldTable.{FieldTable}
use Rattle.psafe_file.specs.declared.fields.SafeField.{SafeField}
use Rattle.psafe_file.specs.declared.faults.FieldsFail.{FieldsFail}
use Rattle.psafe_file.specs.declared.faults.FieldsFail.TheVariants.{FieldForm, NoMemory}

-- A field.
abbrev pub field_seen : SafeField → fields.SafeField
field_seen f = record { offset = f.offset; kind = f.kind; content = f.content.now }

-- Fields one after another.
abbrev pub fields_seen : List SafeField → List fields.SafeField
fields_seen fs = map field_seen fs

-- Records: the fields of each.
abbrev pub records_seen : List (Bor (List SafeField)) → List (List fields.SafeField)
records_seen rs = map (λ r. fields_seen r.now) rs

-- All fields, and the place of one that passes the end.
abbrev pub table_seen : FieldTable → fields.FieldList
table_seen t = record { fields = fields_seen t.fields; cut_off = t.cut_off }

-- What a refusal says of what is defined: the place of the first fault; running out of memory says
-- nothing.
abbrev pub meaning_of : FieldsFail → Meaning ℕ
meaning_of (FieldForm place) = exact place
meaning_of NoMemory = free
