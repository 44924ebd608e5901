-- The first fault in the deciphered bytes of a file.
use Rattle.std.specs.Prelude.{ℕ, if◌then◌else◌, Option, None, Some, List, [], ◌∷◌, length, Result, Ok, Err}
use Rattle.std.specs.Option.{option_or}
use Rattle.psafe_file.specs.Fields.{FieldList, SafeField, after_header, fields_of, is_ended}
use Rattle.psafe_file.specs.Kinds.{is_faulty}

-- The place of the first faulty field of records.
abbrev pub first_faulty : List SafeField → Option ℕ
first_faulty [] = None
first_faulty (field ∷ fields) =
    if is_faulty field.kind field.content then Some field.offset else first_faulty fields

-- The end of bytes of this length, where the header or a record is not ended.
abbrev pub unended_at : ℕ → List SafeField → Option ℕ
unended_at len fields = if is_ended fields then None else Some len

-- The place of the first fault in fields of so many bytes: a faulty field of a record, a field that
-- passes the end, or a header or record that is not ended, whose place is the end. Of the header's
-- fields no content is tested.
abbrev pub first_fault : ℕ → FieldList → Option ℕ
first_fault len all =
    option_or (first_faulty (after_header all.fields))
    (option_or all.cut_off (unended_at len all.fields))

-- Fields without a fault, or the place of the first.
abbrev pub faultless : List SafeField → Option ℕ → Result (List SafeField) ℕ
faultless fields None = Ok fields
faultless fields (Some place) = Err place

-- The fields of the deciphered bytes, or the place of the first fault.
unfoldable pub sound_fields : List ℕ → Result (List SafeField) ℕ
sound_fields bytes =
    faultless (fields_of bytes).fields (first_fault (length bytes) (fields_of bytes))
