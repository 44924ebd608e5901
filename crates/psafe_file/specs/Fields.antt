-- The fields in the deciphered bytes of a file of Password Safe (formatV3.txt, section 3.1), and the
-- header and the records that they make up.
use Rattle.std.specs.Prelude.{ℕ, zero, suc, ◌+◌, ◌*◌, ◌/◌, ◌==◌, nat_lt, if◌then◌else◌, ◌-◌, Bool, false, Option, None, Some, List, [], ◌∷◌, length, take, drop, flat_map, slice_get, slice_index, slice_range}
use Rattle.std.specs.Option.{option_map, unwrap_or}
use Rattle.std.specs.Int.{from_le_bytes, w32}

-- A field: the place of its first byte, its type, and its content.
pub record SafeField : Type 0 where
  pub offset : ℕ
  pub kind : ℕ
  pub content : List ℕ

-- How many bytes a field with so many bytes of content takes: four of its length and one of its type
-- come before the content, and its last block of 16 bytes is filled.
abbrev pub field_room : ℕ → ℕ
field_room len = (len + 20) / 16 * 16

-- The field at the first of some bytes, at this place.
abbrev pub field_at : ℕ → List ℕ → SafeField
field_at offset bytes = record {
  offset = offset;
  kind = slice_index bytes 4;
  content = slice_range bytes 5 (5 + from_le_bytes w32 (take 4 bytes));
}

-- Fields one after another, and the place of one that passes the end, if one does.
pub record FieldList : Type 0 where
  pub fields : List SafeField
  pub cut_off : Option ℕ

-- A field before others.
abbrev pub field_before : SafeField → FieldList → FieldList
field_before field later = record { fields = field ∷ later.fields; cut_off = later.cut_off }

-- The fields of bytes that begin at this place; at most n.
abbrev pub fields_from : ℕ → ℕ → List ℕ → FieldList
fields_from zero offset bytes = record { fields = []; cut_off = None }
fields_from (suc n) offset [] = record { fields = []; cut_off = None }
fields_from (suc n) offset (b ∷ bs) =
    let bytes = b ∷ bs in
    let room = field_room (from_le_bytes w32 (take 4 bytes)) in
    if nat_lt (length bytes) room then record { fields = []; cut_off = Some offset }
    else field_before (field_at offset bytes) (fields_from n (offset + room) (drop room bytes))

-- All fields of the deciphered bytes.
abbrev pub fields_of : List ℕ → FieldList
fields_of bytes = fields_from (length bytes) 0 bytes

-- What the MAC is of: the contents of all fields.
abbrev pub contents_of : List SafeField → List ℕ
contents_of fields = flat_map (λ (f : SafeField). f.content) fields

-- ---- header and records

-- The type of the field that ends the header, and of those that end the records.
abbrev pub is_end : SafeField → Bool
is_end field = field.kind == 255

-- The fields after the header, which are those of the records.
abbrev pub after_header : List SafeField → List SafeField
after_header [] = []
after_header (field ∷ fields) = if is_end field then fields else after_header fields

-- The last field is one that ends the header or a record.
abbrev pub is_ended : List SafeField → Bool
is_ended fields = unwrap_or (option_map is_end (slice_get fields (length fields - 1))) false

-- A field more at the start of the first record, if there is one.
abbrev pub in_first : SafeField → List (List SafeField) → List (List SafeField)
in_first field [] = []
in_first field (record_fields ∷ records) = (field ∷ record_fields) ∷ records

-- The records that fields after the header make up: the fields of each, without the one that ends it.
abbrev pub records_in : List SafeField → List (List SafeField)
records_in [] = []
records_in (field ∷ fields) =
    if is_end field then [] ∷ records_in fields else in_first field (records_in fields)

-- The records of all fields.
abbrev pub records_of : List SafeField → List (List SafeField)
records_of fields = records_in (after_header fields)
