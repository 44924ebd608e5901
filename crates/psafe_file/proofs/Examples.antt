-- Small deciphered bytes, and their first faults.
use Rattle.std.proofs.Common.{◌≡◌, ℕ, Option, List, [], ◌∷◌, ◌++◌, None, Some, refl, replicate, length}
use Rattle.std.specs.Str.{chars, is_utf8}
use Rattle.psafe_file.specs.Faults.{first_fault}
use Rattle.psafe_file.specs.Fields.{fields_of, records_of}

-- A field in one block of 16 bytes, of this type and of at most 11 bytes of content.
abbrev block : ℕ → List ℕ → ℕ → List ℕ
block kind content filled = length content ∷ 0 ∷ 0 ∷ 0 ∷ kind ∷ (content ++ replicate filled 0)

-- The end of the header or of a record.
abbrev ended : List ℕ
ended = block 255 [] 11

abbrev fault_of : List ℕ → Option ℕ
fault_of bytes = first_fault (length bytes) (fields_of bytes)

-- A header alone, and two records, of which the second has no field.
no_records : fault_of ended ≡ None
no_records = refl

abbrev two_records : List ℕ
two_records = ended ++ block 7 (1 ∷ 2 ∷ 3 ∷ []) 8 ++ ended ++ ended

no_fault : fault_of two_records ≡ None
no_fault = refl

their_records : records_of (fields_of two_records).fields ≡ (record { offset = 16; kind = 7; content = 1 ∷ 2 ∷ 3 ∷ [] } ∷ []) ∷ [] ∷ []
their_records = refl

-- No byte; a record that is not ended; and a field that passes the end.
no_header : fault_of [] ≡ Some 0
no_header = refl

unended : fault_of (ended ++ block 7 [] 11) ≡ Some 32
unended = refl

cut_off : fault_of (ended ++ 12 ∷ 0 ∷ 0 ∷ 0 ∷ 7 ∷ replicate 11 0) ≡ Some 16
cut_off = refl

-- An id of another length, which in the header is none.
short_id : fault_of (ended ++ block 1 (1 ∷ []) 10 ++ ended) ≡ Some 16
short_id = refl

id_in_header : fault_of (block 1 (1 ∷ []) 10 ++ ended) ≡ None
id_in_header = refl

-- A time after the year 9999, and the last of that year.
late : fault_of (ended ++ block 12 (128 ∷ 65 ∷ 244 ∷ 255 ∷ 58 ∷ []) 6 ++ ended) ≡ Some 16
late = refl

last_year : fault_of (ended ++ block 12 (127 ∷ 65 ∷ 244 ∷ 255 ∷ 58 ∷ []) 6 ++ ended) ≡ None
last_year = refl

-- A text that is not UTF-8.
no_text : fault_of (ended ++ block 3 (255 ∷ []) 10 ++ ended) ≡ Some 16
unfolding is_utf8 chars
no_text = refl
