-- What a file begins with that has a header, up to some of its bytes.
use Rattle.std.specs.Prelude.{◌≡◌, ◌≢◌, ◌⊎◌, ◌+◌, ◌<◌, ℕ, List, [], ◌∷◌, ◌++◌, length, take, drop, Ok}
use Rattle.std.specs.Int.{byte_len, from_le_bytes, w32}
use Rattle.vault_model.specs.declared.forms.FileVersion.{FileVersion}
use Rattle.kdbx_parts.specs.declared.parts.LengthWidth.{LengthWidth}
use Rattle.kdbx_parts.specs.Parts.{Field, field_head_len, width_of}
use Rattle.kdbx_frame.specs.Fields.{FieldsRead, HeaderFields, header_limit, length_width, no_fields, with_field}
use Rattle.kdbx_frame.specs.Header.{signature, version_of}
use Rattle.kdbx_frame.specs.Settings.{IsVersion4}

-- ---- the parts of a header

-- The bytes of a file that its header may be in.
abbrev pub header_bytes : List ℕ → List ℕ
header_bytes file = take header_limit file

-- Bytes begin with the signature and four bytes of this number, and go on with these.
pub record HasNumber (number : ℕ) (bytes rest : List ℕ) : Type 0 where
  pub written : List ℕ
  pub is : bytes ≡ signature ++ (written ++ rest)
  pub len : length written ≡ 4
  pub number_is : number ≡ from_le_bytes w32 written

-- Bytes begin with a field: a byte of id, its length in this width, its content, and then its rest.
pub record IsField (width : LengthWidth) (bytes : List ℕ) (field : Field) : Type 0 where
  pub len : List ℕ
  pub is : bytes ≡ field.id ∷ (len ++ (field.content ++ field.rest))
  pub width_is : length len ≡ byte_len (width_of width)
  pub len_is : from_le_bytes (width_of width) len ≡ length field.content

-- Fields lead from some bytes to others: one after another, none of them field 0, and what each
-- says is added to what those before it said.
abbrev pub LeadTo : FileVersion → List Field → FieldsRead → FieldsRead → Type 0
LeadTo version [] from to = from ≡ to
LeadTo version (f ∷ fs) from to = (more : HeaderFields)
    × IsField (length_width version) from.rest f × (f.id ≢ 0)
    × (with_field version from.fields f ≡ Ok more)
    × LeadTo version fs (record { fields = more; rest = f.rest }) to

-- The header of a file of this version up to some of its bytes, and what the fields before them
-- say.
pub record ReadsTo (file : List ℕ) (version : FileVersion) (now : FieldsRead) : Type 0 where
  pub number : ℕ
  pub after : List ℕ
  pub begins : HasNumber number (header_bytes file) after
  pub version_is : version_of number ≡ Ok version
  pub fields : List Field
  pub lead : LeadTo version fields (record { fields = no_fields; rest = after }) now

-- The whole header of a file, whose fields say this, up to field 0; and the bytes after it.
pub record HasFields (file : List ℕ) (version : FileVersion) (said : HeaderFields)
    (rest : List ℕ) : Type 0 where
  pub before : List ℕ
  pub reads : ReadsTo file version (record { fields = said; rest = before })
  pub last : Field
  pub is_last : IsField (length_width version) before last
  pub zero : last.id ≡ 0
  pub rest_is : last.rest ≡ rest

-- ---- parts that are not whole

-- Of these bytes at the end of a file's header the first n end at this offset, and are not all
-- there.
pub record IsCut (file rest : List ℕ) (n end : ℕ) : Type 0 where
  pub short : length rest < n
  pub ends : end + length rest ≡ length (header_bytes file) + n

-- A field at the start of some bytes has at least n: its head, or with its head the content whose
-- length the head has.
abbrev pub NeedsField : LengthWidth → List ℕ → ℕ → Type 0
NeedsField width rest n = (n ≡ field_head_len width)
    ⊎ ((head : List ℕ) × (more : List ℕ) × (rest ≡ head ++ more)
    × (length head ≡ field_head_len width)
    × (n ≡ field_head_len width + from_le_bytes (width_of width) (drop 1 head)))

-- A field that ends at this offset is not whole.
pub record HasCutField (file : List ℕ) (end : ℕ) : Type 0 where
  pub version : FileVersion
  pub now : FieldsRead
  pub reads : ReadsTo file version now
  pub n : ℕ
  pub needs : NeedsField (length_width version) now.rest n
  pub cut : IsCut file now.rest n end

-- In version 4 the hash of the header, or the MAC after it, ends at this offset and is not whole.
pub record HasCutSum (file : List ℕ) (end : ℕ) : Type 0 where
  pub version : FileVersion
  pub four : IsVersion4 version
  pub said : HeaderFields
  pub rest : List ℕ
  pub has : HasFields file version said rest
  pub n : ℕ
  pub which : (n ≡ 32) ⊎ (n ≡ 64)
  pub cut : IsCut file rest n end

-- The four bytes of the version end at this offset, and are not whole.
pub record HasCutVersion (file : List ℕ) (end : ℕ) : Type 0 where
  pub rest : List ℕ
  pub begins : header_bytes file ≡ signature ++ rest
  pub cut : IsCut file rest 4 end

-- A part of a header that ends at this offset is not whole.
abbrev pub HasCutPart : List ℕ → ℕ → Type 0
HasCutPart file end = HasCutVersion file end ⊎ (HasCutField file end ⊎ HasCutSum file end)
