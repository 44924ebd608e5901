-- The written form of fields, of a header and of the text before a document.
use Rattle.std.specs.Prelude.{ℕ, ◌<◌, ◌^◌, List, ◌∷◌, ◌++◌, length}
use Rattle.std.specs.Int.{to_le_bytes}
use Rattle.std.specs.List.{flat_map}
use Rattle.kdbx_parts.specs.Parts.{width_of}
use Rattle.kdbx_parts.specs.declared.parts.LengthWidth.{LengthWidth}
use Rattle.kdbx_parts.specs.declared.parts.LengthWidth.TheVariants.{Two, Four}

-- A length of this width can be this number.
abbrev pub HasRoom : LengthWidth → ℕ → Type 0
HasRoom Two n = n < 2 ^ 16
HasRoom Four n = n < 2 ^ 32

-- A field as it is written, with a length of this width: its id, the length of its content, and its
-- content.
abbrev pub spelled_field_with : LengthWidth → ℕ × List ℕ → List ℕ
spelled_field_with width field =
    field.0 ∷ to_le_bytes (width_of width) (length field.1) ++ field.1

-- Fields one after another, and field 0, which ends them, with this content.
abbrev pub spelled_fields_with : LengthWidth → List (ℕ × List ℕ) → List ℕ → List ℕ
spelled_fields_with width fields end =
    flat_map (spelled_field_with width) fields ++ spelled_field_with width (0, end)

-- A field with a length of four bytes.
abbrev pub spelled_field : ℕ × List ℕ → List ℕ
spelled_field field = spelled_field_with Four field

-- Fields with lengths of four bytes, and field 0.
abbrev pub spelled_fields : List (ℕ × List ℕ) → List ℕ → List ℕ
spelled_fields fields end = spelled_fields_with Four fields end
