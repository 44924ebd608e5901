-- A field that is spelled is read.
use Rattle.std.proofs.Common.{◌≡◌, ℕ, ◌+◌, ◌≤◌, Bool, false, cond, List, [], ◌∷◌, ◌++◌, length, Ok, Err, refl, sym, ◌∙◌, ap, arith, length-append}
use Rattle.std.specs.Prelude.{◌==◌}
use Rattle.std.specs.List.{flat_map}
use Rattle.std.specs.Int.{w16, w32, to_le_bytes, from_le_bytes}
use Rattle.std.proofs.lemmas.Bool.{eq-eqb}
use Rattle.std.proofs.lemmas.Nat.{from_le_bytes-to_le_bytes_2, from_le_bytes-to_le_bytes_4}
use Rattle.kdbx_parts.specs.declared.fail.FrameFail.{FrameFail}
use Rattle.kdbx_parts.specs.declared.fail.FrameFail.TheVariants.{FieldLength}
use Rattle.kdbx_parts.specs.declared.parts.LengthWidth.{LengthWidth}
use Rattle.kdbx_parts.specs.declared.parts.LengthWidth.TheVariants.{Two, Four}
use Rattle.kdbx_parts.specs.Parts.{field_at, unique_of_length}
use Rattle.kdbx_writing.specs.Fields.{HasRoom, spelled_field_with}
use Rattle.kdbx_writing.proofs.Readings.{split_again, then_ok}

-- A written field is read.
pub field_again : (width : LengthWidth) (fail : ℕ → FrameFail) (id : ℕ) (content rest : List ℕ) → HasRoom width (length content)
    → field_at width fail (spelled_field_with width (id, content) ++ rest) ≡ Ok (record { id = id; content = content; rest = rest })
unfolding field_at
field_again Two fail id content rest small =
    let head : List ℕ = id ∷ to_le_bytes w16 (length content) in
    let n = from_le_bytes w16 (to_le_bytes w16 (length content)) in
    then_ok _ _ _ (split_again (fail 3) 3 head (content ++ rest) refl)
    ∙ then_ok _ _ _ (split_again (fail (3 + n)) n content rest (sym (from_le_bytes-to_le_bytes_2 (length content) small)))
field_again Four fail id content rest small =
    let head : List ℕ = id ∷ to_le_bytes w32 (length content) in
    let n = from_le_bytes w32 (to_le_bytes w32 (length content)) in
    then_ok _ _ _ (split_again (fail 5) 5 head (content ++ rest) refl)
    ∙ then_ok _ _ _ (split_again (fail (5 + n)) n content rest (sym (from_le_bytes-to_le_bytes_4 (length content) small)))

-- Fields that can be written: field 0 ends them.
abbrev pub CanBeWritten : LengthWidth → ℕ × List ℕ → Type 0
CanBeWritten width field = ((field.0 == 0) ≡ false) × HasRoom width (length field.1)

-- A field has a byte at least, and its content.
pub field_long : (width : LengthWidth) (f : ℕ × List ℕ) → 1 + length f.1 ≤ length (spelled_field_with width f)
field_long Two f = omega (arith, length-append (f.0 ∷ to_le_bytes w16 (length f.1)) f.1)
field_long Four f = omega (arith, length-append (f.0 ∷ to_le_bytes w32 (length f.1)) f.1)

-- There are no more fields than bytes of them.
pub fewer_fields : (width : LengthWidth) (fields : List (ℕ × List ℕ)) → length fields ≤ length (flat_map (spelled_field_with width) fields)
fewer_fields width [] = omega arith
fewer_fields width (f ∷ fields) =
    omega (arith, fewer_fields width fields, length-append (spelled_field_with width f) (flat_map (spelled_field_with width) fields), field_long width f)

-- The content of a field that occurs for the first time.
pub length_again : (id n : ℕ) (content : List ℕ) → length content ≡ n → unique_of_length id n false content ≡ Ok content
length_again id n content h = ap (λ (b : Bool). cond b (Ok content) (Err (FieldLength id (length content)))) (eq-eqb (length content) n h)
