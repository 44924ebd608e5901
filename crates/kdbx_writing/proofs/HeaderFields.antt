-- The fields of a header that are spelled are read.
use Rattle.std.proofs.Common.{◌≡◌, ℕ, ◌<◌, true, false, List, [], ◌++◌, length, Result, Ok, refl, ◌∙◌, arith}
use Rattle.std.specs.List.{flat_map, AllByRecursion}
use Rattle.outside_core.specs.Results.{◌>>=◌}
use Rattle.vault_model.specs.declared.forms.FileVersion.{FileVersion}
use Rattle.vault_model.specs.declared.forms.FileVersion.TheVariants.{V31, V40, V41}
use Rattle.kdbx_parts.specs.declared.fail.FrameFail.{FrameFail}
use Rattle.kdbx_parts.specs.declared.parts.LengthWidth.{LengthWidth}
use Rattle.kdbx_parts.specs.declared.parts.LengthWidth.TheVariants.{Two, Four}
use Rattle.kdbx_frame.specs.Fields.{FieldsRead, HeaderFields, end_missing, field_step, fields_from, length_width, no_fields, part_refusal, with_common_field, with_field, with_field_31, with_field_4}
use Rattle.kdbx_writing.specs.Fields.{HasRoom, spelled_field_with}
use Rattle.kdbx_writing.specs.Header.{header_end}
use Rattle.kdbx_writing.proofs.FieldReading.{CanBeWritten, field_again}
use Rattle.kdbx_writing.proofs.Readings.{folded, spelled_steps, then_ok}

-- How far the reading of the fields has come.
abbrev pub at : HeaderFields → List ℕ → FieldsRead
at found rest = record { fields = found; rest = rest }

-- What a field adds.
abbrev pub add_field : FileVersion → HeaderFields → ℕ × List ℕ → Result HeaderFields FrameFail
add_field version found field = with_field version found (record { id = field.0; content = field.1; rest = [] })

-- A field as it is written in a version.
abbrev pub spelled_in : FileVersion → ℕ × List ℕ → List ℕ
spelled_in version field = spelled_field_with (length_width version) field

field_step_again : (version : FileVersion) (size whole : ℕ) (found : HeaderFields) (field : ℕ × List ℕ) (rest : List ℕ) → CanBeWritten (length_width version) field
    → field_step version size whole (at found (spelled_in version field ++ rest)) ≡ (add_field version found field >>= λ q. Ok (false, at q rest))
unfolding field_step with_common_field with_field_31 with_field_4
field_step_again V31 size whole found field rest is =
    then_ok _ _ _ (field_again Two (part_refusal size whole (at found (spelled_in V31 field ++ rest))) field.0 field.1 rest is.1)
    ∙ rw is.0 refl
field_step_again V40 size whole found field rest is =
    then_ok _ _ _ (field_again Four (part_refusal size whole (at found (spelled_in V40 field ++ rest))) field.0 field.1 rest is.1)
    ∙ rw is.0 refl
field_step_again V41 size whole found field rest is =
    then_ok _ _ _ (field_again Four (part_refusal size whole (at found (spelled_in V41 field ++ rest))) field.0 field.1 rest is.1)
    ∙ rw is.0 refl

end_fits : (width : LengthWidth) → HasRoom width (length header_end)
end_fits Two = omega arith
end_fits Four = omega arith

end_step_again : (version : FileVersion) (size whole : ℕ) (found : HeaderFields) (rest : List ℕ)
    → field_step version size whole (at found (spelled_in version (0, header_end) ++ rest)) ≡ Ok (true, at found rest)
unfolding field_step
end_step_again version size whole found rest =
    then_ok _ _ _ (field_again (length_width version) (part_refusal size whole (at found (spelled_in version (0, header_end) ++ rest))) 0 header_end rest
    (end_fits (length_width version)))

-- Written fields are read.
pub fields_again : (version : FileVersion) (size whole : ℕ) (fields : List (ℕ × List ℕ)) (found : HeaderFields) (rest : List ℕ)
    → AllByRecursion (CanBeWritten (length_width version)) fields → length fields < whole
    → folded (add_field version) no_fields fields ≡ Ok found
    → fields_from version size whole (flat_map (spelled_in version) fields ++ (spelled_in version (0, header_end) ++ rest)) ≡ Ok (at found rest)
fields_again version size whole fields found rest are enough adds =
    spelled_steps (field_step version size whole) (end_missing version size whole) at (spelled_in version) (add_field version) (spelled_in version (0, header_end))
    (CanBeWritten (length_width version))
    (field_step_again version size whole) (end_step_again version size whole) whole fields no_fields rest are enough
    ∙ then_ok _ _ _ adds
