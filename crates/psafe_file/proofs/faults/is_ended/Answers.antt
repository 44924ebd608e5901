use Rattle.std.proofs.Common.{◌≡◌, ◌-◌, ℕ, false, List, Option, map, length, ap, sym, ◌∙◌}
use Rattle.std.specs.Option.{option_map, unwrap_or}
use Rattle.std.specs.List.{slice_get}
use Rattle.std.proofs.lemmas.List.{length-map}
use Rattle.std.proofs.lemmas.Option.{slice_get-map}
use Rattle.psafe_file.specs.Fields as spec
use Rattle.psafe_file.specs.Fields.{is_end, is_ended}
use Rattle.psafe_file.specs.SeenFields.{field_seen, fields_seen}
use Rattle.psafe_file.specs.declared.fields.SafeField.{SafeField}
use Rattle.psafe_file.proofs.faults.is_ended.Goals as goal

-- The last field, as it is seen.
last_seen : (fields : List SafeField) (last : Option SafeField) → last ≡ slice_get fields (length fields - 1)
    → unwrap_or (option_map is_end (option_map field_seen last)) false ≡ is_ended (fields_seen fields)
last_seen fields last e =
    ap (λ (l : Option SafeField). unwrap_or (option_map is_end (option_map field_seen l)) false) e
    ∙ sym (ap (λ (l : Option spec.SafeField). unwrap_or (option_map is_end l) false) (slice_get-map field_seen fields (length fields - 1)))
    ∙ sym (ap (λ (n : ℕ). unwrap_or (option_map is_end (slice_get (map field_seen fields) (n - 1))) false) (length-map fields field_seen))

pub returns-in-Some : goal.returns-in-Some
returns-in-Some c = last_seen c.args.fields.now _ c.in-Some.ensures.value

pub returns-in-None : goal.returns-in-None
returns-in-None c = last_seen c.args.fields.now _ c.in-None.ensures.value
