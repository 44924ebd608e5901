use Rattle.std.proofs.Common.{◌≡◌, ◌&&◌, drop}
use Rattle.std.specs.Prelude.{map}
use Rattle.std.specs.List.{list_any}
use Rattle.std.specs.Str.{bytes_eq}
use Rattle.find_references.specs.Fields.{is_other}
use Rattle.vault_model.specs.Bare.{BareField}
use Rattle.vault_model.specs.Seen.{bare_field}
use Rattle.find_references.proofs.fields.has_other.Given as goal

abbrev pub invariant-loop-field : goal.invariant-loop-field
invariant-loop-field l =
    list_any (λ (f : BareField). is_other f && bytes_eq f.value l.text) (map bare_field (drop l.field-index l.fields))
    ≡ list_any (λ (f : BareField). is_other f && bytes_eq f.value l.text) (map bare_field l.fields)
