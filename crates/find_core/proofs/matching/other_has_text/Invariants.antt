use Rattle.std.proofs.Common.{◌≡◌, drop}
use Rattle.std.specs.Prelude.{map}
use Rattle.std.specs.List.{filter, list_any}
use Rattle.find_core.specs.inside.Found.{has_folded}
use Rattle.find_references.specs.Fields.{is_other}
use Rattle.vault_model.specs.Bare.{BareField}
use Rattle.vault_model.specs.Seen.{bare_field}
use Rattle.find_core.proofs.matching.other_has_text.Given as goal

abbrev pub invariant-loop-field : goal.invariant-loop-field
invariant-loop-field l =
    list_any (has_folded l.term) (map (λ (f : BareField). f.value) (filter is_other (map bare_field (drop l.field-index l.fields))))
    ≡ list_any (has_folded l.term) (map (λ (f : BareField). f.value) (filter is_other (map bare_field l.fields)))
