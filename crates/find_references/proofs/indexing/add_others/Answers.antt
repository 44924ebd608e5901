use Rattle.std.proofs.Common.{refl, ◌&&◌, ℕ, List}
use Rattle.std.specs.Str.{bytes_eq}
use Rattle.find_references.proofs.IndexSteps.{adds_other, adds_none}
use Rattle.find_references.specs.Fields.{is_other}
use Rattle.vault_model.specs.Bare.{BareField}
use Rattle.vault_model.specs.Seen.{bare_field}
use Rattle.vault_model.specs.SeenNodes.{entry_row}
use Rattle.find_references.proofs.indexing.add_others.Goals as goal

pub loop-field-init : goal.loop-field-init
loop-field-init c = adds_none _ _ (λ bytes. refl)

pub loop-field-preserved : goal.loop-field-preserved
loop-field-preserved c =
    adds_other _ _ _ bare_field _ _ c.field-item.result c.loop-field-test.true c.field-item.is
    (λ (bytes : List ℕ) (f : BareField). is_other f && bytes_eq f.value bytes) (entry_row c.args.entry.now)
    c.loop-field.invariant c.in_ok-add_other.ensures
