use Rattle.std.proofs.Common.{◌≡◌, ◌||◌, sym, ap, ◌∙◌}
use Rattle.std.specs.Option.{option_copied_mut}
use Rattle.vault_model.specs.Bare.{BareField}
use Rattle.vault_model.specs.Seen.{bare_field}
use Rattle.tree_contents.proofs.Places.{changed_nowhere, changed_there}
use Rattle.tree_contents.proofs.own_fields.replace_own_value.Goals.{else-field, then-field}
use Rattle.tree_contents.proofs.own_fields.replace_own_value.Goals as goal

pub returns-after-field : goal.returns-after-field
returns-after-field c =
    let old = c.in-Some.field.now in
    let protect = c.args.protect in
    let hidden : c.if-field.field ≡ (old.hidden || protect) = elim c.if-field.branch [
      | then-field w ↦ w.field-is ∙ w.if-field.true ∙ sym (ap (λ b. b || protect) w.if-field.true)
      | else-field w ↦ w.field-is ∙ sym (ap (λ b. b || protect) w.if-field.false)
    ] in
    changed_there bare_field (λ (f : BareField). record f { value = c.args.value.now.bytes; hidden = f.hidden || protect }) c.args.fields.now c.args.at old
    (record old { value = c.in_ok-value.value; hidden = c.if-field.field }) (sym c.get_mut.ensures.item ∙ ap option_copied_mut c.in-Some.is)
    (λ i. record (bare_field old) { value = c.in_ok-value.ensures.bytes i; hidden = hidden i })

pub returns-in_default : goal.returns-in_default
returns-in_default c =
    changed_nowhere bare_field (λ (f : BareField). record f { value = c.args.value.now.bytes; hidden = f.hidden || c.args.protect }) c.args.fields.now c.args.at
    (sym c.get_mut.ensures.item ∙ ap option_copied_mut c.in_default.is)
