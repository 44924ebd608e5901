use Rattle.std.proofs.Common.{sym, ap, ◌∙◌}
use Rattle.std.specs.Option.{option_copied_mut}
use Rattle.vault_model.specs.Bare.{BareField}
use Rattle.vault_model.specs.Seen.{bare_field}
use Rattle.tree_contents.proofs.Places.{changed_nowhere, changed_there}
use Rattle.tree_contents.proofs.fields.replace_value.Goals as goal

pub returns-in-Some : goal.returns-in-Some
returns-in-Some c =
    let old = c.in-Some.field.now in
    changed_there bare_field (λ (f : BareField). record f { value = c.args.value.now }) c.args.fields.now c.args.at old (record old { value = c.in_ok-value.value })
    (sym c.get_mut.ensures.item ∙ ap option_copied_mut c.in-Some.is) (λ i. record (bare_field old) { value = c.in_ok-value.ensures i })

pub returns-in_default : goal.returns-in_default
returns-in_default c =
    changed_nowhere bare_field (λ (f : BareField). record f { value = c.args.value.now }) c.args.fields.now c.args.at (sym c.get_mut.ensures.item ∙ ap option_copied_mut c.in_default.is)
