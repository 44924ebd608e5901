use Rattle.std.proofs.Common.{sym, ap, ◌∙◌}
use Rattle.secret_core.specs.Secret.{SecretBuffer}
use Rattle.std.specs.Option.{option_copied_mut}
use Rattle.vault_model.specs.Bare.{BareAttachment}
use Rattle.vault_model.specs.Seen.{bare_attachment}
use Rattle.tree_contents.proofs.Places.{changed_nowhere, changed_there}
use Rattle.tree_contents.proofs.attachments.replace_bytes.Goals as goal

pub returns-in-Some : goal.returns-in-Some
returns-in-Some c =
    let old = c.in-Some.attachment.now in
    let same = ap (λ (secret : SecretBuffer). secret.bytes) c.in_ok-bytes.ensures.cases in
    changed_there bare_attachment (λ (a : BareAttachment). record a { bytes = c.args.bytes.now.value.bytes }) c.args.attachments.now c.args.at old (record old { bytes = c.in_ok-bytes.bytes })
    (sym c.get_mut.ensures.item ∙ ap option_copied_mut c.in-Some.is) (λ i. record (bare_attachment old) { bytes = same i })

pub returns-in_default : goal.returns-in_default
returns-in_default c =
    changed_nowhere bare_attachment (λ (a : BareAttachment). record a { bytes = c.args.bytes.now.value.bytes }) c.args.attachments.now c.args.at
    (sym c.get_mut.ensures.item ∙ ap option_copied_mut c.in_default.is)
