use Rattle.std.proofs.Common.{refl, sym, ap, ◌∙◌}
use Rattle.std.specs.Str.{is_utf8}
use Rattle.vault_model.specs.Bare.{BareContent}
use Rattle.vault_model.specs.Proper.{is_proper_content}
use Rattle.vault_model.specs.Seen.{bare_content}
use Rattle.tree_core.specs.FurtherChanges.{further_seen, with_expiry}
use Rattle.tree_core.specs.NewNodes.{given_values}
use Rattle.tree_contents.proofs.ProperContents.{edited_proper, lent_text}
use Rattle.tree_contents.proofs.contents.edit_content.Goals as goal

pub returns-clause-proper : goal.returns-clause-proper
returns-clause-proper c proper =
    let further = c.args.further.now in
    let parts = c.in_ok-edit_parts.ensures.is in
    let tags = ap is_utf8 (sym (ap (λ (said : BareContent). said.tags) parts)) ∙ c.in_ok-edit_parts.ensures.utf8 in
    ap is_proper_content (c.edit_expiry.ensures ∙ ap (with_expiry further.expiry) parts)
    ∙ edited_proper c.args.protect.now (given_values c.args.values.now) (further_seen further) further.names.now further.values.now (bare_content c.args.content.now) refl
    c.values_are_utf8.ensures (lent_text c.args.values.now.otp c.requires.otp) c.texts_are_utf8.ensures c.requires.fields tags proper
