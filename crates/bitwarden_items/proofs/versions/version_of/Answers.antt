use Rattle.std.proofs.Common.{map, ap, ◌∙◌}
use Rattle.bitwarden_fields.proofs.Sorted.{fields_rise}
use Rattle.bitwarden_items.proofs.ProperVersions.{content_proper}
use Rattle.serde_json.specs.View.{view}
use Rattle.vault_model.specs.Bare.{BareField}
use Rattle.vault_model.specs.Proper.{is_proper_content, rises}
use Rattle.vault_model.specs.Seen.{bare_field}
use Rattle.bitwarden_items.proofs.versions.version_of.Goals as goal

pub returns-clause-proper : goal.returns-clause-proper
returns-clause-proper c =
    let fields = c.in_ok-fields.fields in
    let rise = ap (rises (λ (f : BareField). f.key)) c.in_ok-fields.ensures.is ∙ fields_rise c.args.password.now (view c.args.item.now) in
    ap is_proper_content c.content_of.ensures ∙ content_proper c.args.now c.date_or-created.result (map bare_field fields) rise c.in_ok-fields.ensures.texts
