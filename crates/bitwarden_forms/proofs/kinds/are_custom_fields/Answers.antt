use Rattle.std.proofs.Common.{ap, ◌∙◌}
use Rattle.std.specs.List.{list_all}
use Rattle.serde_json.specs.View.{view}
use Rattle.bitwarden_forms.specs.Kinds.{is_custom_field}
use Rattle.bitwarden_forms.proofs.Lists.{list_is}
use Rattle.bitwarden_forms.proofs.kinds.are_custom_fields.Goals as goal

pub returns-in-Some : goal.returns-in-Some
returns-in-Some c = list_is is_custom_field (view c.args.value.now) c.in-Some.list.now.items c.all_custom_fields.result c.in-Some.ensures (c.all_custom_fields.ensures ∙ ap (list_all (λ v. is_custom_field (view v))) c.as_slice.ensures.value)
