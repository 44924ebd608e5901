use Rattle.std.proofs.Common.{ap, ◌∙◌}
use Rattle.std.specs.List.{list_all}
use Rattle.serde_json.specs.View.{view}
use Rattle.bitwarden_forms.specs.Kinds.{is_address}
use Rattle.bitwarden_forms.proofs.Lists.{list_is}
use Rattle.bitwarden_forms.proofs.kinds.are_addresses.Goals as goal

pub returns-in-Some : goal.returns-in-Some
returns-in-Some c = list_is is_address (view c.args.value.now) c.in-Some.list.now.items c.all_addresses.result c.in-Some.ensures (c.all_addresses.ensures ∙ ap (list_all (λ v. is_address (view v))) c.as_slice.ensures.value)
