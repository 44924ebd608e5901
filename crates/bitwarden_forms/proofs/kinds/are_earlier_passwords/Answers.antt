use Rattle.std.proofs.Common.{ap, ◌∙◌}
use Rattle.std.specs.List.{list_all}
use Rattle.serde_json.specs.View.{view}
use Rattle.bitwarden_forms.specs.Kinds.{is_earlier_password}
use Rattle.bitwarden_forms.proofs.Lists.{list_is}
use Rattle.bitwarden_forms.proofs.kinds.are_earlier_passwords.Goals as goal

pub returns-in-Some : goal.returns-in-Some
returns-in-Some c = list_is is_earlier_password (view c.args.value.now) c.in-Some.list.now.items c.all_earlier_passwords.result c.in-Some.ensures (c.all_earlier_passwords.ensures ∙ ap (list_all (λ v. is_earlier_password (view v))) c.as_slice.ensures.value)
