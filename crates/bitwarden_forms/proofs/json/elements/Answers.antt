use Rattle.std.proofs.Common.{map, ap, ◌∙◌}
use Rattle.serde_json.specs.View.{view}
use Rattle.bitwarden_forms.proofs.Lists.{listed_elements}
use Rattle.bitwarden_forms.proofs.json.elements.Goals as goal

pub returns-in-Some : goal.returns-in-Some
returns-in-Some c = ap (λ vs. map view vs) c.as_slice.ensures.value ∙ listed_elements (view c.args.value.now) c.in-Some.list.now.items c.in-Some.ensures
