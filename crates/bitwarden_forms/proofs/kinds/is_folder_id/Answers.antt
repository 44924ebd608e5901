use Rattle.bitwarden_forms.proofs.Lists.{folder_is}
use Rattle.serde_json.specs.View.{view}
use Rattle.bitwarden_forms.proofs.kinds.is_folder_id.Goals as goal

pub returns-in-Some : goal.returns-in-Some
returns-in-Some c = folder_is c.args.folders.now (view c.args.value.now) c.in-Some.id.now c.any_has_id.result c.in-Some.ensures c.any_has_id.ensures
