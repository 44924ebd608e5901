use Rattle.std.proofs.Common.{map}
use Rattle.serde_json.specs.View.{view}
use Rattle.bitwarden_forms.specs.Kinds.{is_item}
use Rattle.bitwarden_forms.proofs.Lists.{other_number}
use Rattle.bitwarden_forms.proofs.export.first_no_item.Goals as goal

pub returns : goal.returns
returns c = other_number (is_item (map view c.args.folders.now)) c.args.items.now c.other_than_item.result c.number_of.result c.other_than_item.ensures.place c.number_of.ensures
