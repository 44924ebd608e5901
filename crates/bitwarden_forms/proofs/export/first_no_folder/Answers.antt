use Rattle.bitwarden_forms.specs.Kinds.{is_folder}
use Rattle.bitwarden_forms.proofs.Lists.{other_number}
use Rattle.bitwarden_forms.proofs.export.first_no_folder.Goals as goal

pub returns : goal.returns
returns c = other_number (is_folder) c.args.folders.now c.other_than_folder.result c.number_of.result c.other_than_folder.ensures.place c.number_of.ensures
