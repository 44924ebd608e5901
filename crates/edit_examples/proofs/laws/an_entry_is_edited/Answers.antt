use Rattle.edit_examples.proofs.Edited.{example_edit}
use Rattle.edit_examples.proofs.laws.an_entry_is_edited.Goals as goal

pub returns : goal.returns
returns c = example_edit
