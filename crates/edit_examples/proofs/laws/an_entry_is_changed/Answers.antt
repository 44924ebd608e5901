use Rattle.edit_examples.proofs.Edited.{example_change}
use Rattle.edit_examples.proofs.laws.an_entry_is_changed.Goals as goal

pub returns : goal.returns
returns c = example_change
