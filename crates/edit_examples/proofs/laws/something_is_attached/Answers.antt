use Rattle.edit_examples.proofs.Edited.{example_attachment}
use Rattle.edit_examples.proofs.laws.something_is_attached.Goals as goal

pub returns : goal.returns
returns c = example_attachment
