use Rattle.edit_examples.proofs.Edited.{example_restore}
use Rattle.edit_examples.proofs.laws.a_version_is_restored.Goals as goal

pub returns : goal.returns
returns c = example_restore
