use Rattle.edit_examples.proofs.Newest.{replacing_fails, undoing_fails}
use Rattle.edit_examples.proofs.laws.newest_versions_count.Goals as goal

pub returns-clause-undone : goal.returns-clause-undone
returns-clause-undone c = undoing_fails

pub returns-clause-replaced : goal.returns-clause-replaced
returns-clause-replaced c = replacing_fails
