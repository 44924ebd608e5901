use Rattle.merge_examples.proofs.Deletions.{deletions_count}
use Rattle.merge_examples.proofs.laws.deletions_count.Goals as goal

pub returns : goal.returns
returns c = deletions_count
