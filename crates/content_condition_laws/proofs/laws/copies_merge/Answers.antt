use Rattle.content_condition_laws.proofs.Merging.{merge_succeeds}
use Rattle.content_condition_laws.proofs.laws.copies_merge.Goals as goal

pub returns : goal.returns
returns c = merge_succeeds
