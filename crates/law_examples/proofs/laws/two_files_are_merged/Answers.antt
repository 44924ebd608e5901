use Rattle.law_examples.proofs.Files.{two_files_are_merged}
use Rattle.law_examples.proofs.laws.two_files_are_merged.Goals as goal

pub returns : goal.returns
returns c = two_files_are_merged
