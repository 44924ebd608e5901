use Rattle.law_examples.proofs.Files.{three_files_agree}
use Rattle.law_examples.proofs.laws.three_files_agree.Goals as goal

pub returns : goal.returns
returns c = three_files_agree
