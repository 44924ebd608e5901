use Rattle.file_limits.proofs.Example.{example_files}
use Rattle.file_limits.proofs.laws.example_files.Goals as goal

pub returns : goal.returns
returns c = example_files
