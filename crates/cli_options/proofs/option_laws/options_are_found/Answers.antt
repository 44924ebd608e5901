use Rattle.cli_options.proofs.Taken.{found}
use Rattle.cli_options.proofs.option_laws.options_are_found.Goals as goal

pub returns : goal.returns
returns c = found
