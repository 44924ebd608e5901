use Rattle.cli_options.proofs.Taken.{one_name}
use Rattle.cli_options.proofs.option_laws.names_differ.Goals as goal

pub returns : goal.returns
returns c = one_name
