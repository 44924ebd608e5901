use Rattle.cli_options.proofs.Taken.{one_letter}
use Rattle.cli_options.proofs.option_laws.letters_differ.Goals as goal

pub returns : goal.returns
returns c = one_letter
