use Rattle.cli_options.proofs.OneName.{one_option}
use Rattle.cli_options.proofs.laws.a_word_names_one_option.Goals as goal

pub returns : goal.returns
returns c = one_option
