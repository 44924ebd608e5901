use Rattle.command_laws.proofs.Commands.{adding_is_free}
use Rattle.command_laws.proofs.laws.adding_is_free.Goals as goal

pub returns : goal.returns
returns c = adding_is_free
