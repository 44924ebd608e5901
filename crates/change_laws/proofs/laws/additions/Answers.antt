use Rattle.change_laws.proofs.Adding.{commands_add}
use Rattle.change_laws.proofs.laws.additions.Goals as goal

pub returns : goal.returns
returns c = commands_add
