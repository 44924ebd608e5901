use Rattle.command_laws.proofs.ShownTrees.{relabel_shows}
use Rattle.command_laws.proofs.laws.relabelled.Goals as goal

pub returns : goal.returns
returns c = relabel_shows
