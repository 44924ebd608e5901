use Rattle.vault_model.specs.SeenNodes.{tree_seen}
use Rattle.tree_moves.proofs.GroupsTaken.{group_filled}
use Rattle.tree_moves.proofs.groups.FillGroupChange.make.Goals as goal

pub returns : goal.returns
returns c = group_filled (tree_seen c.args.self.group) c.args.group.now c.fill_place.new.groups c.fill_place.ensures
