use Rattle.vault_model.specs.SeenNodes.{tree_seen}
use Rattle.tree_core.specs.Changes.{on_groups}
use Rattle.tree_moves.specs.GroupPlaces.{groups_filled}
use Rattle.tree_steps.proofs.InPlace.{always_of}
use Rattle.tree_moves.proofs.groups.fill_group.Goals as goal

pub returns : goal.returns
returns c = always_of c.args.into (on_groups (groups_filled (tree_seen c.args.group))) (tree_seen c.args.root.now) (tree_seen c.change_at.new.group) c.change_at.result c.change_at.ensures.none
