use Rattle.vault_model.specs.SeenNodes.{tree_seen}
use Rattle.tree_moves.proofs.GroupChildren.{placed_done}
use Rattle.tree_moves.proofs.GroupsTaken.{group_placed_at}
use Rattle.tree_moves.proofs.moving_groups.move_group_to_place.Goals as goal

pub returns-in-Some : goal.returns-in-Some
returns-in-Some c =
    let taken = rw c.in-Some.is at c.take_group.ensures in
    placed_done c.args.from c.args.to c.args.id c.args.time (tree_seen c.args.root.now) (tree_seen c.take_group.new.root) (tree_seen c.fill_group.new.root)
    (tree_seen c.in-Some.group) _ taken.0 taken.1 (group_placed_at c.in-Some.group c.args.from c.args.time) c.fill_group.ensures
