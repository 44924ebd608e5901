use Rattle.vault_model.specs.SeenNodes.{entry_row, tree_seen}
use Rattle.tree_moves.proofs.Placed.{placed_done}
use Rattle.tree_moves.proofs.moving.move_to_place.Goals as goal

pub returns-in-Some : goal.returns-in-Some
returns-in-Some c =
    let taken = rw c.in-Some.is at c.take_entry.ensures in
    placed_done c.args.from c.args.to c.args.id c.args.time (tree_seen c.args.root.now) (tree_seen c.take_entry.new.root) (tree_seen c.fill_entry.new.root)
    (entry_row c.in-Some.entry) taken.0 taken.1 c.fill_entry.ensures
