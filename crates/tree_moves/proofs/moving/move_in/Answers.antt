use Rattle.std.proofs.Common.{◌∙◌, ap, Some}
use Rattle.vault_model.specs.SeenNodes.{entry_row, tree_seen}
use Rattle.tree_moves.proofs.Placed.{moved_in_place, still_there}
use Rattle.tree_moves.proofs.moving.move_in.Goals as goal

pub move_to_place-requires : goal.move_to_place-requires
move_to_place-requires c =
    let put = rw (c.in-Some-Ok.is ∙ ap Some c.in-Some-Ok.field-0-is) at c.put_entry.ensures in
    record {
      there = still_there c.args.from c.args.to c.args.id (tree_seen c.args.root.now) (tree_seen c.put_entry.new.root) (entry_row c.no_entry.result) c.requires.other put c.requires.there;
    }

pub returns-in-Some-Ok : goal.returns-in-Some-Ok
returns-in-Some-Ok c =
    let put = rw (c.in-Some-Ok.is ∙ ap Some c.in-Some-Ok.field-0-is) at c.put_entry.ensures in
    let there = still_there c.args.from c.args.to c.args.id (tree_seen c.args.root.now) (tree_seen c.put_entry.new.root) (entry_row c.no_entry.result) c.requires.other put c.requires.there in
    moved_in_place c.args.from c.args.to c.args.id c.args.time (tree_seen c.args.root.now) (tree_seen c.put_entry.new.root) (tree_seen c.move_to_place.new.root) (entry_row c.no_entry.result)
    c.requires.other c.requires.goal c.no_entry.ensures c.requires.no_nil put there c.move_to_place.ensures
