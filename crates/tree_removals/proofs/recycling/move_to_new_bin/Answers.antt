use Rattle.vault_model.specs.SeenNodes.{tree_seen}
use Rattle.tree_removals.proofs.NewBins.{moved_into, there_still}
use Rattle.tree_removals.proofs.recycling.move_to_new_bin.Goals as goal

pub move_to_place-requires : goal.move_to_place-requires
move_to_place-requires c = record {
  there = there_still c.args.entry.from c.args.entry.id c.args.bin c.args.now (tree_seen c.args.root.now) c.requires.there c.requires.absent (tree_seen c.put_bin.new.root) c.in_ok-put_bin.ensures;
}

pub returns : goal.returns
returns c =
    moved_into c.args.entry.from c.args.entry.id c.args.bin c.args.now (tree_seen c.args.root.now) c.requires.there c.requires.absent (tree_seen c.put_bin.new.root) c.in_ok-put_bin.ensures
    c.args.entry.time (tree_seen c.move_to_place.new.root) c.requires.no_nil c.move_to_place.ensures
