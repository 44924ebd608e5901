use Rattle.vault_model.specs.SeenNodes.{tree_seen}
use Rattle.tree_removals.proofs.LastGroups.{elsewhere_absent}
use Rattle.tree_removals.proofs.GroupBins.{moved_into, there_still}
use Rattle.tree_removals.proofs.recycling_groups.move_to_new_bin.Goals as goal

pub put_bin-requires : goal.put_bin-requires
put_bin-requires c = elsewhere_absent c.args.bin (tree_seen c.args.root.now) c.requires.absent

pub move_group_to_place-requires : goal.move_group_to_place-requires
move_group_to_place-requires c = record {
  there = there_still c.args.group.from c.args.group.id c.args.bin c.args.now (tree_seen c.args.root.now) c.requires.there c.requires.absent (tree_seen c.put_bin.new.root) c.requires.no_nil
      c.in_ok-put_bin.ensures;
}

pub returns : goal.returns
returns c =
    moved_into c.args.group.from c.args.group.id c.args.bin c.args.now (tree_seen c.args.root.now) c.requires.there c.requires.absent (tree_seen c.put_bin.new.root) c.requires.no_nil
    c.in_ok-put_bin.ensures c.args.group.time (tree_seen c.move_group_to_place.new.root) c.move_group_to_place.ensures
