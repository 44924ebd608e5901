use Rattle.std.proofs.Common.{ap}
use Rattle.vault_model.specs.SeenNodes.{are_tombs_apart, tombs_rise, tree_seen}
use Rattle.import_tree.proofs.importing.document_with.Goals as goal

pub invariant_of-result : goal.invariant_of-result
invariant_of-result c =
    let tree = c.args.tree in
    record {
      distinct = c.requires.distinct;
      no_nil = tree.no_nil;
      levels = c.requires.levels;
      rising_tombs = ap tombs_rise c.new.ensures;
      tombs_apart = ap (are_tombs_apart (tree_seen tree.root)) c.new.ensures;
      entries_proper = tree.entries_proper;
      groups_proper = tree.groups_proper;
      rising_icons = tree.rising_icons;
      rising_items = tree.rising_items;
      meta_texts = tree.meta_texts;
    }
