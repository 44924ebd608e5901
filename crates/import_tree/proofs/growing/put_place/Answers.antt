use Rattle.std.proofs.Common.{ap, ◌∙◌, ◌≡◌, true}
use Rattle.std.specs.List.{list_all}
use Rattle.std.specs.Str.{is_utf8}
use Rattle.vault_model.specs.SeenNodes.{tree_seen}
use Rattle.import_tree.proofs.Kept.{IsKept, put_or_not}
use Rattle.import_tree.proofs.growing.put_place.Goals as goal

pub invariant_of-tree : goal.invariant_of-tree
invariant_of-tree c =
    let tree = c.args.tree.now in
    let place = c.args.place in
    let texts : list_all is_utf8 c.as_slice.result.now ≡ true = ap (list_all is_utf8) c.as_slice.ensures ∙ place.texts in
    let before : IsKept (tree_seen tree.root) = record { no_nil = tree.no_nil; entries = tree.entries_proper; groups = tree.groups_proper } in
    let kept =
    put_or_not place.moment c.as_slice.result.now place.entry (tree_seen tree.root) (tree_seen c.put_entry.new.group) c.put_entry.result c.put_entry.ensures.ok c.put_entry.ensures.err
    place.not_nil place.proper texts before in
    record {
      no_nil = kept.no_nil;
      entries_proper = kept.entries;
      groups_proper = kept.groups;
      rising_icons = tree.rising_icons;
      rising_items = tree.rising_items;
      meta_texts = tree.meta_texts;
    }
