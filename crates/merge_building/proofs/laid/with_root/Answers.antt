-- The parts that a document owes are those of the document that is laid.
use Rattle.std.proofs.Common.{ap, sym, subst, ◌∙◌, option_copied}
use Rattle.vault_model.specs.Tree.{IsDoc, LEVELS}
use Rattle.merge_nodes.specs.Shapes.{shape}
use Rattle.merge_building.proofs.LaidParts.{assembled}
use Rattle.merge_building.proofs.laid.with_root.Goals as goal

pub invariant_of-result : goal.invariant_of-result
invariant_of-result c =
    let s = shape c.args.from.now in
    let there = sym c.get.ensures ∙ ap option_copied c.unwrap-row.ensures in
    let same = assembled LEVELS s c.args.meta c.in-Ok.root c.args.tombs c.unwrap-row.result.now there c.in-Ok.ensures c.requires.tombs c.requires.meta in
    let is = subst IsDoc (sym same) c.requires.doc in
    record {
      distinct = is.distinct;
      no_nil = is.no_nil;
      levels = is.levels;
      rising_tombs = is.tombs_rise;
      tombs_apart = is.tombs_apart;
      entries_proper = is.entries_proper;
      groups_proper = is.groups_proper;
      rising_icons = is.icons_rise;
      rising_items = is.items_rise;
      meta_texts = is.meta_texts;
    }

pub returns-in-Ok : goal.returns-in-Ok
returns-in-Ok c =
    let s = shape c.args.from.now in
    let there = sym c.get.ensures ∙ ap option_copied c.unwrap-row.ensures in
    assembled LEVELS s c.args.meta c.in-Ok.root c.args.tombs c.unwrap-row.result.now there c.in-Ok.ensures c.requires.tombs c.requires.meta
