use Rattle.std.proofs.Common.{◌∙◌, sym}
use Rattle.vault_model.proofs.DocumentLaws.{is_doc}
use Rattle.vault_model.specs.SeenDoc.{doc_seen}
use Rattle.vault_model.specs.SeenNodes.{tree_seen}
use Rattle.tree_removals.proofs.NewBins.{bin_is_doc, free_absent, into_bin_is_doc}
use Rattle.tree_removals.proofs.recycling.recycle_with_new_bin.Goals as goal

pub move_to_new_bin-requires-clause-absent : goal.move_to_new_bin-requires-clause-absent
move_to_new_bin-requires-clause-absent c = free_absent c.args.bin (doc_seen c.args.doc.now) (sym c.is_free.ensures ∙ c.if-not-is_free.false)

pub move_to_new_bin-requires-clause-no_nil : goal.move_to_new_bin-requires-clause-no_nil
move_to_new_bin-requires-clause-no_nil c =
    (bin_is_doc (doc_seen c.args.doc.now) (is_doc c.args.doc.now) c.args.bin c.args.now (sym c.is_free.ensures ∙ c.if-not-is_free.false)).no_nil

pub invariant_of-doc-2 : goal.invariant_of-doc-2
invariant_of-doc-2 c =
    let h = into_bin_is_doc (doc_seen c.args.doc.now) (is_doc c.args.doc.now) c.args.from c.args.id c.args.bin c.args.now c.in_ok-time.time (tree_seen c.move_to_new_bin.new.root)
    (sym c.is_free.ensures ∙ c.if-not-is_free.false) c.requires.there c.in_ok-move_to_new_bin.ensures in
    record {
      distinct = h.distinct;
      no_nil = h.no_nil;
      levels = h.levels;
      rising_tombs = h.tombs_rise;
      tombs_apart = h.tombs_apart;
      entries_proper = h.entries_proper;
      groups_proper = h.groups_proper;
      rising_icons = h.icons_rise;
      rising_items = h.items_rise;
      meta_texts = h.meta_texts;
    }
