use Rattle.vault_model.proofs.DocumentLaws.{is_doc}
use Rattle.vault_model.specs.SeenDoc.{doc_seen}
use Rattle.vault_model.specs.SeenNodes.{tree_seen}
use Rattle.tree_core.proofs.EntriesMoved.{move_is_doc}
use Rattle.tree_removals.proofs.recycling.recycle_entry.Goals as goal

pub invariant_of-doc : goal.invariant_of-doc
invariant_of-doc c =
    let d = doc_seen c.args.doc.now in
    let h = move_is_doc d (is_doc c.args.doc.now) c.args.from d.meta.bin.value.id c.args.id c.in_ok-time.time (tree_seen c.move_in.new.root) c.move_in.result c.requires.goal c.requires.there c.move_in.ensures in
    record {
      distinct = h.distinct;
      no_nil = h.no_nil;
      levels = h.levels;
      rising_tombs = h.tombs_rise;
      tombs_apart = h.tombs_apart;
      entries_proper = h.entries_proper;
      groups_proper = h.groups_proper;
      rising_icons = h.icons_rise;
      rising_items = h.items_rise;
      meta_texts = h.meta_texts;
    }
