use Rattle.vault_model.proofs.DocumentLaws.{is_doc}
use Rattle.vault_model.specs.SeenDoc.{doc_seen}
use Rattle.vault_model.specs.SeenNodes.{tree_seen}
use Rattle.tree_removals.proofs.Deleted.{bury_is_doc}
use Rattle.tree_removals.proofs.deleting.delete_entry.Goals as goal

pub invariant_of-doc : goal.invariant_of-doc
invariant_of-doc c =
    let d = doc_seen c.args.doc.now in
    let h = bury_is_doc d (is_doc c.args.doc.now) c.args.group c.args.id c.args.now (tree_seen c.bury_entry.new.root) c.bury_entry.new.tombs c.bury_entry.result c.requires c.bury_entry.ensures in
    record {
      distinct = h.distinct;
      no_nil = h.no_nil;
      levels = h.levels;
      rising_tombs = h.tombs_rise;
      tombs_apart = h.tombs_apart;
      entries_proper = h.entries_proper;
      groups_proper = h.groups_proper;
      rising_icons = h.icons_rise;
      rising_items = h.items_rise;
      meta_texts = h.meta_texts;
    }
