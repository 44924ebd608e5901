use Rattle.vault_model.proofs.DocumentLaws.{is_doc}
use Rattle.vault_model.specs.SeenDoc.{doc_seen}
use Rattle.vault_model.specs.SeenNodes.{tree_seen}
use Rattle.cli_commands.proofs.RootIds.{root_seen}
use Rattle.cli_commands.proofs.performing.set_root_id.Goals as goal

pub invariant_of-doc : goal.invariant_of-doc
invariant_of-doc c =
    let h = root_seen c.args.id (doc_seen c.args.doc.now) (tree_seen c.put_root_id.new.root) (is_doc c.args.doc.now) c.requires c.put_root_id.ensures in
    record {
      distinct = h.distinct;
      no_nil = h.no_nil;
      levels = h.levels;
      rising_tombs = h.tombs_rise;
      tombs_apart = h.tombs_apart;
      entries_proper = h.entries_proper;
      groups_proper = h.groups_proper;
      rising_icons = h.icons_rise;
      rising_items = h.items_rise;
      meta_texts = h.meta_texts;
    }
