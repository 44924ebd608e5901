-- What every document in memory keeps.
use Rattle.vault_model.specs.declared.documents.Doc.{Doc}
use Rattle.vault_model.specs.SeenDoc.{doc_seen}
use Rattle.vault_model.specs.Tree.{IsDoc}

-- what is seen of a document has its parts in order
pub is_doc : (d : Doc) → IsDoc (doc_seen d)
is_doc d = record {
  distinct = d.distinct;
  no_nil = d.no_nil;
  levels = d.levels;
  tombs_rise = d.rising_tombs;
  tombs_apart = d.tombs_apart;
  entries_proper = d.entries_proper;
  groups_proper = d.groups_proper;
  icons_rise = d.rising_icons;
  items_rise = d.rising_items;
  meta_texts = d.meta_texts;
}
