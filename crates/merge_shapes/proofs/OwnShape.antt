-- A document in memory is one, and its parts are its shape.
use Rattle.std.proofs.Common.{◌≡◌, map, sym, ◌∙◌}
use Rattle.std.specs.FinMap.{from_entries}
use Rattle.vault_model.specs.declared.documents.Doc.{Doc}
use Rattle.vault_model.specs.declared.nodes.Group.{out-Group}
use Rattle.vault_model.specs.SeenDoc.{doc_seen}
use Rattle.vault_model.specs.Shape.{Shape}
use Rattle.vault_model.specs.Tree.{IsDoc, shape_of}
use Rattle.merge_reading.specs.Rows.{tomb_row}
use Rattle.merge_shapes.proofs.SeenNodes.{seen_id}

pub is_doc : (d : Doc) → IsDoc (doc_seen d)
is_doc d = record {
  distinct = d.distinct;
  no_nil = d.no_nil;
  levels = d.levels;
  tombs_rise = d.rising_tombs;
  tombs_apart = d.tombs_apart;
  entries_proper = d.entries_proper;
  groups_proper = d.groups_proper;
  icons_rise = d.rising_icons;
  items_rise = d.rising_items;
  meta_texts = d.meta_texts;
}

pub of_parts : (d : Doc) (s : Shape) → s.root ≡ (out-Group d.root).id → s.entries ≡ (shape_of (doc_seen d)).entries → s.groups ≡ (shape_of (doc_seen d)).groups
    → s.children ≡ (shape_of (doc_seen d)).children → s.tombs ≡ from_entries (map tomb_row d.tombs) → s.meta ≡ d.meta → s ≡ shape_of (doc_seen d)
unfolding shape_of
of_parts d s root entries groups children tombs meta =
    λ i. record {
      root = (root ∙ sym (seen_id d.root)) i;
      entries = entries i;
      groups = groups i;
      children = children i;
      tombs = tombs i;
      meta = meta i;
    }
