use Rattle.std.proofs.Common.{◌≡◌, Some, ap, subst, sym}
use Rattle.std.proofs.lemmas.Str.{is_utf8-from_IsUtf8}
use Rattle.vault_model.specs.SeenNodes.{document_of}
use Rattle.vault_model.specs.Tree.{BareDoc, IsDoc}
use Rattle.cli_resealing.specs.Created.{empty_document, undrawn_id}
use Rattle.cli_resealing.proofs.Named.{named_is_doc, named_seen}
use Rattle.cli_resealing.proofs.creating.doc_named.Goals as goal

pub invariant_of-result : goal.invariant_of-result
invariant_of-result c =
    let seen : document_of c.meta_named.result c.root_named.result c.in-Ok.doc.tombs ≡ empty_document (Some c.args.name.now) undrawn_id c.args.now =
    named_seen c.args.name.now c.args.now c.in_ok-group_name.group_name c.in_ok-group_name.database_name c.meta_named.result c.root_named.result c.in-Ok.doc.tombs
    c.in_ok-group_name.ensures.0 c.in_ok-group_name.ensures.1 c.meta_named.ensures c.root_named.ensures (ap (λ (d : BareDoc). d.tombs) c.in-Ok.ensures) in
    let h = subst IsDoc (sym seen) (named_is_doc c.args.name.now c.args.now (is_utf8-from_IsUtf8 c.args.name.now c.utf8.name)) in
    record {
      distinct = h.distinct;
      no_nil = h.no_nil;
      levels = h.levels;
      rising_tombs = h.tombs_rise;
      tombs_apart = h.tombs_apart;
      entries_proper = h.entries_proper;
      groups_proper = h.groups_proper;
      rising_icons = h.icons_rise;
      rising_items = h.items_rise;
      meta_texts = h.meta_texts;
    }
