-- What is seen of the new document is the document of a new database, whose parts are in order.
use Rattle.std.proofs.Common.{◌≡◌, sym, subst}
use Rattle.vault_model.specs.Empty.{empty_bare}
use Rattle.vault_model.specs.SeenNodes.{document_of}
use Rattle.vault_model.specs.Tree.{IsDoc}
use Rattle.vault_making.proofs.EmptyLaws.{empty_is_doc}
use Rattle.vault_making.proofs.empty.empty_doc.Goals as goal

pub invariant_of-result : goal.invariant_of-result
invariant_of-result c =
    let seen : document_of c.first_meta.result c.in-Ok.root c.new.result ≡ empty_bare c.args.root c.args.now =
    λ i. record { tree = c.in-Ok.ensures i; tombs = c.new.ensures i; meta = c.first_meta.ensures i } in
    let h = subst IsDoc (sym seen) (empty_is_doc c.args.root c.args.now c.requires) in
    record {
      distinct = h.distinct;
      no_nil = h.no_nil;
      levels = h.levels;
      rising_tombs = h.tombs_rise;
      tombs_apart = h.tombs_apart;
      entries_proper = h.entries_proper;
      groups_proper = h.groups_proper;
      rising_icons = h.icons_rise;
      rising_items = h.items_rise;
      meta_texts = h.meta_texts;
    }
