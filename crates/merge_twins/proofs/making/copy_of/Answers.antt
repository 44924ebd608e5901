-- What is seen of a copy is the defined one, whose parts are in order.
use Rattle.std.proofs.Common.{◌≡◌, ◌≤◌, ◌++◌, ◌∙◌, ℕ, ap, sym, subst}
use Rattle.vault_model.specs.SeenNodes.{document_of}
use Rattle.vault_model.specs.Tree.{IsDoc}
use Rattle.merge_twins.specs.Rules.{rules_of}
use Rattle.merge_twins.specs.Twins.{twin, twin_tombs}
use Rattle.merge_twins.specs.declared.rules.Which.{Which}
use Rattle.merge_twins.specs.declared.rules.Which.TheVariants.{First, Second}
use Rattle.merge_twins.proofs.Documents.{first_document, second_document}
use Rattle.merge_twins.proofs.making.copy_of.Goals as goal

either_document : (which : Which) (count : ℕ) → count ≤ 50000 → IsDoc (twin (rules_of which) count)
either_document First count few = first_document count few
either_document Second count few = second_document count few

pub invariant_of-result : goal.invariant_of-result
invariant_of-result c =
    let rules = rules_of c.args.which in
    let tombs : c.put_tombs.new.tombs ≡ twin_tombs rules c.args.count = c.in-Ok.ensures ∙ ap (λ xs. xs ++ twin_tombs rules c.args.count) c.new-tombs.ensures in
    let seen : document_of c.meta.result c.in_ok-root.root c.put_tombs.new.tombs ≡ twin rules c.args.count =
    λ i. record { tree = c.in_ok-root.ensures i; tombs = tombs i; meta = c.meta.ensures i } in
    let h = subst IsDoc (sym seen) (either_document c.args.which c.args.count c.requires) in
    record {
      distinct = h.distinct;
      no_nil = h.no_nil;
      levels = h.levels;
      rising_tombs = h.tombs_rise;
      tombs_apart = h.tombs_apart;
      entries_proper = h.entries_proper;
      groups_proper = h.groups_proper;
      rising_icons = h.icons_rise;
      rising_items = h.items_rise;
      meta_texts = h.meta_texts;
    }
