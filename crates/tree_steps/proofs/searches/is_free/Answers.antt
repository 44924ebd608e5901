use Rattle.std.proofs.Common.{◌∙◌, ◌&&◌, ◌+◌, drop, sym, ap, not, true}
use Rattle.std.proofs.lemmas.List.{drop_all}
use Rattle.std.specs.List.{list_all}
use Rattle.vault_model.specs.Join.{is_id}
use Rattle.vault_model.specs.SeenDoc.{doc_seen}
use Rattle.vault_model.specs.declared.nodes.Tombstone.{Tombstone}
use Rattle.tree_core.proofs.Added.{free_is}
use Rattle.tree_steps.proofs.Steps.{drop_next}
use Rattle.tree_steps.proofs.searches.is_free.Goals as goal

pub returns : goal.returns
returns c =
    let test = λ (t : Tombstone). not (is_id t.id c.args.id) in
    let items = c.as_slice-tomb-items.result.now in
    free_is c.args.id (doc_seen c.args.doc.now) true
    (ap (λ u. is_id u c.args.id) (sym c.nil.ensures) ∙ sym c.is_same.ensures ∙ c.if-is_same.false)
    (sym c.has_node.ensures ∙ c.if-has_node.false)
    (sym (ap (list_all test) (drop_all c.loop-tomb.tomb-index items c.loop-tomb-test.false)) ∙ c.loop-tomb.invariant ∙ ap (list_all test) c.as_slice-tomb-items.ensures)

pub loop-tomb-preserved : goal.loop-tomb-preserved
loop-tomb-preserved c =
    let test = λ (t : Tombstone). not (is_id t.id c.args.id) in
    let items = c.as_slice-tomb-items.result.now in
    let i = c.loop-tomb.tomb-index in
    sym (ap (list_all test) (drop_next items i c.tomb-item.result c.loop-tomb-test.true c.tomb-item.is)
    ∙ ap (λ b. not b && list_all test (drop (i + 1) items)) (sym c.is_same-in-loop-tomb.ensures ∙ c.if-is_same-2.false))
    ∙ c.loop-tomb.invariant
