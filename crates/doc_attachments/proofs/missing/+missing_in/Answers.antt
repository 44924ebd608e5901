use Rattle.std.proofs.Common.{◌≡◌, [], ◌∙◌, ap, drop, map, sym}
use Rattle.std.proofs.lemmas.List.{drop_all}
use Rattle.std.specs.List.{flat_map}
use Rattle.doc_forms.specs.Attachments.{first_missing, first_missing_of, missing_entry, missing_in}
use Rattle.doc_forms.specs.SeenDrafts.{draft_seen, entry_seen}
use Rattle.doc_attachments.proofs.FirstMissing.{first_alone, one_passed}
use Rattle.doc_attachments.proofs.GroupTrees.{tree_missing}
use Rattle.doc_attachments.proofs.missing.+missing_in.Goals as goal

pub loop-group-preserved : goal.loop-group-preserved
loop-group-preserved t c =
    one_passed draft_seen (missing_in c.args.pool.now) c.as_slice-group-items.result.now c.loop-group.group-index c.group-item.result
    c.loop-group.missing _ _ _ c.loop-group-test.true c.group-item.is c.loop-group.invariant c.missing_in.ensures c.first_of-missing.ensures

pub returns : goal.returns
returns t c =
    let pool = c.args.pool.now in
    let none : drop c.loop-group.group-index c.as_slice-group-items.result.now ≡ [] = drop_all _ _ c.loop-group-test.false in
    tree_missing pool c.args.draft.now c.missing_in_entries-missing.result c.loop-group.missing
    (c.missing_in_entries-missing.ensures ∙ ap (λ es. first_missing (flat_map (missing_entry pool) (map entry_seen es))) c.as_slice.ensures.value)
    (sym (first_alone c.loop-group.missing)
    ∙ (ap (λ gs. first_missing_of c.loop-group.missing (first_missing (flat_map (missing_in pool) (map draft_seen gs)))) (sym none)
    ∙ (c.loop-group.invariant
    ∙ ap (λ gs. first_missing_of c.missing_in_entries-missing.result (first_missing (flat_map (missing_in pool) (map draft_seen gs)))) c.as_slice-group-items.ensures.value)))
