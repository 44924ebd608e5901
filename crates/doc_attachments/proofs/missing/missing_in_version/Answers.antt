use Rattle.std.proofs.Common.{◌≡◌, [], ◌∙◌, ap, drop, map, sym}
use Rattle.std.proofs.lemmas.List.{drop_all}
use Rattle.std.specs.List.{flat_map}
use Rattle.doc_forms.specs.Attachments.{first_missing, first_missing_of, missing_attachment}
use Rattle.doc_forms.specs.SeenDrafts.{attachment_seen}
use Rattle.doc_attachments.proofs.FirstMissing.{first_alone, one_passed}
use Rattle.doc_attachments.proofs.missing.missing_in_version.Goals as goal

pub loop-attachment-preserved : goal.loop-attachment-preserved
loop-attachment-preserved c =
    one_passed attachment_seen (missing_attachment c.args.pool.now) c.as_slice-attachment-items.result.now c.loop-attachment.attachment-index c.attachment-item.result
    c.loop-attachment.missing _ _ _ c.loop-attachment-test.true c.attachment-item.is c.loop-attachment.invariant c.missing_of.ensures c.first_of-missing.ensures

pub returns : goal.returns
returns c =
    let none : drop c.loop-attachment.attachment-index c.as_slice-attachment-items.result.now ≡ [] = drop_all _ _ c.loop-attachment-test.false in
    sym (first_alone c.loop-attachment.missing)
    ∙ (ap (λ l. first_missing_of c.loop-attachment.missing (first_missing (flat_map (missing_attachment c.args.pool.now) (map attachment_seen l)))) (sym none)
    ∙ (c.loop-attachment.invariant
    ∙ ap (λ l. first_missing (flat_map (missing_attachment c.args.pool.now) (map attachment_seen l))) c.as_slice-attachment-items.ensures))
