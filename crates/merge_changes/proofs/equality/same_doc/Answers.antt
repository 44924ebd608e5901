-- The test holds of equal documents alone.
use Rattle.std.proofs.Common.{ap, sym, ◌∙◌}
use Rattle.vault_model.specs.SeenDoc.{doc_seen}
use Rattle.merge_changes.specs.Equality.{same_doc}
use Rattle.merge_changes.proofs.SameValues.{doc_decides}
use Rattle.merge_changes.proofs.equality.same_doc.Goals as goal

pub returns-clause-same : goal.returns-clause-same
returns-clause-same c e = doc_decides.says (doc_seen c.args.first.now) (doc_seen c.args.second.now) (sym c.same_doc_parts.ensures ∙ e)

pub returns-clause-equal : goal.returns-clause-equal
returns-clause-equal c e =
    let d = doc_seen c.args.first.now in c.same_doc_parts.ensures ∙ ap (same_doc d) (sym e) ∙ doc_decides.holds d
