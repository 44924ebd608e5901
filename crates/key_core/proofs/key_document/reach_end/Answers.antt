use Rattle.std.proofs.Common.{◌∙◌, sym}
use Rattle.std.proofs.lemmas.Result.{err_from_is_err_and}
use Rattle.key_core.proofs.Roots.{start_behind, ends_stopped, words_behind, stop_behind, finish_behind, refusal_behind}
use Rattle.key_core.proofs.key_document.reach_end.Goals as goal

pub pieces-preserved-in-Continue-1 : goal.pieces-preserved-in-Continue-1
pieces-preserved-in-Continue-1 c =
    start_behind _ _ _ _ _ _ _ _ (rw c.in-Ok-Start.field-0-is at c.in-Ok-Start.ensures) c.in_ok-skip-in-Ok-Start.ensures ∙ c.pieces.invariant

pub returns-in_err-skip-in-Ok-Start : goal.returns-in_err-skip-in-Ok-Start
returns-in_err-skip-in-Ok-Start c =
    let failed = err_from_is_err_and c.from_residual.result c.from_residual.ensures.1 in
    rw (failed.1, failed.2) (ends_stopped c.in_err-skip-in-Ok-Start.field-0.0 _ _ _ _ _ _ _ c.pieces.invariant
    (rw c.in-Ok-Start.field-0-is at c.in-Ok-Start.ensures) c.in_err-skip-in-Ok-Start.ensures)

pub pieces-preserved : goal.pieces-preserved
pieces-preserved c = words_behind _ _ _ _ (rw c.in-Ok-Words.field-0-is at c.in-Ok-Words.ensures) ∙ c.pieces.invariant

pub returns-in-Ok-Stop : goal.returns-in-Ok-Stop
returns-in-Ok-Stop c = sym c.pieces.invariant ∙ stop_behind _ _ _ (rw c.in-Ok-Stop.field-0-is at c.in-Ok-Stop.ensures)

pub returns-in-Ok-Finish : goal.returns-in-Ok-Finish
returns-in-Ok-Finish c =
    let came = rw c.in-Ok-Finish.field-0-is at c.in-Ok-Finish.ensures in sym c.pieces.invariant ∙ finish_behind _ came.0

pub returns-in-Err : goal.returns-in-Err
returns-in-Err c = sym c.pieces.invariant ∙ refusal_behind c.in-Err.field-0 _ _ c.in-Err.ensures
