use Rattle.std.proofs.Common.{Ok, ap, inl, refl, ◌∙◌}
use Rattle.session_run.proofs.DoneLines.{at_end, limit_failed, limit_passed}
use Rattle.session_run.proofs.lines.end_at_limit.Goals as goal

pub returns-in-Ok-true-clause-told : goal.returns-in-Ok-true-clause-told
returns-in-Ok-true-clause-told g c = λ truthful i isI.
    let t = c.in-Ok-true.ensures.told truthful i isI in
    inl (at_end i _ (t.0 ∙ ap Ok c.in-Ok-true.field-0-test) t.1 _ _ refl)

pub returns-in-Ok-false-clause-told : goal.returns-in-Ok-false-clause-told
returns-in-Ok-false-clause-told g c = λ truthful i isI.
    let t = c.in-Ok-false.ensures.told truthful i isI in
    limit_passed i c.report.result _ _ _ _ _ _ _ c.refused.result (t.0 ∙ ap Ok c.in-Ok-false.field-0-test) t.1 c.refused.ensures c.report.ensures.reported

pub returns-in-Err-clause-told : goal.returns-in-Err-clause-told
returns-in-Err-clause-told g c = λ truthful i isI.
    limit_failed i c.report-in-Err.result _ _ _ _ _ _ _ c.in-Err.stop (c.in-Err.ensures.told truthful i isI) c.in-Err.ensures.cause c.report-in-Err.ensures.reported
