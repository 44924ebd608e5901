-- The first field that is missing is the refusal of the whole.
use Rattle.std.proofs.lemmas.Result.{err_from_is_err_and}
use Rattle.outside_core.proofs.Results.{fails_after, fails_at_first}
use Rattle.kdbx_parts.specs.SeenDictionary.{description_seen}
use Rattle.kdbx_frame.specs.Settings.{checked_header_4}
use Rattle.kdbx_frame.proofs.Required.{required_seen, required_unseen}
use Rattle.kdbx_frame.proofs.settings.checked_header_4.Goals as goal

pub returns-in_err-id-clause-gives : goal.returns-in_err-id-clause-gives
unfolding checked_header_4
returns-in_err-id-clause-gives c =
    let p = err_from_is_err_and c.from_residual.result c.from_residual.ensures.1 in
    rw (p.1, p.2) (fails_at_first _ _ _ c.in_err-id.ensures)

pub returns-in_err-flag-clause-gives : goal.returns-in_err-flag-clause-gives
unfolding checked_header_4
returns-in_err-flag-clause-gives c =
    let p = err_from_is_err_and c.from_residual-in_err-flag.result c.from_residual-in_err-flag.ensures.1 in
    rw (p.1, p.2) (fails_after _ _ _ _ c.in_ok-id.ensures (fails_at_first _ _ _ c.in_err-flag.ensures))

pub returns-in_err-seed-clause-gives : goal.returns-in_err-seed-clause-gives
unfolding checked_header_4
returns-in_err-seed-clause-gives c =
    let p = err_from_is_err_and c.from_residual-in_err-seed.result c.from_residual-in_err-seed.ensures.1 in
    rw (p.1, p.2) (fails_after _ _ _ _ c.in_ok-id.ensures (fails_after _ _ _ _ c.in_ok-flag.ensures (fails_at_first _ _ _ c.in_err-seed.ensures)))

pub returns-in_err-iv-clause-gives : goal.returns-in_err-iv-clause-gives
unfolding checked_header_4
returns-in_err-iv-clause-gives c =
    let p = err_from_is_err_and c.from_residual-in_err-iv.result c.from_residual-in_err-iv.ensures.1 in
    rw (p.1, p.2) (fails_after _ _ _ _ c.in_ok-id.ensures (fails_after _ _ _ _ c.in_ok-flag.ensures (fails_after _ _ _ _ c.in_ok-seed.ensures (fails_at_first _ _ _ (required_unseen _ _ (λ x. x.now) _ c.in_err-iv.ensures)))))

pub returns-in_err-described-clause-gives : goal.returns-in_err-described-clause-gives
unfolding checked_header_4
returns-in_err-described-clause-gives c =
    let p = err_from_is_err_and c.from_residual-in_err-described.result c.from_residual-in_err-described.ensures.1 in
    rw (p.1, p.2) (fails_after _ _ _ _ c.in_ok-id.ensures (fails_after _ _ _ _ c.in_ok-flag.ensures (fails_after _ _ _ _ c.in_ok-seed.ensures (fails_after _ _ _ _ (required_seen _ (λ x. x.now) _ _ c.in_ok-iv.ensures) (fails_at_first _ _ _ (required_unseen _ _ description_seen _ c.in_err-described.ensures))))))
