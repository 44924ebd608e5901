-- The first field that is missing is the refusal of the whole.
use Rattle.std.proofs.lemmas.Result.{err_from_is_err_and}
use Rattle.outside_core.proofs.Results.{fails_after, fails_at_first}
use Rattle.kdbx_frame.specs.Settings.{checked_header_31}
use Rattle.kdbx_frame.proofs.Required.{required_seen, required_unseen}
use Rattle.kdbx_frame.proofs.settings.checked_header_31.Goals as goal

pub returns-in_err-id-clause-gives : goal.returns-in_err-id-clause-gives
unfolding checked_header_31
returns-in_err-id-clause-gives c =
    let p = err_from_is_err_and c.from_residual.result c.from_residual.ensures.1 in
    rw (p.1, p.2) (fails_at_first _ _ _ c.in_err-id.ensures)

pub returns-in_err-flag-clause-gives : goal.returns-in_err-flag-clause-gives
unfolding checked_header_31
returns-in_err-flag-clause-gives c =
    let p = err_from_is_err_and c.from_residual-in_err-flag.result c.from_residual-in_err-flag.ensures.1 in
    rw (p.1, p.2) (fails_after _ _ _ _ c.in_ok-id.ensures (fails_at_first _ _ _ c.in_err-flag.ensures))

pub returns-in_err-seed-clause-gives : goal.returns-in_err-seed-clause-gives
unfolding checked_header_31
returns-in_err-seed-clause-gives c =
    let p = err_from_is_err_and c.from_residual-in_err-seed.result c.from_residual-in_err-seed.ensures.1 in
    rw (p.1, p.2) (fails_after _ _ _ _ c.in_ok-id.ensures (fails_after _ _ _ _ c.in_ok-flag.ensures (fails_at_first _ _ _ c.in_err-seed.ensures)))

pub returns-in_err-kdf_seed-clause-gives : goal.returns-in_err-kdf_seed-clause-gives
unfolding checked_header_31
returns-in_err-kdf_seed-clause-gives c =
    let p = err_from_is_err_and c.from_residual-in_err-kdf_seed.result c.from_residual-in_err-kdf_seed.ensures.1 in
    rw (p.1, p.2) (fails_after _ _ _ _ c.in_ok-id.ensures (fails_after _ _ _ _ c.in_ok-flag.ensures (fails_after _ _ _ _ c.in_ok-seed.ensures (fails_at_first _ _ _ c.in_err-kdf_seed.ensures))))

pub returns-in_err-rounds-clause-gives : goal.returns-in_err-rounds-clause-gives
unfolding checked_header_31
returns-in_err-rounds-clause-gives c =
    let p = err_from_is_err_and c.from_residual-in_err-rounds.result c.from_residual-in_err-rounds.ensures.1 in
    rw (p.1, p.2) (fails_after _ _ _ _ c.in_ok-id.ensures (fails_after _ _ _ _ c.in_ok-flag.ensures (fails_after _ _ _ _ c.in_ok-seed.ensures (fails_after _ _ _ _ c.in_ok-kdf_seed.ensures (fails_at_first _ _ _ c.in_err-rounds.ensures)))))

pub returns-in_err-iv-clause-gives : goal.returns-in_err-iv-clause-gives
unfolding checked_header_31
returns-in_err-iv-clause-gives c =
    let p = err_from_is_err_and c.from_residual-in_err-iv.result c.from_residual-in_err-iv.ensures.1 in
    rw (p.1, p.2) (fails_after _ _ _ _ c.in_ok-id.ensures (fails_after _ _ _ _ c.in_ok-flag.ensures (fails_after _ _ _ _ c.in_ok-seed.ensures (fails_after _ _ _ _ c.in_ok-kdf_seed.ensures (fails_after _ _ _ _ c.in_ok-rounds.ensures (fails_at_first _ _ _ (required_unseen _ _ (λ x. x.now) _ c.in_err-iv.ensures)))))))

pub returns-in_err-stream_key-clause-gives : goal.returns-in_err-stream_key-clause-gives
unfolding checked_header_31
returns-in_err-stream_key-clause-gives c =
    let p = err_from_is_err_and c.from_residual-in_err-stream_key.result c.from_residual-in_err-stream_key.ensures.1 in
    rw (p.1, p.2) (fails_after _ _ _ _ c.in_ok-id.ensures (fails_after _ _ _ _ c.in_ok-flag.ensures (fails_after _ _ _ _ c.in_ok-seed.ensures (fails_after _ _ _ _ c.in_ok-kdf_seed.ensures (fails_after _ _ _ _ c.in_ok-rounds.ensures (fails_after _ _ _ _ (required_seen _ (λ x. x.now) _ _ c.in_ok-iv.ensures) (fails_at_first _ _ _ (required_unseen _ _ (λ x. x.now) _ c.in_err-stream_key.ensures))))))))

pub returns-in_err-start-clause-gives : goal.returns-in_err-start-clause-gives
unfolding checked_header_31
returns-in_err-start-clause-gives c =
    let p = err_from_is_err_and c.from_residual-in_err-start.result c.from_residual-in_err-start.ensures.1 in
    rw (p.1, p.2) (fails_after _ _ _ _ c.in_ok-id.ensures (fails_after _ _ _ _ c.in_ok-flag.ensures (fails_after _ _ _ _ c.in_ok-seed.ensures (fails_after _ _ _ _ c.in_ok-kdf_seed.ensures (fails_after _ _ _ _ c.in_ok-rounds.ensures (fails_after _ _ _ _ (required_seen _ (λ x. x.now) _ _ c.in_ok-iv.ensures) (fails_after _ _ _ _ (required_seen _ (λ x. x.now) _ _ c.in_ok-stream_key.ensures) (fails_at_first _ _ _ c.in_err-start.ensures))))))))

pub returns-in_err-stream_id-clause-gives : goal.returns-in_err-stream_id-clause-gives
unfolding checked_header_31
returns-in_err-stream_id-clause-gives c =
    let p = err_from_is_err_and c.from_residual-in_err-stream_id.result c.from_residual-in_err-stream_id.ensures.1 in
    rw (p.1, p.2) (fails_after _ _ _ _ c.in_ok-id.ensures (fails_after _ _ _ _ c.in_ok-flag.ensures (fails_after _ _ _ _ c.in_ok-seed.ensures (fails_after _ _ _ _ c.in_ok-kdf_seed.ensures (fails_after _ _ _ _ c.in_ok-rounds.ensures (fails_after _ _ _ _ (required_seen _ (λ x. x.now) _ _ c.in_ok-iv.ensures) (fails_after _ _ _ _ (required_seen _ (λ x. x.now) _ _ c.in_ok-stream_key.ensures) (fails_after _ _ _ _ c.in_ok-start.ensures (fails_at_first _ _ _ c.in_err-stream_id.ensures)))))))))
