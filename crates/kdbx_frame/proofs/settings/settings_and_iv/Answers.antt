-- A refusal of a part is that of the whole.
use Rattle.std.proofs.lemmas.Result.{err_from_is_err_and}
use Rattle.outside_core.proofs.Results.{fails_after, fails_at_first}
use Rattle.kdbx_frame.specs.Settings.{settings_and_iv}
use Rattle.kdbx_frame.proofs.settings.settings_and_iv.Goals as goal

pub returns-in_err-cipher-clause-gives : goal.returns-in_err-cipher-clause-gives
unfolding settings_and_iv
returns-in_err-cipher-clause-gives c =
    let p = err_from_is_err_and c.from_residual.result c.from_residual.ensures.1 in
    rw (p.1, p.2) (fails_at_first _ _ _ c.in_err-cipher.ensures)

pub returns-in_err-iv-clause-gives : goal.returns-in_err-iv-clause-gives
unfolding settings_and_iv
returns-in_err-iv-clause-gives c =
    let p = err_from_is_err_and c.from_residual-in_err-iv.result c.from_residual-in_err-iv.ensures.1 in
    rw (p.1, p.2) (fails_after _ _ _ _ c.in_ok-cipher.ensures (fails_at_first _ _ _ c.in_err-iv.ensures))

pub returns-in_err-refuse_compression-clause-gives : goal.returns-in_err-refuse_compression-clause-gives
unfolding settings_and_iv
returns-in_err-refuse_compression-clause-gives c =
    let p = err_from_is_err_and c.from_residual-in_err-refuse_compression.result c.from_residual-in_err-refuse_compression.ensures.1 in
    rw (p.1, p.2) (fails_after _ _ _ _ c.in_ok-cipher.ensures (fails_after _ _ _ _ c.in_ok-iv.ensures (fails_at_first _ _ _ c.in_err-refuse_compression.ensures)))

pub returns-in_err-kdf-clause-gives : goal.returns-in_err-kdf-clause-gives
unfolding settings_and_iv
returns-in_err-kdf-clause-gives c =
    let p = err_from_is_err_and c.from_residual-in_err-kdf.result c.from_residual-in_err-kdf.ensures.1 in
    rw (p.1, p.2) (fails_after _ _ _ _ c.in_ok-cipher.ensures (fails_after _ _ _ _ c.in_ok-iv.ensures (fails_after _ _ _ _ c.in_ok-refuse_compression.ensures (fails_at_first _ _ _ c.in_err-kdf.ensures.gives))))
