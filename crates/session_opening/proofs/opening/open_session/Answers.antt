use Rattle.std.proofs.lemmas.Result.{err_from_is_err_and}
use Rattle.cli_lines.specs.SeenLines.{lines_seen}
use Rattle.cli_needs.specs.SeenNeeds.{needs_seen}
use Rattle.session_opening.proofs.Opened.{lines_told, opened_told, tells_some}
use Rattle.session_opening.proofs.opening.open_session.Goals as goal

pub returns-clause-told : goal.returns-clause-told
returns-clause-told g c = λ truthful m i isF isS.
    opened_told c.args.database.now i m (needs_seen c.opening_needs.result) (lines_seen c.in_ok-lines.lines) c.open_by-opened.result _ _ c.opening_needs.ensures isS
    (c.in_ok-lines.ensures.told truthful i (tells_some _ _ i isS)) (c.open_by-opened.ensures.told m isF)

pub returns-in_err-lines-clause-told : goal.returns-in_err-lines-clause-told
returns-in_err-lines-clause-told g c = λ truthful m i isF isS.
    let p = err_from_is_err_and c.from_residual.result c.from_residual.ensures.1 in
    rw (p.1, p.2) (lines_told c.args.database.now i m c.in_err-lines.field-0.0 (needs_seen c.opening_needs.result) _ _ c.opening_needs.ensures isS
    (c.in_err-lines.ensures.told truthful i (tells_some _ _ i isS)))
