use Rattle.cli_lines.proofs.Inputs.{line_stops, told_by}
use Rattle.cli_lines.proofs.lines.read_if.Goals as goal

pub returns-in-Err-clause-told : goal.returns-in-Err-clause-told
returns-in-Err-clause-told g c = λ truthful i t.
    let due = c.if-not-due.false in
    let tells = told_by _ _ i due t in
    line_stops c.in-Err.stop _ _ i c.args.due c.args.number due tells (c.in-Err.ensures.told truthful i tells)
