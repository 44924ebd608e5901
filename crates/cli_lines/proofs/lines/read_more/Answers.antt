use Rattle.std.proofs.Common.{map}
use Rattle.cli_needs.specs.SeenNeeds.{needs_seen}
use Rattle.cli_lines.specs.Lines.{last_lines, number_of_more}
use Rattle.cli_lines.specs.SeenLines.{last_seen, line_seen}
use Rattle.cli_lines.proofs.Inputs.{first_stops, lines_given}
use Rattle.cli_lines.proofs.lines.read_more.Goals as goal

pub returns-in-Ok-clause-told : goal.returns-in-Ok-clause-told
returns-in-Ok-clause-told g c = λ truthful i t.
    let last = (rw c.requires.number at c.in-Ok.ensures.told) truthful i t in
    lines_given (needs_seen c.args.needs) (line_seen c.args.password) (map line_seen c.args.sources) _ _ i (last_seen c.in-Ok.last) last.0 last.1

pub returns-in-Err-clause-told : goal.returns-in-Err-clause-told
returns-in-Err-clause-told g c = λ truthful i t.
    let needs = needs_seen c.args.needs in
    first_stops c.in-Err.stop _ _ (last_lines (number_of_more needs) needs i) _ ((rw c.requires.number at c.in-Err.ensures.told) truthful i t)
