use Rattle.std.proofs.Common.{◌||◌}
use Rattle.cli_needs.specs.Needs.{asks_more, asks_password, asks_passwords_from}
use Rattle.cli_needs.specs.SeenNeeds.{needs_seen}
use Rattle.cli_lines.specs.Lines.{after_password, line_if}
use Rattle.cli_lines.specs.SeenLines.{line_seen, lines_seen}
use Rattle.cli_lines.proofs.Inputs.{first_stops, kept_later, later_returns, stops_later, tells_first, tells_second}
use Rattle.cli_lines.proofs.lines.read_lines.Goals as goal

pub returns-in-Ok-clause-told : goal.returns-in-Ok-clause-told
returns-in-Ok-clause-told g c = λ truthful i t.
    let needs = needs_seen c.args.needs in
    let asks = asks_password c.args.needs.access.now in
    let later = asks_passwords_from needs || asks_more needs in
    let read = rw c.asks_password-asks.ensures at c.in-Ok.ensures.told in
    let first = read (c.read_after.ensures.truthful truthful) i (tells_first asks later _ i t) in
    let rest = (line_if asks 1 i).left in
    later_returns lines_seen c.read_after.result _ _ _ (line_if asks 1 i) (line_seen c.in-Ok.password) (after_password needs) first.0 first.1
    (c.read_after.ensures.told truthful rest (tells_second asks later _ _ i rest t first.1))

pub returns-in-Ok-clause-cause : goal.returns-in-Ok-clause-cause
returns-in-Ok-clause-cause g c = stops_later c.read_after.result _ _ _ c.in-Ok.ensures.faults c.read_after.ensures.cause

pub returns-in-Ok-clause-faultless : goal.returns-in-Ok-clause-faultless
returns-in-Ok-clause-faultless g c = kept_later c.read_after.result _ _ _ c.in-Ok.ensures.faultless c.read_after.ensures.faultless

pub returns-in-Err-clause-told : goal.returns-in-Err-clause-told
returns-in-Err-clause-told g c = λ truthful i t.
    let needs = needs_seen c.args.needs in
    let asks = asks_password c.args.needs.access.now in
    let later = asks_passwords_from needs || asks_more needs in
    let read = rw c.asks_password-asks.ensures at c.in-Err.ensures.told in
    first_stops c.in-Err.stop _ _ (line_if asks 1 i) (after_password needs) (read truthful i (tells_first asks later _ i t))
