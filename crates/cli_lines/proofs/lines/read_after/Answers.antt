use Rattle.std.proofs.Common.{[], map}
use Rattle.cli_needs.specs.Needs.{asks_more, asks_passwords_from}
use Rattle.cli_needs.specs.SeenNeeds.{needs_seen}
use Rattle.cli_lines.specs.Lines.{after_passwords, lines_from, number_from}
use Rattle.cli_lines.specs.SeenLines.{line_seen, lines_seen}
use Rattle.cli_lines.proofs.Inputs.{first_stops, kept_later, later_returns, stops_later, tells_first, tells_second}
use Rattle.cli_lines.proofs.lines.read_after.Goals as goal

pub returns-in-Ok-clause-told : goal.returns-in-Ok-clause-told
returns-in-Ok-clause-told g c = λ truthful i t.
    let needs = needs_seen c.args.needs in
    let due = asks_passwords_from needs in
    let read = rw (c.new-sources.ensures, c.requires.number) at c.in-Ok.ensures.told in
    let first = read (c.read_more.ensures.truthful truthful) i (tells_first due (asks_more needs) _ i t) in
    let taken = lines_from due needs.sources (number_from needs) [] i in
    later_returns lines_seen c.read_more.result _ _ _ taken (map line_seen c.read_passwords.new.lines) (after_passwords needs (line_seen c.args.password)) first.0 first.1
    (c.read_more.ensures.told truthful taken.left (tells_second due (asks_more needs) _ _ i taken.left t first.1))

pub returns-in-Ok-clause-cause : goal.returns-in-Ok-clause-cause
returns-in-Ok-clause-cause g c = stops_later c.read_more.result _ _ _ c.in-Ok.ensures.faults c.read_more.ensures.cause

pub returns-in-Ok-clause-faultless : goal.returns-in-Ok-clause-faultless
returns-in-Ok-clause-faultless g c = kept_later c.read_more.result _ _ _ c.in-Ok.ensures.faultless c.read_more.ensures.faultless

pub returns-in-Err-clause-told : goal.returns-in-Err-clause-told
returns-in-Err-clause-told g c = λ truthful i t.
    let needs = needs_seen c.args.needs in
    let due = asks_passwords_from needs in
    let read = rw (c.new-sources.ensures, c.requires.number) at c.in-Err.ensures.told in
    first_stops c.in-Err.stop _ _ (lines_from due needs.sources (number_from needs) [] i) (after_passwords needs (line_seen c.args.password))
    (read truthful i (tells_first due (asks_more needs) _ i t))
