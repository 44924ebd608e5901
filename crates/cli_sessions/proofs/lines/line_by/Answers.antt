use Rattle.std.proofs.Common.{◌≡◌, ◌∙◌, ap, subst, sym, Some}
use Rattle.std.specs.Option.{option_and_then}
use Rattle.cli_options.specs.Said.{with_position, with_words}
use Rattle.cli_options.specs.SaidWords.{Gives, reading_seen}
use Rattle.cli_options.proofs.Beginning.{begins}
use Rattle.cli_sessions.specs.SessionLines.{at_database, line_saying}
use Rattle.cli_sessions.proofs.lines.line_by.Goals as goal

pub returns : goal.returns
returns c =
    let command = c.args.command in
    let words = c.args.words.now in
    let file = c.args.file.now in
    let start = c.empty_state-state.ensures in
    let none = begins c.no_texts-given.result c.empty_state-state.result c.no_texts-given.ensures start.repeated start.due start.ended start.positions in
    let read : with_words command words (at_database file) ≡ Some (reading_seen c.add_line.new.given c.add_line.new.state) =
    ap (λ said. with_words command words (with_position said file)) (sym none) ∙ c.in_default.ensures in
    subst (Gives (λ command. command) c.line_saying-made.result) (sym (ap (option_and_then (line_saying c.args.access.now command)) read))
    (rw (c.as_slice.ensures, c.as_slice-2.ensures) at c.line_saying-made.ensures)
