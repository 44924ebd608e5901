use Rattle.std.proofs.Common.{◌≡◌, Ok, map}
use Rattle.std.specs.Prelude.{IfSome, string_bytes}
use Rattle.std.proofs.lemmas.Result.{err_from_is_err_and}
use Rattle.cli_lines.specs.SeenLines.{lines_seen}
use Rattle.cli_needs.specs.Needs.{generated_by}
use Rattle.cli_needs.specs.SeenNeeds.{needs_seen}
use Rattle.cli_needs.specs.declared.command.Command.{Command}
use Rattle.cli_parse.specs.Words.{command_of}
use Rattle.cli_profiles.specs.Profiles.{IsProfile}
use Rattle.call_input.proofs.ReadTasks.{asked_needs, at_words, both_kept, has_file_by_needs, input_early, lines_by_needs, lines_refused, needs_leave, needs_left, of_command, sealed_task, task_by_needs, task_leaves, text_of_task, words_early, words_leave, words_refused}
use Rattle.call_input.proofs.reading.read_task.Goals as goal

pub open_task-requires-clause-lines : goal.open_task-requires-clause-lines
open_task-requires-clause-lines g c =
    lines_by_needs c.in_ok-command.command (needs_seen c.needs_of-needs.result) (lines_seen c.in-Ok.lines) c.needs_of-needs.ensures c.in-Ok.ensures.given

pub returns-clause-told : goal.returns-clause-told
returns-clause-told g c = λ truthful m i isF isS.
    let command = c.in_ok-command.command in
    let needs = needs_seen c.needs_of-needs.result in
    task_by_needs (map string_bytes c.args.words.now) c.args.now i m command needs (lines_seen c.in-Ok.lines) c.open_task.result
    c.in_ok-command.ensures.told c.needs_of-needs.ensures
    (c.in-Ok.ensures.told truthful i (asked_needs _ command needs _ i c.in_ok-command.ensures.told c.needs_of-needs.ensures isS)).0
    (c.open_task.ensures.told m isF)

pub returns-clause-command : goal.returns-clause-command
returns-clause-command g c =
    of_command (λ (command : Command). command_of (map string_bytes c.args.words.now) ≡ Ok command) c.open_task.result c.in_ok-command.command
    c.in_ok-command.ensures.told c.open_task.ensures.command

pub returns-clause-some_file : goal.returns-clause-some_file
returns-clause-some_file g c =
    has_file_by_needs (map string_bytes c.args.words.now) c.args.now c.in_ok-command.command (needs_seen c.needs_of-needs.result) (lines_seen c.in-Ok.lines)
    c.open_task.result c.in_ok-command.ensures.told c.needs_of-needs.ensures c.in-Ok.ensures.given c.open_task.ensures.command c.open_task.ensures.lines
    c.open_task.ensures.holds c.open_task.ensures.attaches

pub returns-clause-text : goal.returns-clause-text
returns-clause-text g c = text_of_task c.open_task.result (lines_seen c.in-Ok.lines) c.in-Ok.ensures.text c.open_task.ensures.lines

pub returns-clause-profile : goal.returns-clause-profile
returns-clause-profile g c =
    of_command (λ (command : Command). IfSome (generated_by command) IsProfile) c.open_task.result c.in_ok-command.command
    c.in_ok-command.ensures.has_profile c.open_task.ensures.command

pub returns-clause-sealed : goal.returns-clause-sealed
returns-clause-sealed g c =
    sealed_task c.open_task.result c.in_ok-command.command (lines_seen c.in-Ok.lines) c.args.now c.in_ok-command.ensures.has_key_after
    c.open_task.ensures.command c.open_task.ensures.holds

pub returns-clause-left : goal.returns-clause-left
returns-clause-left g c = λ truthful i isS.
    let needs = needs_seen c.needs_of-needs.result in
    task_leaves c.open_task.result _ _ _ (needs_left (command_of (map string_bytes c.args.words.now)) c.in_ok-command.command needs _ _ i
    c.in_ok-command.ensures.told c.needs_of-needs.ensures
    (c.in-Ok.ensures.told truthful i (asked_needs _ c.in_ok-command.command needs _ i c.in_ok-command.ensures.told c.needs_of-needs.ensures isS)).1)

pub returns-clause-cause : goal.returns-clause-cause
returns-clause-cause g c =
    at_words c.in_ok-command.command (command_of (map string_bytes c.args.words.now)) _ _ _ _ _ _
    c.open_task.result c.in_ok-command.ensures.told c.open_task.ensures.cause

pub returns-clause-faultless : goal.returns-clause-faultless
returns-clause-faultless g c = both_kept c.open_task.result _ _ _ _ c.in-Ok.ensures.faultless c.open_task.ensures.faultless

pub returns-in-Err-clause-told : goal.returns-in-Err-clause-told
returns-in-Err-clause-told g c = λ truthful m i isF isS.
    let needs = needs_seen c.needs_of-needs.result in
    lines_refused c.in-Err.stop (map string_bytes c.args.words.now) c.args.now i m c.in_ok-command.command needs _ _ c.in_ok-command.ensures.told c.needs_of-needs.ensures
    (c.in-Err.ensures.told truthful i (asked_needs _ c.in_ok-command.command needs _ i c.in_ok-command.ensures.told c.needs_of-needs.ensures isS))

pub returns-in-Err-clause-left : goal.returns-in-Err-clause-left
returns-in-Err-clause-left g c = λ truthful i isS.
    let needs = needs_seen c.needs_of-needs.result in
    needs_leave c.in-Err.stop (command_of (map string_bytes c.args.words.now)) c.in_ok-command.command needs _ _ i _ _ c.in-Err.ensures.cause
    c.in_ok-command.ensures.told c.needs_of-needs.ensures
    (c.in-Err.ensures.told truthful i (asked_needs _ c.in_ok-command.command needs _ i c.in_ok-command.ensures.told c.needs_of-needs.ensures isS))

pub returns-in_err-command-clause-told : goal.returns-in_err-command-clause-told
returns-in_err-command-clause-told g c = λ truthful m i isF isS.
    let p = err_from_is_err_and c.from_residual.result c.from_residual.ensures.1 in
    rw (p.1, p.2) (words_refused c.in_err-command.field-0.0 (map string_bytes c.args.words.now) c.args.now i m c.in_err-command.ensures.told)

pub returns-in_err-command-clause-left : goal.returns-in_err-command-clause-left
returns-in_err-command-clause-left g c = λ truthful i isS.
    let p = err_from_is_err_and c.from_residual.result c.from_residual.ensures.1 in
    rw (p.1, p.2) (words_leave c.in_err-command.field-0.0 (command_of (map string_bytes c.args.words.now)) _ i c.in_err-command.ensures.cause c.in_err-command.ensures.told isS)

pub returns-in_err-command-clause-cause : goal.returns-in_err-command-clause-cause
returns-in_err-command-clause-cause g c =
    let p = err_from_is_err_and c.from_residual.result c.from_residual.ensures.1 in
    rw (p.1, p.2) (words_early c.in_err-command.field-0.0 _ _ _ _ _ _ _ c.in_err-command.ensures.cause)

pub returns-in-Err-clause-cause : goal.returns-in-Err-clause-cause
returns-in-Err-clause-cause g c = input_early c.in-Err.stop _ _ _ _ _ _ _ c.in-Err.ensures.cause
