use Rattle.std.proofs.Common.{map}
use Rattle.std.specs.Prelude.{string_bytes}
use Rattle.std.proofs.lemmas.Result.{err_from_is_err_and}
use Rattle.outside_core.proofs.Reports.{is_reported}
use Rattle.cli_writing.specs.Writing.{store}
use Rattle.cli_files.specs.SeenTask.{task_seen}
use Rattle.cli_parse.specs.Words.{command_of}
use Rattle.keepass_call.proofs.Answered.{comes_to, command_caused, draft_after, draws_so, early_caused, ends_left, faultless_after, kept_after, not_refused, of_task, prints_some, stop_leaves, stops_early, truth_kept, undrawn_after, unwritten_after}
use Rattle.session_run.proofs.CliCommands.Changes.{loses_none}
use Rattle.keepass_call.proofs.run.answer.Goals as goal

pub returns-clause-told : goal.returns-clause-told
returns-clause-told g c = λ truthful world isF isS isD.
    comes_to (map string_bytes c.args.words.now) c.args.now world (task_seen c.in_ok-task.task) c.carry_out.result _ _ _ _ _
    (c.in_ok-task.ensures.told truthful.input world.files world.input (is_reported _ _ _ (c.carry_out.ensures.files_truthful truthful.files) isF) isS)
    (record { files = c.in_ok-task.ensures.files; draft_name = c.in_ok-task.ensures.draft_name; draft_bytes = c.in_ok-task.ensures.draft_bytes })
    (c.carry_out.ensures.told truthful.dice world.dice (draws_so _ _ _ _ c.in_ok-task.ensures.command isD))

pub returns-clause-held : goal.returns-clause-held
returns-clause-held g c = λ truthful world isF isS isD.
    of_task (map string_bytes c.args.words.now) c.args.now world (task_seen c.in_ok-task.task) c.carry_out.result _ _ _
    (c.in_ok-task.ensures.told truthful.input world.files world.input (is_reported _ _ _ (c.carry_out.ensures.files_truthful truthful.files) isF) isS)
    (record { files = c.in_ok-task.ensures.files; draft_name = c.in_ok-task.ensures.draft_name; draft_bytes = c.in_ok-task.ensures.draft_bytes })
    (c.carry_out.ensures.of_dice truthful.dice world.dice (draws_so _ _ _ _ c.in_ok-task.ensures.command isD))

pub returns-clause-some_file : goal.returns-clause-some_file
returns-clause-some_file g c =
    prints_some (map string_bytes c.args.words.now) c.args.now (task_seen c.in_ok-task.task) c.carry_out.result _ _ _ c.in_ok-task.ensures.some_file
    (record { files = c.in_ok-task.ensures.files; draft_name = c.in_ok-task.ensures.draft_name; draft_bytes = c.in_ok-task.ensures.draft_bytes })
    c.carry_out.ensures.some_dice

pub returns-clause-left : goal.returns-clause-left
returns-clause-left g c = λ truthful i isS. ends_left c.carry_out.result _ _ _ (c.in_ok-task.ensures.left truthful i isS)

pub returns-clause-unasked : goal.returns-clause-unasked
returns-clause-unasked g c = λ refusal wrong. absurd (not_refused _ c.in_ok-task.task.command refusal c.in_ok-task.ensures.command wrong)

pub returns-clause-kept : goal.returns-clause-kept
returns-clause-kept g c =
    kept_after c.carry_out.result _ _ _
    (record { files = c.in_ok-task.ensures.files; draft_name = c.in_ok-task.ensures.draft_name; draft_bytes = c.in_ok-task.ensures.draft_bytes }) c.carry_out.ensures.kept

pub returns-clause-draft : goal.returns-clause-draft
returns-clause-draft g c =
    draft_after
    (store (g.F.FileStore.files c.args.files.now) (g.F.FileStore.draft_name c.args.files.now) (g.F.FileStore.draft_bytes c.args.files.now))
    (store (g.F.FileStore.files c.read_task.new.files) (g.F.FileStore.draft_name c.read_task.new.files) (g.F.FileStore.draft_bytes c.read_task.new.files))
    (store (g.F.FileStore.files c.carry_out.new.files) (g.F.FileStore.draft_name c.carry_out.new.files) (g.F.FileStore.draft_bytes c.carry_out.new.files))
    (record { files = c.in_ok-task.ensures.files; draft_name = c.in_ok-task.ensures.draft_name; draft_bytes = c.in_ok-task.ensures.draft_bytes }) c.carry_out.ensures.draft

pub returns-clause-unwritten : goal.returns-clause-unwritten
returns-clause-unwritten g c =
    unwritten_after (command_of (map string_bytes c.args.words.now)) c.in_ok-task.task.command _ _ _ c.in_ok-task.ensures.command
    (record { files = c.in_ok-task.ensures.files; draft_name = c.in_ok-task.ensures.draft_name; draft_bytes = c.in_ok-task.ensures.draft_bytes })
    c.carry_out.ensures.unwritten

pub returns-clause-undrawn : goal.returns-clause-undrawn
returns-clause-undrawn g c =
    undrawn_after (command_of (map string_bytes c.args.words.now)) c.in_ok-task.task.command _ _ c.in_ok-task.ensures.command
    c.carry_out.ensures.undrawn

pub returns-clause-cause : goal.returns-clause-cause
returns-clause-cause g c =
    command_caused c.carry_out.result c.in_ok-task.task.command (command_of (map string_bytes c.args.words.now)) _ _ _ _ _ _ _ _ _ c.in_ok-task.ensures.command
    c.in_ok-task.ensures.faults c.carry_out.ensures.cause

pub returns-clause-faultless : goal.returns-clause-faultless
returns-clause-faultless g c = faultless_after c.carry_out.result _ _ _ _ _ _ _ c.in_ok-task.ensures.faultless c.carry_out.ensures.faultless

pub returns-in_err-task-clause-told : goal.returns-in_err-task-clause-told
returns-in_err-task-clause-told g c = λ truthful world isF isS isD.
    let p = err_from_is_err_and c.from_residual.result c.from_residual.ensures.1 in
    rw (p.1, p.2) (stops_early c.in_err-task.field-0.0 (map string_bytes c.args.words.now) c.args.now world _ _ _ _
    (c.in_err-task.ensures.told truthful.input world.files world.input (is_reported _ _ _ truthful.files isF) isS)
    (record { files = c.in_err-task.ensures.files; draft_name = c.in_err-task.ensures.draft_name; draft_bytes = c.in_err-task.ensures.draft_bytes }) isD)

pub returns-in_err-task-clause-left : goal.returns-in_err-task-clause-left
returns-in_err-task-clause-left g c = λ truthful i isS.
    let p = err_from_is_err_and c.from_residual.result c.from_residual.ensures.1 in
    rw (p.1, p.2) (stop_leaves c.in_err-task.field-0.0 _ _ _ (c.in_err-task.ensures.left truthful i isS))

pub returns-in_err-task-clause-unasked : goal.returns-in_err-task-clause-unasked
returns-in_err-task-clause-unasked g c = λ refusal wrong. truth_kept _ _ _ _ _ (c.in_err-task.ensures.unasked refusal wrong)

pub returns-in_err-task-clause-stream : goal.returns-in_err-task-clause-stream
returns-in_err-task-clause-stream g c = loses_none _

pub returns-in_err-task-clause-cause : goal.returns-in_err-task-clause-cause
returns-in_err-task-clause-cause g c =
    let p = err_from_is_err_and c.from_residual.result c.from_residual.ensures.1 in
    rw (p.1, p.2) (early_caused c.in_err-task.field-0.0 _ _ _ _ _ _ _ _ c.in_err-task.ensures.cause)
