use Rattle.std.proofs.Common.{Ok, ap, refl, subst, sym, ◌∙◌}
use Rattle.std.proofs.lemmas.Result.{err_from_is_err_and}
use Rattle.cli_lines.specs.SeenLines.{last_seen}
use Rattle.call_run.specs.CliCommands.Commands.{only_reads}
use Rattle.call_run.specs.CliCommands.SeenChange.{output_text}
use Rattle.call_run.specs.Endings.{IsRecoverable}
use Rattle.call_run.specs.SeenRequest.{task_by}
use Rattle.session_core.specs.Reading.{line_read}
use Rattle.session_core.specs.SeenReading.{IsAsked, request_seen}
use Rattle.session_core.specs.Running.{state_seen}
use Rattle.session_core.specs.declared.reading.LineRequest.{LineRequest}
use Rattle.session_core.proofs.CarriedLines.{prints_for, read_ended, read_stopped, stopped_for, tells_so}
use Rattle.session_core.proofs.Reopened.{ended_reads_back, line_reads_back, passed_reads_back}
use Rattle.session_core.proofs.running.run_line.Goals as goal

pub returns-in-Ends-clause-reads_back : goal.returns-in-Ends-clause-reads_back
returns-in-Ends-clause-reads_back g c = λ st dt m i d isF isI isD.
    ended_reads_back c.args.now (state_seen c.args.session.now i d) (line_read c.args.session.now.database c.args.session.now.number i) _ c.in_ok-read_request.field-0
    (c.in_ok-read_request.ensures.told st i isI).0 c.in-Ends.is

pub returns-in-Nothing-clause-reads_back : goal.returns-in-Nothing-clause-reads_back
returns-in-Nothing-clause-reads_back g c = λ st dt m i d isF isI isD.
    passed_reads_back c.args.now (state_seen c.args.session.now i d) (line_read c.args.session.now.database c.args.session.now.number i) _ c.in_ok-read_request.field-0
    (c.in_ok-read_request.ensures.told st i isI).0 c.in-Nothing.is

pub returns-in-Ok-clause-reads_back : goal.returns-in-Ok-clause-reads_back
returns-in-Ok-clause-reads_back g c = λ st dt m i d isF isI isD.
    let read = c.in_ok-read_request.ensures.told st i isI in
    let fits = subst (IsAsked c.args.session.now.database) c.in-Asks.is c.in_ok-read_request.ensures.asked in
    let done = c.in-Ok.ensures.told dt d (tells_so _ _ d isD) in
    line_reads_back c.args.now (state_seen c.args.session.now i d) (line_read c.args.session.now.database c.args.session.now.number i)
    c.in-Asks.command (last_seen c.in-Asks.last) (read.0 ∙ ap (λ (r : LineRequest). Ok (request_seen r)) c.in-Asks.is)
    (task_by c.request_with-request.result c.args.session.now.opened) _ _ m _ _ (c.request_with-request.ensures.task c.args.session.now.opened) isF fits.0.kind done.0
    (c.in-Ok.ensures.of_dice dt d (tells_so _ _ d isD))

pub returns-in_err-read_request-clause-told : goal.returns-in_err-read_request-clause-told
returns-in_err-read_request-clause-told g c = λ st dt i d isI isD.
    let p = err_from_is_err_and c.from_residual.result c.from_residual.ensures.1 in
    rw (p.1, p.2) (read_stopped c.in_err-read_request.field-0.0 c.args.now (state_seen c.args.session.now i d)
    (line_read c.args.session.now.database c.args.session.now.number i) _ _ _ _ (c.in_err-read_request.ensures.told st i isI) refl isD)

pub returns-in-Ends-clause-told : goal.returns-in-Ends-clause-told
returns-in-Ends-clause-told g c = λ st dt i d isI isD.
    read_ended c.in_ok-read_request.field-0 c.args.now (state_seen c.args.session.now i d)
    (line_read c.args.session.now.database c.args.session.now.number i) _ _ _ _ c.in-Ends.is (c.in_ok-read_request.ensures.told st i isI) refl isD

pub returns-in-Ok-clause-told : goal.returns-in-Ok-clause-told
returns-in-Ok-clause-told g c = λ st dt i d isI isD.
    let read = c.in_ok-read_request.ensures.told st i isI in
    let fits = subst (IsAsked c.args.session.now.database) c.in-Asks.is c.in_ok-read_request.ensures.asked in
    let done = c.in-Ok.ensures.told dt d (tells_so _ _ d isD) in
    prints_for c.args.now (state_seen c.args.session.now i d) (line_read c.args.session.now.database c.args.session.now.number i)
    c.in-Asks.command (last_seen c.in-Asks.last) (read.0 ∙ ap (λ (r : LineRequest). Ok (request_seen r)) c.in-Asks.is)
    (task_by c.request_with-request.result c.args.session.now.opened) (only_reads c.request_with-request.result.command) (output_text c.in-Ok.output) _ _ _ _ _ _
    (c.request_with-request.ensures.task c.args.session.now.opened) read.1 read.2 isD done.0 done.1
    (c.in-Ok.ensures.leaves dt d (tells_so _ _ d isD)) fits.0.kind (ap only_reads c.request_with-request.ensures.command)

pub returns-in-Err-clause-told : goal.returns-in-Err-clause-told
returns-in-Err-clause-told g c = λ st dt i d isI isD.
    let read = c.in_ok-read_request.ensures.told st i isI in
    stopped_for c.args.now (state_seen c.args.session.now i d) (line_read c.args.session.now.database c.args.session.now.number i)
    c.in-Asks.command (last_seen c.in-Asks.last) (read.0 ∙ ap (λ (r : LineRequest). Ok (request_seen r)) c.in-Asks.is)
    (task_by c.request_with-request.result c.args.session.now.opened) c.in-Err.stop _ _ _ _ _ _
    (c.request_with-request.ensures.task c.args.session.now.opened) read.1 read.2 isD
    (c.in-Err.ensures.told dt d (tells_so _ _ d isD)) (λ refusal is low. c.in-Err.ensures.recoverable (subst IsRecoverable (sym is) low))
