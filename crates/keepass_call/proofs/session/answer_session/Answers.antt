use Rattle.std.proofs.Common.{arith, refl}
use Rattle.outside_core.proofs.Reports.{is_reported}
use Rattle.cli_files.specs.SeenOpened.{opened_seen}
use Rattle.cli_writing.specs.Writing.{store}
use Rattle.session_run.specs.Seen.{session_seen}
use Rattle.keepass_call.specs.Outcome.{counts}
use Rattle.keepass_call.proofs.Answered.{draft_after, same_store}
use Rattle.keepass_call.proofs.SessionCases.{session_call, unopened_call, with_number}
use Rattle.keepass_call.proofs.session.answer_session.Goals as goal

pub returns-in-Ok : goal.returns-in-Ok
returns-in-Ok g c =
    let leaves = c.in-Ok.ensures.leaves in
    let mid = c.open_session.new.files in
    let before = store (g.F.FileStore.files c.args.files.now) (g.F.FileStore.draft_name c.args.files.now) (g.F.FileStore.draft_bytes c.args.files.now) in
    let held = store (g.F.FileStore.files mid) (g.F.FileStore.draft_name mid) (g.F.FileStore.draft_bytes mid) in
    session_call c.args.database c.args.now c.run_session-status.result _ _ _
    (counts (g.F.FileStore.faults mid) (g.F.FileStore.absences mid) (g.S.Source.faults c.open_session.new.input) (g.O.Sink.faults c.args.out.now) (g.E.Sink.faults c.args.err.now)
    (g.D.Dice.faults c.args.dice.now)) _
    (opened_seen c.in-Ok.opened)
    (session_seen (g.O.Sink.written c.args.out.now) (g.E.Sink.written c.args.err.now) (g.F.FileStore.files mid) (g.F.FileStore.draft_name mid) (g.F.FileStore.draft_bytes mid)
    (g.S.Source.left c.open_session.new.input) (g.D.Dice.stream c.args.dice.now))
    refl refl (same_store before held (record { files = leaves.files; draft_name = leaves.draft_name; draft_bytes = leaves.draft_bytes }))
    (record { files = leaves.faults; input = c.in-Ok.ensures.input_faults; out = omega arith; err = omega arith; dice = omega arith })
    c.run_session-status.ensures.causes
    (draft_after before held
    (store (g.F.FileStore.files c.run_session-status.new.files) (g.F.FileStore.draft_name c.run_session-status.new.files) (g.F.FileStore.draft_bytes c.run_session-status.new.files))
    (record { files = leaves.files; draft_name = leaves.draft_name; draft_bytes = leaves.draft_bytes }) c.run_session-status.ensures.draft)
    c.run_session-status.ensures.stream
    (λ w t.
    let told = c.in-Ok.ensures.told (c.run_session-status.ensures.input_truthful t.truthful.input) w.files w.input
    (is_reported _ _ _ (c.run_session-status.ensures.files_truthful t.truthful.files) t.files) t.input in (
      told.0,
      with_number c.args.now c.args.database (opened_seen c.in-Ok.opened) c.first_number-number.result _ w.dice _ _ c.run_session-status.result _ _ c.first_number-number.ensures
          (c.run_session-status.ensures.told t.truthful.input t.truthful.dice _ w.dice told.1 t.dice),
    ))

pub returns-in-Err : goal.returns-in-Err
returns-in-Err g c =
    unopened_call c.args.database c.args.now c.report.result _ _ _ _ c.in-Err.stop
    (record {
      gives = λ w t. c.in-Err.ensures.told t.truthful.input w.files w.input (is_reported _ _ _ t.truthful.files t.files) t.input;
      caused = c.in-Err.ensures.cause;
      told = c.report.ensures.reported;
      written = refl;
      store = record { files = c.in-Err.ensures.leaves.files; draft_name = c.in-Err.ensures.leaves.draft_name; draft_bytes = c.in-Err.ensures.leaves.draft_bytes };
      stream = refl;
    })
