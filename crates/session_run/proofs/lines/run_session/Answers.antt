use Rattle.std.proofs.Common.{arith, inr, refl, ◌∙◌}
use Rattle.outside_core.proofs.Reports.{stays_on}
use Rattle.cli_writing.specs.Writing.{store}
use Rattle.session_core.proofs.CliCommands.Changes.{loses_both, loses_none}
use Rattle.session_run.proofs.Runs.{begins, ends_at_limit, ends_there, fell_both, runs_there}
use Rattle.session_run.proofs.Together.{draft_both}
use Rattle.session_run.proofs.lines.run_session.Goals as goal

pub lines-init : goal.lines-init
lines-init g c = record {
  few = omega arith;
  told = λ st dt i d isI isD. begins c.args.now c.args.session.now.database c.args.session.now i d _ isI isD;
  database = refl;
  in_order = c.requires.in_order;
  sealed = c.requires.sealed;
  draft = inr (refl, refl);
  stream = loses_none _;
  files_truthful = λ t. t;
  input_truthful = λ t. t;
  dice_truthful = λ t. t;
  none_fell = record { files = omega arith; input = omega arith; out = omega arith; err = omega arith; dice = omega arith };
}

pub returns-in-Some-clause-told : goal.returns-in-Some-clause-told
returns-in-Some-clause-told g c = λ st dt i d isI isD.
    let run = c.lines.invariant.told (c.in-Some.ensures.input_truthful st) (c.in-Some.ensures.dice_truthful dt) i d isI isD in
    ends_there c.args.now c.args.session.now.database _ c.lines.counter c.lines.session _ _ run _ _ _ c.lines.invariant.none_fell _ c.in-Some.status
    c.lines.session.database c.lines.invariant.database (omega (arith, c.lines-test.true))
    (c.in-Some.ensures.told st dt run.progress.state.input run.progress.state.dice run.at.input run.at.dice)

pub returns-in-Some-clause-stream : goal.returns-in-Some-clause-stream
returns-in-Some-clause-stream g c = loses_both _ _ _ c.lines.invariant.stream c.in-Some.ensures.stream

pub lines-preserved : goal.lines-preserved
lines-preserved g c = record {
  few = omega (arith, c.lines-test.true);
  told = λ st dt i d isI isD.
      let run = c.lines.invariant.told (c.in_default.ensures.input_truthful st) (c.in_default.ensures.dice_truthful dt) i d isI isD in
      runs_there c.args.now c.args.session.now.database _ c.lines.counter c.lines.session _ _ run c.lines.session.database c.lines.invariant.database
      (λ m isM. c.in_default.ensures.reads_back st dt m run.progress.state.input run.progress.state.dice isM run.at.input run.at.dice refl)
      c.do_line.new.session _ (c.in_default.ensures.told st dt run.progress.state.input run.progress.state.dice run.at.input run.at.dice);
  database = c.in_default.ensures.database ∙ c.lines.invariant.database;
  in_order = c.in_default.ensures.still_in_order;
  sealed = c.in_default.ensures.still_sealed ∙ c.lines.invariant.sealed;
  draft = draft_both (store (g.F.FileStore.files c.args.files.now) (g.F.FileStore.draft_name c.args.files.now) (g.F.FileStore.draft_bytes c.args.files.now))
      (store (g.F.FileStore.files c.lines.files) (g.F.FileStore.draft_name c.lines.files) (g.F.FileStore.draft_bytes c.lines.files))
      (store (g.F.FileStore.files c.do_line.new.files) (g.F.FileStore.draft_name c.do_line.new.files) (g.F.FileStore.draft_bytes c.do_line.new.files)) c.lines.invariant.draft c.in_default.ensures.draft;
  stream = loses_both _ _ _ c.lines.invariant.stream c.in_default.ensures.stream;
  files_truthful = stays_on _ _ _ c.lines.invariant.files_truthful c.in_default.ensures.files_truthful;
  input_truthful = stays_on _ _ _ c.lines.invariant.input_truthful c.in_default.ensures.input_truthful;
  dice_truthful = stays_on _ _ _ c.lines.invariant.dice_truthful c.in_default.ensures.dice_truthful;
  none_fell = fell_both _ _ _ c.lines.invariant.none_fell c.in_default.ensures.causes;
}

pub returns-clause-told : goal.returns-clause-told
returns-clause-told g c = λ st dt i d isI isD.
    let run = c.lines.invariant.told (c.end_at_limit.ensures.truthful st) dt i d isI isD in
    ends_at_limit c.args.now c.args.session.now.database _ c.lines.counter c.lines.session _ _ run _ _ _ c.lines.invariant.none_fell _ c.end_at_limit.result
    (omega (arith, c.lines-test.false, c.lines.invariant.few)) refl (record { files = refl; draft_name = refl; draft_bytes = refl }) refl
    (c.end_at_limit.ensures.told st run.progress.state.input run.at.input)
