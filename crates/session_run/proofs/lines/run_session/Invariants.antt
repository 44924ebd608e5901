use Rattle.std.proofs.Common.{◌≡◌, ◌≤◌, ℕ, List, Some, true}
use Rattle.std.specs.Prelude.{IfSome, is_some, not}
use Rattle.outside_core.specs.Reports.{StaysTruthful}
use Rattle.outside_core.specs.Streams.{LosesPrefix}
use Rattle.kdbx_frame.specs.Settings.{IsInOrder}
use Rattle.cli_writing.specs.Writing.{KeepsDraft, store}
use Rattle.session_core.specs.Running.{state_seen}
use Rattle.session_run.specs.Seen.{NoneFell, session_faults, session_seen}
use Rattle.session_run.proofs.Runs.{HasRun}
use Rattle.session_run.proofs.lines.run_session.Given as goal

-- So many lines were carried out, and none of them ended the session.
abbrev pub invariant-lines : goal.invariant-lines
invariant-lines g l = record {
  few : l.counter ≤ 65536;
  told : g.S.Source.truthful l.input ≡ true → g.D.Dice.truthful l.dice ≡ true
      → (i d : List ℕ) → g.S.Source.left l.fn.input ≡ Some i → g.D.Dice.stream l.fn.dice ≡ Some d
      → HasRun l.now l.fn.session.database (state_seen l.fn.session i d) l.counter l.session
      (session_seen (g.O.Sink.written l.fn.out) (g.E.Sink.written l.fn.err) (g.F.FileStore.files l.fn.files) (g.F.FileStore.draft_name l.fn.files)
      (g.F.FileStore.draft_bytes l.fn.files) (g.S.Source.left l.fn.input) (g.D.Dice.stream l.fn.dice))
      (session_seen (g.O.Sink.written l.out) (g.E.Sink.written l.err) (g.F.FileStore.files l.files) (g.F.FileStore.draft_name l.files)
      (g.F.FileStore.draft_bytes l.files) (g.S.Source.left l.input) (g.D.Dice.stream l.dice));
  database : l.session.database ≡ l.fn.session.database;
  in_order : IfSome l.session.opened.sealing (λ s. IsInOrder s.settings);
  sealed : is_some l.session.opened.sealing ≡ not l.fn.session.database.access.plain;
  draft : KeepsDraft (store (g.F.FileStore.files l.fn.files) (g.F.FileStore.draft_name l.fn.files) (g.F.FileStore.draft_bytes l.fn.files))
      (store (g.F.FileStore.files l.files) (g.F.FileStore.draft_name l.files) (g.F.FileStore.draft_bytes l.files));
  stream : LosesPrefix (g.D.Dice.stream l.fn.dice) (g.D.Dice.stream l.dice);
  files_truthful : StaysTruthful (g.F.FileStore.truthful l.fn.files) (g.F.FileStore.truthful l.files);
  input_truthful : StaysTruthful (g.S.Source.truthful l.fn.input) (g.S.Source.truthful l.input);
  dice_truthful : StaysTruthful (g.D.Dice.truthful l.fn.dice) (g.D.Dice.truthful l.dice);
  none_fell : NoneFell
      (session_faults (g.F.FileStore.faults l.fn.files) (g.S.Source.faults l.fn.input) (g.O.Sink.faults l.fn.out) (g.E.Sink.faults l.fn.err) (g.D.Dice.faults l.fn.dice))
      (session_faults (g.F.FileStore.faults l.files) (g.S.Source.faults l.input) (g.O.Sink.faults l.out) (g.E.Sink.faults l.err) (g.D.Dice.faults l.dice));
}
