-- A session goes on from where its first lines left it.
use Rattle.std.proofs.Common.{◌≡◌, ◌+◌, ℕ, zero, suc, List, [], ◌++◌, Option, Some, None, refl, sym, ◌∙◌, ap, arith}
use Rattle.std.specs.Prelude.{option_and_then}
use Rattle.std.proofs.lemmas.List.{append_assoc}
use Rattle.cli_sessions.specs.declared.opening.SessionDatabase.{SessionDatabase}
use Rattle.cli_writing.specs.Writing.{NewFile}
use Rattle.session_core.specs.Sessions.{LineOutcome, SessionOutcome, SessionState, continues, ends, last_file, line_outcome, session_from, then_rest, with_before}
use Rattle.session_run.specs.Progress.{Progress, after_lines, nothing_done, with_line}

last_none : (file : Option NewFile) → last_file None file ≡ file
last_none None = refl
last_none (Some file) = refl

last_assoc : (a b c : Option NewFile) → last_file a (last_file b c) ≡ last_file (last_file a b) c
last_assoc a b None = refl
last_assoc a b (Some c) = refl

nothing_before : (outcome : SessionOutcome) → with_before [] [] None outcome ≡ outcome
nothing_before outcome = ap (λ (f : Option NewFile). record outcome { file = f }) (last_none outcome.file)

before_twice : (t e t' e' : List ℕ) (f f' : Option NewFile) (outcome : SessionOutcome)
    → with_before t e f (with_before t' e' f' outcome) ≡ with_before (t ++ t') (e ++ e') (last_file f f') outcome
before_twice t e t' e' f f' outcome = λ i. record outcome {
  text = sym (append_assoc t t' outcome.text) i;
  errors = sym (append_assoc e e' outcome.errors) i;
  file = last_assoc f f' outcome.file i;
}

-- With what its first lines did before it.
abbrev pub after : Progress → SessionOutcome → SessionOutcome
after progress outcome = with_before progress.text progress.errors progress.file outcome

-- The lines before the last one of these, and that one.
pub record Stepped (lines time : ℕ) (database : SessionDatabase) (start : SessionState) (progress : Progress) : Type 0 where
  pub earlier : Progress
  pub reaches : after_lines lines time database start ≡ Some earlier
  pub text : List ℕ
  pub errors : List ℕ
  pub file : Option NewFile
  pub state : SessionState
  pub does : line_outcome time database earlier.state ≡ continues text errors file state
  pub is : progress ≡ record { text = earlier.text ++ text; errors = earlier.errors ++ errors; file = last_file earlier.file file; state = state }

some_same : (a b : Progress) → ◌≡◌ {A = Option Progress} (Some a) (Some b) → b ≡ a
some_same a b h = cc h

stepped : (lines time : ℕ) (database : SessionDatabase) (start : SessionState) (progress : Progress)
    → after_lines (suc lines) time database start ≡ Some progress → Stepped lines time database start progress
stepped lines time database start progress = by (after_lines lines time database start) refl
  where
    line : (earlier : Progress) → after_lines lines time database start ≡ Some earlier
        → (outcome : LineOutcome) → line_outcome time database earlier.state ≡ outcome → with_line earlier outcome ≡ Some progress
        → Stepped lines time database start progress
    line earlier e (ends outcome) d h = cc h
    line earlier e (continues text errors file state) d h = record {
      earlier = earlier;
      reaches = e;
      text = text;
      errors = errors;
      file = file;
      state = state;
      does = d;
      is = some_same _ _ h;
    }

    by : (o : Option Progress) → after_lines lines time database start ≡ o
        → option_and_then (λ p. with_line p (line_outcome time database p.state)) o ≡ Some progress → Stepped lines time database start progress
    by None e h = cc h
    by (Some earlier) e h = line earlier e (line_outcome time database earlier.state) refl h

-- A session of so many lines, after the first of them.
pub session_after : (lines most time : ℕ) (database : SessionDatabase) (start : SessionState) (progress : Progress)
    → after_lines lines time database start ≡ Some progress
    → session_from (lines + most) time database start ≡ after progress (session_from most time database progress.state)
session_after zero most time database start progress h =
    let same : progress ≡ nothing_done start = some_same _ _ h in
    ap (λ (n : ℕ). session_from n time database start) (omega arith)
    ∙ sym (nothing_before (session_from most time database start))
    ∙ ap (λ (p : Progress). after p (session_from most time database p.state)) (sym same)
session_after (suc lines) most time database start progress h =
    let s = stepped lines time database start progress h in
    ap (λ (n : ℕ). session_from n time database start) (omega arith)
    ∙ session_after lines (suc most) time database start s.earlier s.reaches
    ∙ ap (λ (o : LineOutcome). after s.earlier (then_rest o (session_from most time database))) s.does
    ∙ before_twice s.earlier.text s.earlier.errors s.text s.errors s.earlier.file s.file (session_from most time database s.state)
    ∙ ap (λ (p : Progress). after p (session_from most time database p.state)) (sym s.is)

-- What the next line does is what the session does next.
pub reaches_next : (lines time : ℕ) (database : SessionDatabase) (start : SessionState) (progress : Progress) (text errors : List ℕ) (file : Option NewFile) (state : SessionState)
    → after_lines lines time database start ≡ Some progress → line_outcome time database progress.state ≡ continues text errors file state
    → after_lines (suc lines) time database start ≡ Some (record { text = progress.text ++ text; errors = progress.errors ++ errors; file = last_file progress.file file; state = state })
reaches_next lines time database start progress text errors file state h d =
    ap (option_and_then (λ (p : Progress). with_line p (line_outcome time database p.state))) h ∙ ap (with_line progress) d
