-- A session is its lines as single calls.
use Rattle.std.proofs.Common.{◌≡◌, ℕ, zero, suc, List, [], ◌∷◌, Option, Some, refl, sym, ap, subst, ◌∙◌}
use Rattle.std.specs.Prelude.{◌≢◌}
use Rattle.outside_core.specs.Files.{FileMap}
use Rattle.session_core.specs.Sessions.{LineOutcome, SessionOutcome, SessionState, after_limit, continues, ends, line_outcome, session, session_from, session_line_limit, then_rest, with_before}
use Rattle.cli_sessions.specs.declared.opening.SessionDatabase.{SessionDatabase}
use Rattle.session_core.proofs.FileNames.{line_file_name}
use Rattle.session_laws.specs.Calls.{CallOutcome, CallsOutcome, after_output, call_outcome, calls_at_limit, calls_from, files_after, then_calls}
use Rattle.session_core.specs.ReadsBack.{IfContinues, LinesReadBack}
use Rattle.session_laws.specs.SessionLaws.{IsOwnFile, LinesWriteTheirOwnFile, SessionsAreTheirLines, calls_at, over_files}
use Rattle.session_laws.proofs.Files.{later_left, later_named}
use Rattle.session_laws.proofs.Lines.{KeepsFiles, line_keeps, over_line, same_line}
use Rattle.session_laws.proofs.Opening.{Reopened, from_files, in_files}

-- What a session results in is what calls do, and the files hold its database then.
record Agrees (database : SessionDatabase) (password : Option (List ℕ)) (files : FileMap) (outcome : SessionOutcome) (calls : CallsOutcome) : Type 0 where
  pub same : over_files files outcome ≡ calls
  pub own : IsOwnFile database outcome.file
  pub holds : Reopened database password (files_after files outcome.file) outcome.opened

module _ (time : ℕ) (database : SessionDatabase) (password : Option (List ℕ)) (apart : database.access.key_file ≢ Some database.file) where
  at_limit : (files : FileMap) (state : SessionState) (input : List ℕ) → Reopened database password files state.opened
      → Agrees database password files (after_limit state input) (calls_at_limit (calls_at files state) input)
  at_limit files state [] r = record { same = refl; own = tt; holds = r }
  at_limit files state (b ∷ rest) r = record { same = refl; own = tt; holds = r }

  -- The same of the rest of a session, after any line.
  abbrev AgreesAfter : ℕ → Type 0
  AgreesAfter most = (files : FileMap) (state : SessionState) → Reopened database password files state.opened → LinesReadBack most time database state
      → Agrees database password files (session_from most time database state) (calls_from most time database password (calls_at files state))

  -- A line, and then the rest.
  with_line : (most : ℕ) → AgreesAfter most → (files : FileMap) (line : LineOutcome) (call : CallOutcome) → over_line files line ≡ call
      → KeepsFiles database password files line → IfContinues line (LinesReadBack most time database)
      → Agrees database password files (then_rest line (session_from most time database)) (then_calls call (calls_from most time database password))
  with_line most rest files (ends outcome) call e keeps reads = record {
    same = ap (λ (c : CallOutcome). then_calls c (calls_from most time database password)) e;
    own = keeps.0;
    holds = keeps.1;
  }
  with_line most rest files (continues text errors file after) call e keeps reads =
      let a = rest (files_after files file) after keeps.1 reads in
      let outcome : SessionOutcome = session_from most time database after in
      let left = later_left files database.file file outcome.file keeps.0 a.own in
      let together : over_files files (with_before text errors file outcome) ≡ after_output text errors (over_files (files_after files file) outcome) =
      λ i. record (over_files files (with_before text errors file outcome)) { files = left i } in
      record {
        same = together ∙ ap (after_output text errors) a.same ∙ ap (λ (c : CallOutcome). then_calls c (calls_from most time database password)) e;
        own = later_named database.file file outcome.file keeps.0 a.own;
        holds = subst (λ (now : FileMap). Reopened database password now outcome.opened) (sym left) a.holds;
      }

  all_lines : (most : ℕ) → AgreesAfter most
  all_lines zero files state r reads = at_limit files state state.input r
  all_lines (suc most) files state r reads =
      with_line most (all_lines most) files (line_outcome time database state) (call_outcome time database password (calls_at files state))
      (same_line time database password apart files state r)
      (line_keeps time database password apart files state r reads.0) reads.1

pub are_their_lines : SessionsAreTheirLines
are_their_lines time database password files state holds apart reads =
    let a = all_lines time database password apart session_line_limit files state (from_files time database password files state.opened holds) reads in
    let outcome : SessionOutcome = session time database state in
    record { same = a.same; own = a.own; holds = in_files time database password (files_after files outcome.file) outcome.opened a.holds }

pub own_file : LinesWriteTheirOwnFile
own_file time database state after text errors file e = line_file_name time database state text errors file after e
