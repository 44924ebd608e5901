-- What a session opened is what the files hold.
use Rattle.std.proofs.Common.{◌≡◌, ℕ, Bool, List, Option, Some, Result, Ok, Err, refl, sym, ◌∙◌, ap, subst}
use Rattle.std.specs.Prelude.{option_map}
use Rattle.outside_core.specs.Files.{FileMap}
use Rattle.cli_messages.specs.declared.answers.Refusal.{Refusal}
use Rattle.cli_messages.specs.declared.answers.Stop.{Stop}
use Rattle.cli_messages.specs.declared.answers.Stop.TheVariants.{Refused, FileFault, InputFault, NoMemory}
use Rattle.cli_messages.specs.Phases.{IsLeft, RefusesAskedStream, Returns, ReturnsStream, StreamAnswer, TellsStream, after_left, with_left}
use Rattle.cli_needs.specs.Needs.{Needs}
use Rattle.cli_lines.specs.Lines.{Lines, lines_of}
use Rattle.cli_lines.proofs.Having.{lines_have}
use Rattle.cli_databases.specs.CliFiles.Files.{Opened}
use Rattle.cli_databases.specs.CliFiles.SeenOpened.{opened_seen}
use Rattle.cli_databases.specs.CliFiles.declared.documents.Opened as memory
use Rattle.cli_databases.proofs.CliFiles.HeldKeys.{in_turn}
use Rattle.cli_databases.specs.Databases.{databases_of}
use Rattle.cli_databases.proofs.HeldFiles.{databases_held}
use Rattle.cli_sessions.specs.declared.opening.SessionDatabase.{SessionDatabase}
use Rattle.session_opening.specs.Opening.{HoldsSession, opened_by, opening_needs, session_opened}

ok_is : {A : Type 0} (a b : A) → ◌≡◌ {A = Result A Refusal} (Ok a) (Ok b) → a ≡ b
ok_is a b h = cc

-- The files hold it.
pub holds_opened : (database : SessionDatabase) (input : List ℕ) (files : FileMap) (opened : Opened) → (session_opened database input files).answer ≡ Ok opened
    → HoldsSession database input files opened
unfolding session_opened
holds_opened database input files opened h = by (lines_of (opening_needs database) input).answer refl h
  where
    left : List ℕ
    left = (lines_of (opening_needs database) input).left

    by : (answer : Result Lines Refusal) → (lines_of (opening_needs database) input).answer ≡ answer
        → (after_left answer left (λ lines left. with_left (opened_by database lines files) left)).answer ≡ Ok opened → HoldsSession database input files opened
    by (Ok lines) e h =
        let d = in_turn (databases_of (opening_needs database) lines files) (λ databases. Ok databases.target) opened h in
        record {
          lines = lines;
          are_lines = e;
          databases = d.0;
          is_target = ok_is d.0.target opened d.1.1;
          hold = databases_held (opening_needs database) lines files d.0 (lines_have (opening_needs database) input lines e) d.1.0;
        }
    by (Err refusal) e h = cc h

-- ---- phase after phase

-- All of a stream is left that reports it.
pub tells_some : (asked : Bool) (left : Option (List ℕ)) (i : List ℕ) → left ≡ Some i → TellsStream asked left i
tells_some asked left i e = subst (λ (s : Option (List ℕ)). TellsStream asked s i) (sym e) refl

some_left : (before now : Option (List ℕ)) (i left : List ℕ) → before ≡ Some i → IsLeft before now left → now ≡ Some left
some_left before now i left b h = h ∙ ap (option_map (λ (l : List ℕ). left)) b

module _ (database : SessionDatabase) (i : List ℕ) (files : FileMap) where
  -- The lines were there.
  by_lines : (lines : Lines) → (lines_of (opening_needs database) i).answer ≡ Ok lines
      → session_opened database i files ≡ with_left (opened_by database lines files) (lines_of (opening_needs database) i).left
  unfolding session_opened
  by_lines lines e =
      ap (λ (r : Result Lines Refusal). after_left r (lines_of (opening_needs database) i).left (λ lines left. with_left (opened_by database lines files) left)) e

  by_refusal : (refusal : Refusal) → (lines_of (opening_needs database) i).answer ≡ Err refusal
      → session_opened database i files ≡ with_left (Err refusal) (lines_of (opening_needs database) i).left
  unfolding session_opened
  by_refusal refusal e =
      ap (λ (r : Result Lines Refusal). after_left r (lines_of (opening_needs database) i).left (λ lines left. with_left (opened_by database lines files) left)) e

  opened_so : (lines : Lines) (result : Result memory.Opened Stop) (left : Option (List ℕ)) (over : List ℕ) → left ≡ Some over
      → Returns opened_seen result (opened_by database lines files) → ReturnsStream opened_seen result left (with_left (opened_by database lines files) over)
  opened_so lines (Ok opened) left over l h = (h, l)
  opened_so lines (Err (Refused refusal)) left over l h = (h, l)
  opened_so lines (Err (FileFault name)) left over l h = tt
  opened_so lines (Err InputFault) left over l h = tt
  opened_so lines (Err NoMemory) left over l h = tt

  -- A database was opened, or not, after the lines were read.
  pub opened_told : (needs : Needs) (lines : Lines) (result : Result memory.Opened Stop) (before left : Option (List ℕ)) → needs ≡ opening_needs database → before ≡ Some i
      → ((lines_of needs i).answer ≡ Ok lines) × IsLeft before left (lines_of needs i).left → Returns opened_seen result (opened_by database lines files)
      → ReturnsStream opened_seen result left (session_opened database i files)
  opened_told needs lines result before left n b read h =
      let said = subst (λ (n : Needs). ((lines_of n i).answer ≡ Ok lines) × IsLeft before left (lines_of n i).left) n read in
      subst (λ (a : StreamAnswer Opened). ReturnsStream opened_seen result left a) (sym (by_lines lines said.0))
      (opened_so lines result left (lines_of (opening_needs database) i).left (some_left before left i _ b said.1) h)

  -- The lines were not there.
  pub lines_told : (stop : Stop) (needs : Needs) (before left : Option (List ℕ)) → needs ≡ opening_needs database → before ≡ Some i
      → RefusesAskedStream stop before left (lines_of needs i) → ReturnsStream {X = memory.Opened} opened_seen (Err stop) left (session_opened database i files)
  lines_told (Refused refusal) needs before left n b h =
      let said = subst (λ (n : Needs). ((lines_of n i).answer ≡ Err refusal) × IsLeft before left (lines_of n i).left) n h in
      subst (λ (a : StreamAnswer Opened). (a.answer ≡ Err refusal) × (left ≡ Some a.left)) (sym (by_refusal refusal said.0))
      (refl, some_left before left i _ b said.1)
  lines_told (FileFault name) needs before left n b h = tt
  lines_told InputFault needs before left n b h = tt
  lines_told NoMemory needs before left n b h = tt
