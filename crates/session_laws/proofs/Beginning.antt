-- A session begins on a database that the files hold.
use Rattle.std.proofs.Common.{◌≡◌, ℕ, List, Result, Ok, Err, refl, ap, ◌∙◌}
use Rattle.cli_messages.specs.declared.answers.Refusal.{Refusal}
use Rattle.cli_messages.specs.Phases.{StreamAnswer, after_left, with_left}
use Rattle.cli_lines.specs.Lines.{Lines, lines_of}
use Rattle.cli_files.specs.Files.{Databases, Opened}
use Rattle.cli_files.proofs.HeldKeys.{in_turn}
use Rattle.call_input.specs.CliDatabases.Databases.{databases_of}
use Rattle.call_input.proofs.CliDatabases.HeldFiles.{database_held}
use Rattle.session_opening.specs.Opening.{opened_by, opening_needs, session_opened}
use Rattle.session_laws.specs.SessionLaws.{SessionsBeginInFiles}
use Rattle.session_laws.proofs.Opening.{in_files, target_opened}

-- A phase that gave something, and the one after it.
given_first : {A B : Type 0} (answer : Result A Refusal) (left : List ℕ) (next : A → List ℕ → StreamAnswer B) (b : B) → (after_left answer left next).answer ≡ Ok b
    → (a : A) × ((answer ≡ Ok a) × ((next a left).answer ≡ Ok b))
given_first (Ok a) left next b h = (a, (refl, h))
given_first (Err refusal) left next b h = cc

same_opened : (one other : Opened) → ◌≡◌ {A = Result Opened Refusal} (Ok one) (Ok other) → one ≡ other
same_opened one other h = cc

pub begins : SessionsBeginInFiles
unfolding session_opened
begins time database input files opened h =
    let needs = opening_needs database in
    let l = given_first {A = Lines} {B = Opened} (lines_of needs input).answer (lines_of needs input).left (λ lines left. with_left (opened_by database lines files) left) opened h in
    let d = in_turn {A = Databases} {B = Opened} (databases_of needs l.0 files) (λ databases. Ok databases.target) opened l.1.1 in
    let is = target_opened needs l.0 files d.0 d.1.0 ∙ ap Ok (same_opened d.0.target opened d.1.1) in (
      l.0,
      (
        l.1.0,
        in_files time database l.0.password files opened
            (record { target = opened; holds = database_held needs l.0.password files opened is; alike = refl }),
      ),
    )
