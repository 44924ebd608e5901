-- A password that a call prints.
use Rattle.std.proofs.Common.{◌≡◌, ◌++◌, ℕ, List, refl, sym, ap, subst, Option, Some, Result, Ok, Err}
use Rattle.std.specs.Prelude.{IfErr, IfOk, codes, OnOk}
use Rattle.cli_messages.specs.declared.answers.Refusal.{Refusal}
use Rattle.cli_messages.specs.declared.answers.Stop.{Stop}
use Rattle.cli_messages.specs.declared.answers.Stop.TheVariants.{Refused, FileFault, InputFault, NoMemory}
use Rattle.cli_messages.specs.Phases.{IsLeft, IsMemoryStop, IsStreamStop, RefusesStream, StreamAnswer, then_left, with_left}
use Rattle.cli_profiles.specs.declared.profiles.PasswordProfile.{PasswordProfile}
use Rattle.cli_generating.specs.Generated.{generated}
use Rattle.cli_writing.specs.Writing.{IsSame, Store}
use Rattle.session_run.specs.CliCommands.declared.output.Output.{Output}
use Rattle.session_run.specs.CliCommands.SeenChange.{output_text}
use Rattle.cli_lines.proofs.Inputs.{left_so}
use Rattle.session_run.specs.CallRun.Endings.{Ending, Ends, EndsRefused, EndsSo}
use Rattle.keepass_call.specs.Outcome.{password_answer, printed_password}

-- What a password that is chosen ends a call with.
chosen_is : (profile : PasswordProfile) (d password : List ℕ) → (generated profile.alphabet profile.length d).answer ≡ Ok password
    → password_answer profile d ≡ with_left (Ok (printed_password password)) (generated profile.alphabet profile.length d).left
unfolding password_answer
chosen_is profile d password h =
    ap (λ (r : Result (List ℕ) Refusal). then_left (with_left r (generated profile.alphabet profile.length d).left)
    (λ password left. with_left (Ok (printed_password password)) left)) h

refused_is : (profile : PasswordProfile) (d : List ℕ) (refusal : Refusal) → (generated profile.alphabet profile.length d).answer ≡ Err refusal
    → password_answer profile d ≡ with_left (Err refusal) (generated profile.alphabet profile.length d).left
unfolding password_answer
refused_is profile d refusal h =
    ap (λ (r : Result (List ℕ) Refusal). then_left (with_left r (generated profile.alphabet profile.length d).left)
    (λ password left. with_left (Ok (printed_password password)) left)) h

pub same : (s : Store) → IsSame s s
same s = record { files = refl; draft_name = refl; draft_bytes = refl }

-- A password was chosen, and is printed, or memory ran out.
pub password_ends : (result : Result Output Stop) (profile : PasswordProfile) (d password : List ℕ) (s : Store) (old new : Option (List ℕ)) → old ≡ Some d
    → (generated profile.alphabet profile.length d).answer ≡ Ok password → new ≡ Some (generated profile.alphabet profile.length d).left
    → IfOk result (λ output. output_text output ≡ password ++ codes "\n") → IfErr result IsMemoryStop
    → Ends result (password_answer profile d) s s old new
password_ends (Ok output) profile d password s old new told is left text memory =
    subst (λ (a : StreamAnswer Ending). EndsSo (output_text output) a.answer s s × IsLeft old new a.left) (sym (chosen_is profile d password is))
    (record { ending = printed_password password; is = refl; text = text; store = same s }, left_so old new d (generated profile.alphabet profile.length d).left told left)
password_ends (Err (Refused refusal)) profile d password s old new told is left text memory = absurd memory
password_ends (Err (FileFault name)) profile d password s old new told is left text memory = absurd memory
password_ends (Err InputFault) profile d password s old new told is left text memory = absurd memory
password_ends (Err NoMemory) profile d password s old new told is left text memory = tt

-- The dice chose none.
pub password_refused : (stop : Stop) (profile : PasswordProfile) (d : List ℕ) (s : Store) (old new : Option (List ℕ)) → old ≡ Some d
    → RefusesStream stop new (generated profile.alphabet profile.length d) → Ends (Err stop) (password_answer profile d) s s old new
password_refused (Refused refusal) profile d s old new told h =
    subst (λ (a : StreamAnswer Ending). EndsRefused refusal a.answer s s × IsLeft old new a.left) (sym (refused_is profile d refusal h.0))
    (record { is = refl; same = same s }, left_so old new d (generated profile.alphabet profile.length d).left told h.1)
password_refused (FileFault name) profile d s old new told h = tt
password_refused InputFault profile d s old new told h = tt
password_refused NoMemory profile d s old new told h = tt

-- Once the password is chosen, nothing more is drawn.
pub faultless_text : (result : Result Output Stop) (faults faults' : ℕ) → faults' ≡ faults → OnOk result (faults' ≡ faults)
faultless_text (Ok output) faults faults' same = same
faultless_text (Err stop) faults faults' same = tt

pub memory_stream : (result : Result Output Stop) (faults faults' : ℕ) → IfErr result IsMemoryStop → IfErr result (IsStreamStop faults faults')
memory_stream (Ok output) faults faults' h = tt
memory_stream (Err (Refused refusal)) faults faults' h = absurd h
memory_stream (Err (FileFault name)) faults faults' h = absurd h
memory_stream (Err InputFault) faults faults' h = absurd h
memory_stream (Err NoMemory) faults faults' h = tt
