-- Calls whose words are a command that needs no database.
use Rattle.std.proofs.Common.{◌≡◌, ℕ, List, refl, inr, sym, ◌∙◌, ap, subst, true, false, Option, Some, None, Result, Ok, Err}
use Rattle.std.specs.Prelude.{IfErr, OnErr, OnOk}
use Rattle.cli_messages.specs.declared.answers.Refusal.{Refusal}
use Rattle.cli_messages.specs.declared.answers.Stop.{Stop}
use Rattle.cli_messages.specs.declared.answers.Stop.TheVariants.{Refused, FileFault, InputFault, NoMemory}
use Rattle.cli_messages.specs.Phases.{IsCaused, IsPlainStop, IsStreamStop, Leaves, Returns, StreamAnswer, TellsStream, with_left}
use Rattle.cli_self_test.specs.SelfTest.{self_test}
use Rattle.cli_profiles.specs.declared.profiles.PasswordProfile.{PasswordProfile}
use Rattle.cli_standalone.specs.declared.standalone.Standalone.{Standalone}
use Rattle.cli_standalone.specs.declared.standalone.Standalone.TheVariants.{Password, SelfTest}
use Rattle.cli_standalone.specs.Standalone.{standalone_of}
use Rattle.cli_parse.specs.Words.{command_of}
use Rattle.cli_needs.specs.declared.command.Command.{Command}
use Rattle.cli_writing.specs.Writing.{KeepsFiles, Store}
use Rattle.session_run.specs.CliCommands.declared.output.Output.{Output}
use Rattle.session_run.specs.CliCommands.SeenChange.{output_text}
use Rattle.cli_lines.proofs.Inputs.{left_alone}
use Rattle.session_run.specs.CallRun.Endings.{Ending, Ends, EndsRefused, EndsSo, ending_without}
use Rattle.call_input.specs.Reading.{asked_by, left_behind, left_of}
use Rattle.keepass_call.specs.Outcome.{World, draws_alone, draws_with, password_answer, printed, standalone_answer, standalone_or_command, test_answer}
use Rattle.keepass_call.proofs.Answered.{ends_left}
use Rattle.keepass_call.proofs.Pages.{standalone_words}
use Rattle.keepass_call.proofs.Passwords.{same}

-- ---- a password

-- The dice are asked.
told_dice : (dice : Option (List ℕ)) (d : List ℕ) → TellsStream true dice d → dice ≡ Some d
told_dice (Some left) d t = ap Some t
told_dice None d t = cc t

pub password_told : (standalone : Standalone) (profile : PasswordProfile) (result : Result Output Stop) (d : List ℕ) (s : Store) (old new : Option (List ℕ))
    → standalone ≡ Password profile → (old ≡ Some d → Ends result (password_answer profile d) s s old new) → TellsStream (draws_alone standalone) old d
    → Ends result (standalone_answer standalone d) s s old new
password_told standalone profile result d s old new is ends told =
    subst (λ (x : Standalone). Ends result (standalone_answer x d) s s old new) (sym is)
    (ends (told_dice old d (subst (λ (x : Standalone). TellsStream (draws_alone x) old d) is told)))

pub password_draws : (standalone : Standalone) (profile : PasswordProfile) → standalone ≡ Password profile → draws_alone standalone ≡ false → ⊥
password_draws standalone profile is h = cc (sym (ap draws_alone is) ∙ h)

-- ---- a test

-- What is printed is the text that is defined, and nothing is drawn.
printed_ends : (result : Result Output Stop) (defined : Result (List ℕ) Refusal) (d : List ℕ) (s : Store) (old : Option (List ℕ)) → Returns output_text result defined
    → TellsStream false old d → Ends result (with_left (printed defined) d) s s old old
printed_ends (Ok output) defined d s old h t =
    (record { ending = ending_without (output_text output); is = ap printed h; text = refl; store = same s }, left_alone false old d t)
printed_ends (Err (Refused refusal)) defined d s old h t = (record { is = ap printed h; same = same s }, left_alone false old d t)
printed_ends (Err (FileFault name)) defined d s old h t = tt
printed_ends (Err InputFault) defined d s old h t = tt
printed_ends (Err NoMemory) defined d s old h t = tt

test_ends : (result : Result Output Stop) (count : ℕ) (d : List ℕ) (s : Store) (old : Option (List ℕ)) → Returns output_text result (self_test count)
    → TellsStream false old d → Ends result (test_answer count d) s s old old
unfolding test_answer
test_ends result count d s old h t = printed_ends result (self_test count) d s old h t

pub test_told : (standalone : Standalone) (count : ℕ) (result : Result Output Stop) (d : List ℕ) (s : Store) (old : Option (List ℕ)) → standalone ≡ SelfTest count
    → Returns output_text result (self_test count) → TellsStream (draws_alone standalone) old d → Ends result (standalone_answer standalone d) s s old old
test_told standalone count result d s old is h told =
    subst (λ (x : Standalone). Ends result (standalone_answer x d) s s old old) (sym is)
    (test_ends result count d s old h (subst (λ (x : Standalone). TellsStream (draws_alone x) old d) is told))

pub plain_stream : (result : Result Output Stop) (faults : ℕ) → IfErr result IsPlainStop → IfErr result (IsStreamStop faults faults)
plain_stream (Ok output) faults h = tt
plain_stream (Err (Refused refusal)) faults h = h
plain_stream (Err (FileFault name)) faults h = absurd h
plain_stream (Err InputFault) faults h = absurd h
plain_stream (Err NoMemory) faults h = tt

pub nothing_failed : (result : Result Output Stop) (faults : ℕ) → OnOk result (faults ≡ faults)
nothing_failed (Ok output) faults = refl
nothing_failed (Err stop) faults = tt

-- ---- words that are such a command

pub asked_told : (standalone : Option Standalone) (given : Standalone) (words : List (List ℕ)) (time : ℕ) (world : World) (read : Result Command Refusal)
    (result : Result Output Stop) (s : Store) (old new : Option (List ℕ)) → standalone ≡ Some given → TellsStream (draws_with standalone read) old world.dice
    → ((d : List ℕ) (s : Store) → TellsStream (draws_alone given) old d → Ends result (standalone_answer given d) s s old new)
    → Ends result (standalone_or_command standalone words time world) s s old new
asked_told standalone given words time world read result s old new is t ends =
    subst (λ (p : Option Standalone). Ends result (standalone_or_command p words time world) s s old new) (sym is)
    (ends world.dice s (subst (λ (p : Option Standalone). TellsStream (draws_with p read) old world.dice) is t))

pub asked_undrawn : (standalone : Option Standalone) (given : Standalone) (read : Result Command Refusal) → standalone ≡ Some given → draws_with standalone read ≡ false
    → draws_alone given ≡ false
asked_undrawn standalone given read is h = sym (ap (λ (p : Option Standalone). draws_with p read) is) ∙ h

pub asked_none : (standalone : Option Standalone) (given : Standalone) → standalone ≡ Some given → standalone ≡ None → ⊥
asked_none standalone given is none = cc (sym is ∙ none)

pub asked_left : (words : List (List ℕ)) (standalone : Standalone) (result : Result Output Stop) (before : Option (List ℕ)) (input : List ℕ) → standalone_of words ≡ Some standalone
    → TellsStream (asked_by (command_of words)) before input → Leaves result before before (left_of words input)
asked_left words standalone result before input is t =
    let wrong = standalone_words words standalone is in
    subst (λ (r : Result Command Refusal). Leaves result before before (left_behind r input)) (sym wrong.1)
    (ends_left result before before input (left_alone (asked_by (command_of words)) before input t))

pub kept_same : (result : Result Output Stop) (s : Store) → OnErr result (KeepsFiles s s)
kept_same (Ok output) s = tt
kept_same (Err stop) s = record { files = refl; draft = inr (refl, refl) }

pub stream_caused : (result : Result Output Stop) (names : List (List ℕ)) (f a i d d' : ℕ) → IfErr result (IsStreamStop d d') → IfErr result (IsCaused names f f a a i i d d')
stream_caused (Ok output) names f a i d d' h = tt
stream_caused (Err (Refused refusal)) names f a i d d' h = λ e. absurd (h e)
stream_caused (Err (FileFault name)) names f a i d d' h = absurd h
stream_caused (Err InputFault) names f a i d d' h = inr h
stream_caused (Err NoMemory) names f a i d d' h = tt
