-- A line of a session is a call in words.
use Rattle.std.proofs.Common.{◌≡◌, ℕ, List, Result, Ok, sym, ap, ◌∙◌}
use Rattle.outside_core.specs.Files.{FileMap}
use Rattle.outside_core.specs.Results.{◌>>=◌}
use Rattle.cli_messages.specs.declared.answers.Refusal.{Refusal}
use Rattle.cli_messages.specs.Phases.{then_left, with_left}
use Rattle.cli_needs.specs.declared.command.Command.{Command}
use Rattle.cli_needs.specs.Needs.{needs_of}
use Rattle.cli_parse.specs.Words.{command_of}
use Rattle.cli_lines.specs.Lines.{Lines, lines_of}
use Rattle.cli_files.specs.Tasks.{Task}
use Rattle.cli_sessions.proofs.Calls.{line_is_call}
use Rattle.call_input.specs.Reading.{opened_task, task_of}
use Rattle.call_run.specs.Endings.{carried_out}
use Rattle.keepass_call.specs.Outcome.{command_answer}
use Rattle.line_laws.specs.LineCalls.{LinesAreCallsInWords, LinesAreSingleCalls, call_words}

-- The task of words that are a command is what it opens with its lines.
task_is : (words : List (List ℕ)) (command : Command) (lines : Lines) (time : ℕ) (input : List ℕ) (files : FileMap)
    → command_of words ≡ Ok command → (lines_of (needs_of command) input).answer ≡ Ok lines
    → task_of words time input files ≡ opened_task command lines time files
unfolding task_of
task_is words command lines time input files c p =
    ap (λ r. r >>= λ command. (lines_of (needs_of command) input).answer >>= λ lines. opened_task command lines time files) c
    ∙ ap (λ r. r >>= λ lines. opened_task command lines time files) p

pub single_calls : LinesAreSingleCalls
unfolding command_answer
single_calls words command lines time world c p =
    ap (λ (task : Result Task Refusal). then_left (with_left task world.dice) (carried_out time))
    (task_is words command lines time world.input world.files c p)

pub calls_in_words : LinesAreCallsInWords
calls_in_words access file name words called command lines time world named fits no_option settled is p =
    single_calls (call_words access file name words) command lines time world
    (sym (line_is_call access file name words called named fits no_option settled) ∙ is) p
