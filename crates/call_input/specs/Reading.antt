-- What words ask for: the task that a call is to carry out, and what is left of its input.
use Rattle.std.specs.Prelude.{◌≡◌, ℕ, Bool, false, List, Result, Ok, Err}
use Rattle.outside_core.specs.Files.{FileMap}
use Rattle.outside_core.specs.Results.{◌>>=◌}
use Rattle.cli_messages.specs.declared.answers.Refusal.{Refusal}
use Rattle.cli_needs.specs.declared.command.Command.{Command}
use Rattle.cli_needs.specs.Needs.{asks_line, needs_of}
use Rattle.cli_parse.specs.Words.{command_of}
use Rattle.cli_lines.specs.Lines.{HasLines, Lines, lines_of}
use Rattle.call_input.specs.Attaching.{SomeAttached, attached_for}
use Rattle.call_input.specs.Opening.{SomeCommandDatabases, databases_for}
use Rattle.cli_resealing.specs.CliFiles.Tasks.{Task, databases_in, task_with}

-- The task of a command at a moment by the lines that it asked for: with the databases that it names,
-- or the one that it makes, and then the bytes of the file that it puts into its database.
abbrev pub opened_task : Command → Lines → ℕ → FileMap → Result Task Refusal
opened_task command lines time files = do
  databases ← databases_for command lines time files
  attached ← attached_for command files
  Ok (task_with command lines databases attached)

-- What these words ask for at a moment over this input and these files: the command, the lines that
-- are due, and what is opened for both.
unfoldable pub task_of : List (List ℕ) → ℕ → List ℕ → FileMap → Result Task Refusal
task_of words time input files = do
  command ← command_of words
  lines ← (lines_of (needs_of command) input).answer
  opened_task command lines time files

-- Whether words ask for a line.
abbrev pub asked_by : Result Command Refusal → Bool
asked_by (Ok command) = asks_line (needs_of command)
asked_by (Err refusal) = false

-- What is left of the input after the lines that a command asks for.
abbrev pub left_behind : Result Command Refusal → List ℕ → List ℕ
left_behind (Ok command) input = (lines_of (needs_of command) input).left
left_behind (Err refusal) input = input

-- What is left of the input after the lines that the words ask for.
abbrev pub left_of : List (List ℕ) → List ℕ → List ℕ
left_of words input = left_behind (command_of words) input

-- The words ask for this task at a moment, whose databases some files hold, under lines of which
-- each is there that is due.
pub record HasSomeFile (words : List (List ℕ)) (time : ℕ) (task : Task) : Type 0 where
  pub is_command : command_of words ≡ Ok task.command
  pub has_lines : HasLines (needs_of task.command) task.lines
  pub holds : SomeCommandDatabases task.command task.lines time (databases_in task)
  pub attaches : SomeAttached task.command task.attached
