-- What a call that was carried out rests on: files that hold what was used of them, speaking of all
-- their bytes.
use Rattle.std.specs.Prelude.{◌≡◌, ℕ, List, ◌⊎◌, Ok, Some}
use Rattle.cli_needs.specs.Needs.{needs_of}
use Rattle.cli_standalone.specs.declared.standalone.Standalone.{Standalone}
use Rattle.cli_parse.specs.Words.{command_of}
use Rattle.cli_standalone.specs.Standalone.{standalone_of}
use Rattle.cli_lines.specs.Lines.{lines_of}
use Rattle.call_input.specs.Attaching.{attached_for}
use Rattle.call_input.specs.Opening.{HoldCommandDatabases}
use Rattle.session_run.specs.CliCommands.Commands.{Change}
use Rattle.session_run.specs.CallRun.Endings.{Ending, ReadsBack, Stores, carried_out, change_of_task, targets_of}
use Rattle.cli_reporting.specs.Reporting.{Gains}
use Rattle.keepass_call.specs.Outcome.{Counts, NoFaults, Seen, World, standalone_answer}
use Rattle.cli_files.specs.Tasks.{Task, databases_in}

-- The words are the task's command, its lines are those that are due, and the files hold its
-- databases by them, or what the command makes its database of, and the bytes of the file that it
-- puts into its database.
pub record IsTask (words : List (List ℕ)) (time : ℕ) (world : World) (task : Task) : Type 0 where
  pub is_command : command_of words ≡ Ok task.command
  pub are_lines : (lines_of (needs_of task.command) world.input).answer ≡ Ok task.lines
  pub holds : HoldCommandDatabases task.command task.lines time world.files (databases_in task)
  pub attaches : attached_for task.command world.files ≡ Ok task.attached

-- The words are a task that ends so.
pub record IsCarried (words : List (List ℕ)) (time : ℕ) (world : World) (ending : Ending) : Type 0
  where
    pub task : Task
    pub is_task : IsTask words time world task
    pub gives : (carried_out time task world.dice).answer ≡ Ok ending

-- What was printed is what the command makes of the documents that the files hold; and where it
-- writes, the file that it is defined to write was written, and holds the document that the same
-- change makes: by itself, or sealed under the composite key that opened the old one or that the
-- words ask for; or it is the attachment that is taken out, byte for byte.
pub record IsAuthentic (words : List (List ℕ)) (time : ℕ) (world : World) (before now : Seen) :
    Type 0 where
  pub task : Task
  pub is_task : IsTask words time world task
  pub change : Change
  pub makes : (change_of_task time task world.dice).answer ≡ Ok change
  pub text : Gains before.written now.written change.text
  pub reads_back : ReadsBack (targets_of task.command) task.opened.sealing change before.store
      now.store
  pub ending : Ending
  pub ends : (carried_out time task world.dice).answer ≡ Ok ending
  pub file : Stores ending.file before.store now.store

-- What the command makes of the documents that the files hold is in the file that it is to write:
-- by itself, or sealed under the composite key that opened the old one or that the words ask for.
pub record WritesTask (words : List (List ℕ)) (time : ℕ) (world : World) (before now : Seen) :
    Type 0 where
  pub task : Task
  pub is_task : IsTask words time world task
  pub change : Change
  pub makes : (change_of_task time task world.dice).answer ≡ Ok change
  pub reads_back : ReadsBack (targets_of task.command) task.opened.sealing change before.store
      now.store

-- The words are a command that needs no database, which ends so.
pub record IsCarriedAlone (words : List (List ℕ)) (world : World) (ending : Ending) : Type 0 where
  pub standalone : Standalone
  pub asks : standalone_of words ≡ Some standalone
  pub gives : (standalone_answer standalone world.dice).answer ≡ Ok ending

-- Where the words can be carried out, with a database or without one, and no count of faults rose,
-- the status is 0, or memory ran out.
abbrev pub IsComplete : List (List ℕ) → ℕ → World → ℕ → Counts → Counts → Type 0
IsComplete words time world result before now =
    (ending : Ending) → IsCarried words time world ending ⊎ IsCarriedAlone words world ending
    → NoFaults before now → (result ≡ 0) ⊎ (result ≡ 9)
