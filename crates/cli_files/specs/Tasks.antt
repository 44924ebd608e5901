-- What a call is to do: its command, the lines that this asked for, and the databases that were
-- opened.
use Rattle.std.specs.Prelude.{◌&&◌, ◌||◌, ℕ, is_some, Bool, true, false, not, List, Option, Result, Ok, Err}
use Rattle.vault_model.specs.Tree.{BareDoc}
use Rattle.cli_messages.specs.declared.answers.Refusal.{Refusal}
use Rattle.cli_lines.specs.CliNeeds.declared.command.Command.{Command}
use Rattle.cli_lines.specs.CliNeeds.declared.command.Command.TheVariants.{Ls, Show, History, Search, Add, Edit, Restore, ExportAttachment, ImportAttachment, RemoveAttachment, Move, Remove, MakeGroup, RemoveGroup, Merge, Import, Create, Export, EditFile, Info}
use Rattle.cli_lines.specs.Lines.{Lines}
use Rattle.cli_files.specs.Files.{Databases, Opened}

-- What a call is to do: its command, the lines that this asked for, the database that was opened
-- for it, the documents of its sources, and the bytes of the file that is put into the database,
-- where there is one.
pub record Task : Type 0 where
  pub command : Command
  pub lines : Lines
  pub opened : Opened
  pub sources : List BareDoc
  pub attached : Option (List ℕ)

-- The databases of a task.
abbrev pub databases_in : Task → Databases
databases_in task = record { target = task.opened; sources = task.sources }

-- A task of this command, these lines, these databases and the bytes of such a file.
abbrev pub task_with : Command → Lines → Databases → Option (List ℕ) → Task
task_with command lines databases attached = record {
  command = command;
  lines = lines;
  opened = databases.target;
  sources = databases.sources;
  attached = attached;
}

-- A command draws: for the id of a node that it may make, for a password that is generated, and for
-- a sealed file.
abbrev pub draws : Command → Bool
draws (Ls access file group recursive flat ids) = false
draws (Show access file entry clear all attachments names totp at) = false
draws (History access file entry) = false
draws (Search access file term) = false
draws (Add access file entry asked) = true
draws (Edit access file entry asked further) = not access.plain || is_some asked.generated
draws (Restore access file entry version) = not access.plain
draws (ExportAttachment access file entry name to) = false
draws (ImportAttachment access file entry name source replaces) = not access.plain
draws (RemoveAttachment access file entry name) = not access.plain
draws (Move access file node group) = not access.plain
draws (Remove access file entry) = true
draws (MakeGroup access file group) = true
draws (RemoveGroup access file group) = true
draws (Merge access file names from same dry details) = not dry && not access.plain
draws (Import access format source from file) = not access.plain
draws (Create access file name cipher kdf) = true
draws (Export access format file) = false
draws (EditFile access file change) = not access.plain
draws (Info access file) = false

-- Whether words are a command that draws.
abbrev pub draws_by : Result Command Refusal → Bool
draws_by (Ok command) = draws command
draws_by (Err refusal) = false
