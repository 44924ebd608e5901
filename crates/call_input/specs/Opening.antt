-- The databases of a command: those that it opens, or the one that it makes.
use Rattle.std.specs.Prelude.{◌≡◌, ℕ, List, [], None, Result, Ok}
use Rattle.std.specs.FinMap as map
use Rattle.outside_core.specs.Files.{FileMap}
use Rattle.outside_core.specs.Results.{◌>>=◌}
use Rattle.cli_messages.specs.declared.answers.Refusal.{Refusal}
use Rattle.cli_needs.specs.declared.command.Command.{Command}
use Rattle.cli_needs.specs.Needs as from
use Rattle.cli_needs.specs.Needs.{Needs, Origin, needs_of, origin_of}
use Rattle.cli_lines.specs.Lines.{Lines}
use Rattle.cli_resealing.specs.CliFiles.Files.{Databases, Opened}
use Rattle.cli_resealing.specs.CliDatabases.Databases.{databases_of}
use Rattle.cli_resealing.specs.CliDatabases.Held.{HoldDatabases}
use Rattle.cli_resealing.specs.CliDatabases.SomeFiles.{SomeDatabases}
use Rattle.cli_resealing.specs.CliImporting.Held.{HoldsImport, SomeImport}
use Rattle.cli_resealing.specs.CliImporting.Imports.{imported_of, refuse_file}
use Rattle.cli_resealing.specs.Created.{created_of}
use Rattle.cli_resealing.specs.Edited.{edited_of}
use Rattle.cli_resealing.specs.Held.{HoldsCreated, HoldsEdited, SomeCreated, SomeEdited}

-- ---- what is defined

-- A database without sources beside it.
abbrev pub one_database : Opened → Databases
one_database opened = record { target = opened; sources = [] }

-- The same, or the refusal.
abbrev pub alone : Result Opened Refusal → Result Databases Refusal
alone made = made >>= λ opened. Ok (one_database opened)

-- The databases of a command that makes a new file of something in them. No file may have its name,
-- before any is opened.
abbrev pub databases_beside : List ℕ → Needs → Lines → FileMap → Result Databases Refusal
databases_beside to needs lines files =
    refuse_file to (map.get files to) >>= λ absent. databases_of needs lines files

-- The databases of a command at a moment by where they come from.
abbrev pub databases_by : Origin → Needs → Lines → ℕ → FileMap → Result Databases Refusal
databases_by from.Opened needs lines time files = databases_of needs lines files
databases_by (from.Exported to) needs lines time files = databases_beside to needs lines files
databases_by (from.Attached source) needs lines time files = databases_of needs lines files
databases_by (from.Imported import) needs lines time files =
    alone (imported_of import lines time files)
databases_by (from.Created create) needs lines time files =
    alone (created_of create lines time files)
databases_by (from.Changed change) needs lines time files =
    alone (edited_of needs change lines files)

-- The databases of a command at a moment, by the lines that it asked for.
abbrev pub databases_for : Command → Lines → ℕ → FileMap → Result Databases Refusal
databases_for command lines time files =
    databases_by (origin_of command) (needs_of command) lines time files

-- ---- what the files hold

-- The files hold the databases of a command by where they come from.
abbrev pub HoldByOrigin : Origin → Needs → Lines → ℕ → FileMap → Databases → Type 0
HoldByOrigin from.Opened needs lines time files databases =
    HoldDatabases needs lines files databases
HoldByOrigin (from.Exported to) needs lines time files databases =
    (map.get files to ≡ None) × HoldDatabases needs lines files databases
HoldByOrigin (from.Attached source) needs lines time files databases =
    HoldDatabases needs lines files databases
HoldByOrigin (from.Imported import) needs lines time files databases =
    HoldsImport import lines time files databases.target × (databases.sources ≡ [])
HoldByOrigin (from.Created create) needs lines time files databases =
    HoldsCreated create lines time files databases.target × (databases.sources ≡ [])
HoldByOrigin (from.Changed change) needs lines time files databases =
    HoldsEdited needs change lines files databases.target × (databases.sources ≡ [])

-- The files hold the databases of a command at a moment.
abbrev pub HoldCommandDatabases : Command → Lines → ℕ → FileMap → Databases → Type 0
HoldCommandDatabases command lines time files databases =
    HoldByOrigin (origin_of command) (needs_of command) lines time files databases

-- ---- the same of some files, whatever the store reports

-- Some bytes hold the databases of a command by where they come from.
abbrev pub SomeByOrigin : Origin → Needs → Lines → ℕ → Databases → Type 0
SomeByOrigin from.Opened needs lines time databases = SomeDatabases needs lines databases
SomeByOrigin (from.Exported to) needs lines time databases = SomeDatabases needs lines databases
SomeByOrigin (from.Attached source) needs lines time databases =
    SomeDatabases needs lines databases
SomeByOrigin (from.Imported import) needs lines time databases =
    SomeImport import lines time databases.target × (databases.sources ≡ [])
SomeByOrigin (from.Created create) needs lines time databases =
    SomeCreated create lines time databases.target × (databases.sources ≡ [])
SomeByOrigin (from.Changed change) needs lines time databases =
    SomeEdited needs change lines databases.target × (databases.sources ≡ [])

-- Some bytes hold the databases of a command at a moment.
abbrev pub SomeCommandDatabases : Command → Lines → ℕ → Databases → Type 0
SomeCommandDatabases command lines time databases =
    SomeByOrigin (origin_of command) (needs_of command) lines time databases
