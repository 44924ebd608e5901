-- The file that is put into a database.
use Rattle.std.specs.Prelude.{◌≡◌, ℕ, Bool, true, false, is_some, List, Option, None, Some, Result, Ok}
use Rattle.std.specs.FinMap as map
use Rattle.outside_core.specs.Files.{FileMap}
use Rattle.outside_core.specs.Results.{◌>>=◌}
use Rattle.cli_messages.specs.declared.answers.Refusal.{Refusal}
use Rattle.cli_resealing.specs.CliFiles.Files.{of_file}
use Rattle.cli_needs.specs.declared.command.Command.{Command}
use Rattle.cli_needs.specs.Needs.{Attached, Origin, origin_of}

-- The bytes of the file of this name, which is there and not too large.
abbrev pub bytes_in : List ℕ → FileMap → Result (List ℕ) Refusal
bytes_in name files = of_file name (λ bytes. Ok bytes) (map.get files name)

-- The bytes of the file that is put into a database, where one is.
abbrev pub attached_by : Origin → FileMap → Result (Option (List ℕ)) Refusal
attached_by (Attached source) files = bytes_in source files >>= λ bytes. Ok (Some bytes)
attached_by origin files = Ok None

-- The same of each command.
abbrev pub attached_for : Command → FileMap → Result (Option (List ℕ)) Refusal
attached_for command files = attached_by (origin_of command) files

-- A file is put into the database.
abbrev pub is_attaching : Origin → Bool
is_attaching (Attached source) = true
is_attaching origin = false

-- Some file's bytes are there exactly where the command puts one into the database.
abbrev pub SomeAttached : Command → Option (List ℕ) → Type 0
SomeAttached command attached = is_some attached ≡ is_attaching (origin_of command)
