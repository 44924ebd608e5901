-- What is seen of one database that stands alone.
use Rattle.std.specs.Prelude.{◌≡◌, [], Result, Ok, Err}
use Rattle.cli_messages.specs.declared.answers.Stop.{Stop}
use Rattle.cli_resealing.specs.CliDatabases.declared.databases.Databases.{Databases}
use Rattle.cli_resealing.specs.CliFiles.declared.documents.Opened.{Opened}

-- A database was made, and has no sources beside it now; or a stop stays.
abbrev pub IsAlone : Result Opened Stop → Result Databases Stop → Type 0
IsAlone (Ok opened) (Ok databases) = databases ≡ record { target = opened; sources = [] }
IsAlone (Ok opened) (Err stop) = ⊥
IsAlone (Err stop) (Ok databases) = ⊥
IsAlone (Err stop) (Err stop') = stop' ≡ stop
