-- The database that is made empty.
use Rattle.std.specs.Prelude.{ℕ, List, [], replicate, Option, None, Some, Result, Ok}
use Rattle.std.specs.FinMap as map
use Rattle.outside_core.specs.Files.{FileMap}
use Rattle.outside_core.specs.Results.{◌>>=◌}
use Rattle.vault_model.specs.Db.{NodeId}
use Rattle.vault_model.specs.Empty.{empty_bare, new_group, new_meta}
use Rattle.vault_model.specs.Tree.{BareDoc, node, none}
use Rattle.cli_messages.specs.declared.answers.Refusal.{Refusal}
use Rattle.cli_needs.specs.Needs.{CreateNeeds}
use Rattle.cli_lines.specs.Lines.{Lines}
use Rattle.cli_databases.specs.CliFiles.Files.{Opened}
use Rattle.cli_importing.specs.Imports.{at_stamp, refuse_file, sealing_of}
use Rattle.cli_resealing.specs.Asked.{asked_settings, with_resealed}

-- The id that the root of an empty database has until its own is drawn.
abbrev pub undrawn_id : NodeId
undrawn_id = replicate 16 1

-- The document of an empty database, whose root has this id: that of every new database, or with
-- this name, which is the root group's and the database's.
abbrev pub empty_document : Option (List ℕ) → NodeId → ℕ → BareDoc
empty_document None root now = empty_bare root now
empty_document (Some name) root now = record {
  tree = node root (new_group name now) [] none;
  tombs = [];
  meta = record new_meta { name = record { changed = now; value = name } };
}

-- The database that is made empty at a moment, with the line that is its password, before its root's
-- id is drawn. No file may have its name; it is sealed as one that is imported, but for what is
-- asked for.
unfoldable pub created_of : CreateNeeds → Lines → ℕ → FileMap → Result Opened Refusal
created_of create lines time files = do
  _ ← refuse_file create.file (map.get files create.file)
  sealing ← sealing_of create.access.plain create.access.key_file lines.password files
  doc ← at_stamp create.file time (Ok (empty_document create.name undrawn_id time))
  with_resealed create.file (asked_settings create.cipher create.kdf None)
      (record { doc = doc; sealing = sealing; passed_over = [] })
