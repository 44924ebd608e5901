-- What a call results in depends on the files that its words name, and on no other.
use Rattle.std.specs.Prelude.{◌≡◌, ℕ, List, Some}
use Rattle.outside_core.specs.Files.{FileMap}
use Rattle.vault_model.specs.Join.{IsIn}
use Rattle.cli_pages.specs.Pages.{page_of}
use Rattle.cli_needs.specs.Needs.{files_named}
use Rattle.cli_parse.specs.Words.{command_of}
use Rattle.cli_writing.specs.Writing.{NewFile}
use Rattle.keepass_call.specs.Outcome.{World, outcome}
use Rattle.call_conditions.specs.Agreeing.{AgreeOn}

-- A world with other files.
abbrev pub with_files : World → FileMap → World
with_files world files = record world { files = files }

-- Where other files agree on those that the words name, a call results in the same.
abbrev pub OnlyNamedFilesCount : Type 0
OnlyNamedFilesCount = (words : List (List ℕ)) (time : ℕ) (world : World) (files : FileMap)
    → AgreeOn (files_named (command_of words)) world.files files
    → outcome words time world ≡ outcome words time (with_files world files)

-- The file that a call writes is one that the words name.
abbrev pub OnlyNamedIsWritten : Type 0
OnlyNamedIsWritten = (words : List (List ℕ)) (time : ℕ) (world : World) (file : NewFile)
    → (outcome words time world).file ≡ Some file → IsIn file.name (files_named (command_of words))

-- Words that ask for a page result in the same whatever the files are.
abbrev pub PagesNeedNoFile : Type 0
PagesNeedNoFile = (words : List (List ℕ)) (time : ℕ) (world : World) (files : FileMap)
    (page : List ℕ) → page_of words ≡ Some page
    → outcome words time world ≡ outcome words time (with_files world files)
