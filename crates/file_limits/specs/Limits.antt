-- Files that are written are within the limit of files that are read, each statement by itself.
use Rattle.std.specs.Prelude.{◌≡◌, ◌≤◌, ℕ, List, length, None, Ok}
use Rattle.vault_model.specs.Tree.{BareDoc}
use Rattle.kdbx_frame.specs.declared.settings.Settings.{Settings}
use Rattle.kdbx_frame.specs.Fields.{file_limit}
use Rattle.kdbx_writing.specs.declared.draws.Draws.{Draws}
use Rattle.kdbx_writing.specs.Draws.{AreDrawn}
use Rattle.cli_sealing.specs.KdbxSeal.Answers.{size_refusal}
use Rattle.cli_sealing.specs.KdbxSeal.Made.{made_file}
use Rattle.cli_writing.specs.Writing.{NewFile, plain_file}
use Rattle.cli_sealing.specs.Sealing.{sealed_file}

-- a file that is made of a document that is not refused as too large
abbrev pub MadeFilesAreWithin : Type 0
MadeFilesAreWithin = (s : Settings) (draws : Draws) (composite : List ℕ) (d : BareDoc)
    → AreDrawn s draws → size_refusal s draws d ≡ None
    → length (made_file s draws composite d) ≤ file_limit

-- the sealed file that a command writes, over any dice
abbrev pub SealedFilesAreWithin : Type 0
SealedFilesAreWithin = (name : List ℕ) (settings : Settings) (composite : List ℕ) (d : BareDoc)
    (dice : List ℕ) (file : NewFile) → (sealed_file name settings composite d dice).answer ≡ Ok file
    → length file.bytes ≤ file_limit

-- the plain document that a command writes
abbrev pub PlainFilesAreWithin : Type 0
PlainFilesAreWithin = (name : List ℕ) (d : BareDoc) (file : NewFile) → plain_file name d ≡ Ok file
    → length file.bytes ≤ file_limit
