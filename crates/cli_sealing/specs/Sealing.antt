-- The sealed file that a command writes.
use Rattle.std.specs.Prelude.{◌≡◌, ℕ, List, Option, None, Some, Result, Ok, Err}
use Rattle.vault_making.specs.NeededVersion.{later, needed_version}
use Rattle.vault_model.specs.Tree.{BareDoc}
use Rattle.vault_model.specs.declared.forms.FileVersion.{FileVersion}
use Rattle.kdbx_frame.specs.declared.settings.Settings.{Settings}
use Rattle.kdbx_seal.specs.Answers.{size_refusal}
use Rattle.kdbx_seal.specs.Made.{made_file}
use Rattle.kdbx_seal.specs.declared.fail.SealFail.{SealFail}
use Rattle.kdbx_seal.specs.declared.fail.SealFail.TheVariants as fail
use Rattle.cli_messages.specs.Messages.{Refuses, refusal_of}
use Rattle.cli_messages.specs.Phases.{IsFault, IsMemoryStop, StreamAnswer, with_left}
use Rattle.cli_messages.specs.declared.answers.Reason.{Reason}
use Rattle.cli_messages.specs.declared.answers.Reason.TheVariants as answer
use Rattle.cli_messages.specs.declared.answers.Refusal.{Refusal}
use Rattle.cli_messages.specs.declared.answers.Stop.{Stop}
use Rattle.cli_messages.specs.declared.answers.Stop.TheVariants.{Refused, FileFault, InputFault, NoMemory}
use Rattle.cli_writing.specs.Writing.{NewFile, RefusesFile, Store, WritesFile}
use Rattle.cli_sealing.specs.Draws.{after_draws, draws_of}

-- The version of a file that is written anew: no earlier than it was, and than the one that its
-- document needs.
abbrev pub version_for : FileVersion → BareDoc → FileVersion
version_for version doc = later (needed_version doc) version

-- Settings with that version.
abbrev pub settings_for : Settings → BareDoc → Settings
settings_for settings doc = record settings { version = version_for settings.version doc }

-- The answer that a refusal to seal a document is. A fault of the store is no refusal of this kind.
abbrev pub seal_answer : SealFail → Reason
seal_answer (fail.TooMany count) = answer.TooMany
seal_answer (fail.TooLarge length) = answer.TooLarge
seal_answer fail.FileFault = answer.OutOfMemory
seal_answer fail.NoMemory = answer.OutOfMemory

-- The file of this name with these bytes, or the refusal about it.
abbrev pub file_unless : List ℕ → Option SealFail → List ℕ → Result NewFile Refusal
file_unless name None bytes = Ok (record { name = name; bytes = bytes })
file_unless name (Some why) bytes = Err (refusal_of (seal_answer why) name)

-- The file that holds a document sealed by these settings under a composite key, over the dice.
-- What it is sealed with is drawn before its size is looked at.
unfoldable pub file_by : List ℕ → Settings → List ℕ → BareDoc → List ℕ → StreamAnswer NewFile
file_by name settings composite doc dice = with_left
    (file_unless name (size_refusal settings (draws_of settings dice) doc)
    (made_file settings (draws_of settings dice) composite doc)) (after_draws settings dice)

-- The file that a command writes of a database that was opened with these settings.
abbrev pub sealed_file : List ℕ → Settings → List ℕ → BareDoc → List ℕ → StreamAnswer NewFile
sealed_file name settings composite doc dice =
    file_by name (settings_for settings doc) composite doc dice

-- ---- how the code relates to it

-- The defined file was written and of the dice is left what is defined, or writing stopped.
abbrev pub Seals : Result (Unit {0}) Stop → StreamAnswer NewFile → Store → Store
    → Option (List ℕ) → Type 0
Seals (Ok _) defined before now left =
    WritesFile defined.answer before now × (left ≡ Some defined.left)
Seals (Err (Refused refusal)) defined before now left =
    RefusesFile refusal defined.answer before now × (left ≡ Some defined.left)
Seals (Err (FileFault name)) defined before now left = Unit {0}
Seals (Err InputFault) defined before now left = Unit {0}
Seals (Err NoMemory) defined before now left = Unit {0}

-- The stop of a call that could not seal a document as the file of this name.
abbrev pub IsUnsealed : SealFail → List ℕ → Stop → Type 0
IsUnsealed fail.FileFault name stop = IsFault stop name
IsUnsealed fail.NoMemory name stop = IsMemoryStop stop
IsUnsealed why name stop = Refuses stop (refusal_of (seal_answer why) name)
