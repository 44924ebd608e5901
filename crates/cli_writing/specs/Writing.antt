-- The file that a command writes.
use Rattle.std.specs.Prelude.{◌≡◌, ◌⊎◌, ℕ, List, option_map, Option, None, Result, Ok, Err}
use Rattle.std.specs.FinMap as map
use Rattle.outside_core.specs.Counts.{Increased}
use Rattle.outside_core.specs.Files.{FileMap}
use Rattle.stream_core.specs.InnerStream.{NoKeystream}
use Rattle.vault_model.specs.Tree.{BareDoc}
use Rattle.vault_model.specs.declared.forms.DocForm.TheVariants.{Plain}
use Rattle.doc_write.specs.Written.{write_outcome}
use Rattle.doc_write.specs.declared.writing.WriteFail.{WriteFail}
use Rattle.doc_write.specs.declared.writing.WriteFail.TheVariants as fail
use Rattle.cli_messages.specs.Messages.{Refuses, refusal_of, status_of}
use Rattle.cli_messages.specs.Phases.{IsMemoryStop}
use Rattle.cli_messages.specs.declared.answers.Reason.{Reason}
use Rattle.cli_messages.specs.declared.answers.Reason.TheVariants as answer
use Rattle.cli_messages.specs.declared.answers.Refusal.{Refusal}
use Rattle.cli_messages.specs.declared.answers.Stop.{Stop}
use Rattle.cli_messages.specs.declared.answers.Stop.TheVariants.{Refused, FileFault, InputFault, NoMemory}

-- ---- what is defined

-- A file that is written.
pub record NewFile : Type 0 where
  pub name : List ℕ
  pub bytes : List ℕ

-- The answer that a refusal to write a document is.
abbrev pub write_answer : WriteFail → Reason
write_answer (fail.TooMany count) = answer.TooMany
write_answer (fail.TooLarge length) = answer.TooLarge
write_answer fail.NoMemory = answer.OutOfMemory

-- The file of this name with a text, or the refusal about it.
abbrev pub file_or_refusal : List ℕ → Result (List ℕ) WriteFail → Result NewFile Refusal
file_or_refusal name (Ok text) = Ok (record { name = name; bytes = text })
file_or_refusal name (Err why) = Err (refusal_of (write_answer why) name)

-- The file that holds a plain document: one that hides nothing and has no binaries beside it.
abbrev pub plain_file : List ℕ → BareDoc → Result NewFile Refusal
plain_file name doc = file_or_refusal name (write_outcome Plain NoKeystream None doc)

-- ---- the store of files

-- A store of files at one moment: its files, and the draft by its name and its bytes.
pub record Store : Type 0 where
  pub files : Option FileMap
  pub draft_name : Option (List ℕ)
  pub draft_bytes : List ℕ

-- What a store reports, in the order of the record.
abbrev pub store : Option FileMap → Option (List ℕ) → List ℕ → Store
store files name bytes = record { files = files; draft_name = name; draft_bytes = bytes }

-- Nothing changed.
pub record IsSame (before now : Store) : Type 0 where
  pub files : now.files ≡ before.files
  pub draft_name : now.draft_name ≡ before.draft_name
  pub draft_bytes : now.draft_bytes ≡ before.draft_bytes

-- The draft is the one of before, or there is none.
abbrev pub KeepsDraft : Store → Store → Type 0
KeepsDraft before now = (now.draft_name ≡ None)
    ⊎ ((now.draft_name ≡ before.draft_name) × (now.draft_bytes ≡ before.draft_bytes))

-- No file changed, and the draft is the one of before, or there is none.
pub record KeepsFiles (before now : Store) : Type 0 where
  pub files : now.files ≡ before.files
  pub draft : KeepsDraft before now

-- The file is under its name, every other one is as before, and there is no draft.
pub record HasFile (file : NewFile) (before now : Store) : Type 0 where
  pub files : now.files ≡ option_map (λ m. map.insert m file.name file.bytes) before.files
  pub draft_name : now.draft_name ≡ None

-- ---- how the code relates to it

-- The defined file was written.
pub record WritesFile (defined : Result NewFile Refusal) (before now : Store) : Type 0 where
  pub file : NewFile
  pub is : defined ≡ Ok file
  pub has : HasFile file before now

-- Writing was refused as it is defined, and nothing changed.
pub record RefusesFile (refusal : Refusal) (defined : Result NewFile Refusal) (before now : Store) :
    Type 0 where
  pub is : defined ≡ Err refusal
  pub same : IsSame before now

-- The defined file was written, or writing stopped.
abbrev pub Writes : Result (Unit {0}) Stop → Result NewFile Refusal → Store → Store → Type 0
Writes (Ok _) defined before now = WritesFile defined before now
Writes (Err (Refused refusal)) defined before now = RefusesFile refusal defined before now
Writes (Err (FileFault name)) defined before now = Unit {0}
Writes (Err InputFault) defined before now = Unit {0}
Writes (Err NoMemory) defined before now = Unit {0}

-- A stop at a file that is written: a fault of the store is reported only where its count of faults
-- rose, and of this file.
abbrev pub IsWriteStop : List ℕ → (faults faults' : ℕ) → Stop → Type 0
IsWriteStop name faults faults' (Refused refusal) = ¬ (refusal.reason ≡ answer.NoSuchFile)
IsWriteStop name faults faults' (FileFault given) = (given ≡ name) × Increased faults faults'
IsWriteStop name faults faults' InputFault = ⊥
IsWriteStop name faults faults' NoMemory = Unit {0}

-- A stop at a document that is written is refused only as too much or too large, with status 8.
abbrev pub IsSizeStop : Stop → Type 0
IsSizeStop (Refused refusal) = status_of refusal.reason ≡ 8
IsSizeStop (FileFault name) = Unit {0}
IsSizeStop InputFault = Unit {0}
IsSizeStop NoMemory = Unit {0}

-- The stop of a call that could not write this document.
abbrev pub IsUnwritten : WriteFail → List ℕ → Stop → Type 0
IsUnwritten fail.NoMemory name stop = IsMemoryStop stop
IsUnwritten why name stop = Refuses stop (refusal_of (write_answer why) name)
