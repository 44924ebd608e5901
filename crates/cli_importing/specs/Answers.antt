-- Refusals of the readers of other programs' files, as answers, and stops at documents.
use Rattle.std.specs.Prelude.{ℕ, List}
use Rattle.bitwarden_forms.specs.declared.fails.BitwardenFail.{BitwardenFail}
use Rattle.bitwarden_forms.specs.declared.fails.BitwardenFail.TheVariants as bitwarden
use Rattle.cli_messages.specs.declared.answers.Reason.{Reason}
use Rattle.cli_messages.specs.declared.answers.Reason.TheVariants as answer
use Rattle.cli_messages.specs.declared.answers.Stop.{Stop}
use Rattle.cli_messages.specs.Messages.{refusal_of, Refuses}
use Rattle.cli_messages.specs.Phases.{IsMemoryStop}
use Rattle.cli_files.specs.Answers.{document_answer}
use Rattle.doc_forms.specs.declared.fails.DocFail.{DocFail}
use Rattle.doc_forms.specs.declared.fails.DocFail.TheVariants as doc
use Rattle.psafe_file.specs.declared.fails.PsafeFail.{PsafeFail}
use Rattle.psafe_file.specs.declared.fails.PsafeFail.TheVariants as safe
use Rattle.table_reading.specs.declared.fails.TableFail.{TableFail}
use Rattle.table_reading.specs.declared.fails.TableFail.TheVariants as table

-- A refusal of the reader of Password Safe's files.
abbrev pub safe_answer : PsafeFail → Reason
safe_answer safe.NotPsafe = answer.NotPsafe
safe_answer (safe.Truncated length) = answer.EndsEarly length
safe_answer (safe.IterLimit count) = answer.IterLimit
safe_answer (safe.WrongPassword kept found) = answer.WrongPassword
safe_answer (safe.FieldForm place) = answer.BadField place
safe_answer (safe.Mac kept found) = answer.DamagedOrWrongKey kept found
safe_answer (safe.NilId number) = answer.NilRecord number
safe_answer (safe.DuplicateId id) = answer.DuplicateId id
safe_answer (safe.TooDeep id) = answer.TooDeep
safe_answer safe.NoMemory = answer.OutOfMemory

-- A refusal of the reader of tables.
abbrev pub table_answer : TableFail → Reason
table_answer (table.NotUtf8 length) = answer.NotUtf8 length
table_answer table.ColumnMissing = answer.NoTitleColumn
table_answer (table.RowWidth number) = answer.BadRow number
table_answer (table.BadTime number) = answer.BadRow number
table_answer (table.DuplicateId id) = answer.DuplicateId id
table_answer (table.TooDeep id) = answer.TooDeep
table_answer table.NoMemory = answer.OutOfMemory

-- A refusal of the reader of Bitwarden's exports.
abbrev pub bitwarden_answer : BitwardenFail → Reason
bitwarden_answer bitwarden.JsonForm = answer.BadJson
bitwarden_answer bitwarden.Encrypted = answer.EncryptedExport
bitwarden_answer (bitwarden.FolderForm number) = answer.BadFolder number
bitwarden_answer (bitwarden.Member number) = answer.BadItem number
bitwarden_answer (bitwarden.NilId number) = answer.NilRecord number
bitwarden_answer (bitwarden.StampLimit time) = answer.StampLimit
bitwarden_answer (bitwarden.DuplicateId id) = answer.DuplicateId id
bitwarden_answer (bitwarden.TooDeep id) = answer.TooDeep
bitwarden_answer bitwarden.NoMemory = answer.OutOfMemory

-- The stop of a call that could not make the plain document of the file of this name.
abbrev pub IsDocumentStop : DocFail → List ℕ → Stop → Type 0
IsDocumentStop doc.NoMemory name stop = IsMemoryStop stop
IsDocumentStop why name stop = Refuses stop (refusal_of (document_answer why) name)

-- The stop of a call that could not read the file of Password Safe of this name.
abbrev pub IsSafeStop : PsafeFail → List ℕ → Stop → Type 0
IsSafeStop safe.NoMemory name stop = IsMemoryStop stop
IsSafeStop why name stop = Refuses stop (refusal_of (safe_answer why) name)

-- The stop of a call that could not read the table of this name.
abbrev pub IsTableStop : TableFail → List ℕ → Stop → Type 0
IsTableStop table.NoMemory name stop = IsMemoryStop stop
IsTableStop why name stop = Refuses stop (refusal_of (table_answer why) name)

-- The stop of a call that could not read the export of Bitwarden of this name.
abbrev pub IsBitwardenStop : BitwardenFail → List ℕ → Stop → Type 0
IsBitwardenStop bitwarden.NoMemory name stop = IsMemoryStop stop
IsBitwardenStop why name stop = Refuses stop (refusal_of (bitwarden_answer why) name)
