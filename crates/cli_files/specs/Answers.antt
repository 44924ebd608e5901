-- Refusals of the readers of documents and of key files, as answers, and stops at files.
use Rattle.std.specs.Prelude.{ℕ, List}
use Rattle.secret_core.specs.declared.files.ReadFail.{ReadFail}
use Rattle.secret_core.specs.declared.files.ReadFail.TheVariants as read
use Rattle.cli_lines.specs.KeyCore.declared.key_file.KeyFileFail.{KeyFileFail}
use Rattle.cli_lines.specs.KeyCore.declared.key_file.KeyFileFail.TheVariants as key
use Rattle.doc_forms.specs.declared.fails.DocFail.{DocFail}
use Rattle.doc_forms.specs.declared.fails.DocFail.TheVariants as doc
use Rattle.cli_messages.specs.Messages.{refusal_of, Refuses}
use Rattle.cli_messages.specs.Phases.{IsFault, IsMemoryStop}
use Rattle.cli_messages.specs.declared.answers.Reason.{Reason}
use Rattle.cli_messages.specs.declared.answers.Reason.TheVariants as answer
use Rattle.cli_messages.specs.declared.answers.Reason.TheVariants.{NoSuchFile, OutOfMemory, TooLarge}
use Rattle.cli_messages.specs.declared.answers.Stop.{Stop}

-- A refusal of the document's reader.
abbrev pub document_answer : DocFail → Reason
document_answer (doc.Form place) = answer.Form place
document_answer (doc.Depth place) = answer.Depth
document_answer (doc.BadValue place) = answer.BadValue place
document_answer (doc.Compressed place) = answer.Compressed
document_answer (doc.TooDeep place) = answer.TooDeep
document_answer (doc.TooMany count) = answer.TooMany
document_answer (doc.NilId place) = answer.NilId place
document_answer (doc.MissingElement which place) = answer.MissingElement place
document_answer (doc.DuplicateId id) = answer.DuplicateId id
document_answer (doc.BinaryRef number) = answer.BinaryRef number
document_answer doc.NoMemory = OutOfMemory

-- A refusal of a key file.
abbrev pub key_answer : KeyFileFail → Reason
key_answer (key.KeyFileForm place) = answer.BadKeyFile place
key_answer (key.KeyFileHash kept found) = answer.KeyFileHash kept found
key_answer key.NoMemory = OutOfMemory

-- The stop of a call that could not read the file of this name.
abbrev pub IsUnread : ReadFail → List ℕ → Stop → Type 0
IsUnread (read.TooLarge n) name stop = Refuses stop (refusal_of TooLarge name)
IsUnread read.NoSuchFile name stop = Refuses stop (refusal_of NoSuchFile name)
IsUnread read.FileFault name stop = IsFault stop name
IsUnread read.NoMemory name stop = IsMemoryStop stop
