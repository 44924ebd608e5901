-- The databases of a call: what the files that its command names hold, and what the first of them
-- is sealed with.
use Rattle.std.specs.Prelude.{ℕ, Bool, true, false, List, [], ◌∷◌, ◌++◌, Option, None, Some, Result, Ok, Err}
use Rattle.std.specs.FinMap as map
use Rattle.outside_core.specs.Files.{FileMap}
use Rattle.secret_core.specs.declared.files.ReadFail.{ReadFail}
use Rattle.secret_core.specs.declared.files.ReadFail.TheVariants as read
use Rattle.key_core.specs.Keys.{composite_key}
use Rattle.mac_core.specs.declared.fail.BlockFail.{BlockFail}
use Rattle.mac_core.specs.declared.fail.BlockFail.TheVariants as block
use Rattle.vault_model.specs.Tree.{BareDoc}
use Rattle.doc_forms.specs.Documents.{DocumentAndHash}
use Rattle.doc_forms.specs.declared.fails.DocFail.{DocFail}
use Rattle.cli_needs.specs.KdbxParts.declared.fail.FrameFail.{FrameFail}
use Rattle.cli_needs.specs.KdbxParts.declared.fail.FrameFail.TheVariants as frame
use Rattle.kdbx_open.specs.declared.fail.OpenFail.{OpenFail}
use Rattle.kdbx_open.specs.declared.fail.OpenFail.TheVariants as sealed
use Rattle.kdbx_open.specs.Files.{opening_of}
use Rattle.kdbx_open.specs.Opening.{FileContents}
use Rattle.cli_messages.specs.declared.answers.Reason.{Reason}
use Rattle.cli_messages.specs.declared.answers.Reason.TheVariants as answer
use Rattle.cli_messages.specs.declared.answers.Reason.TheVariants.{NoSuchFile, TooLarge, OutOfMemory}
use Rattle.cli_messages.specs.declared.answers.Refusal.{Refusal}
use Rattle.cli_messages.specs.declared.answers.Stop.{Stop}
use Rattle.cli_needs.specs.declared.command.Access.{Access}
use Rattle.cli_needs.specs.Needs.{Needs}
use Rattle.cli_lines.specs.Lines.{CanOpen, Lines}
use Rattle.cli_messages.specs.Messages.{refusal_of, Refuses}
use Rattle.outside_core.specs.Results.{◌>>=◌}
use Rattle.cli_messages.specs.Phases.{IsMemoryStop}
use Rattle.cli_files.specs.Answers.{IsUnread, document_answer}
use Rattle.cli_files.specs.Files.{Databases, Opened, key_of, of_file, plain_document}

-- ---- refusals of the crates below, as answers

-- A refusal of the reader of headers and inner fields.
abbrev pub frame_answer : FrameFail → Reason
frame_answer frame.NotKdbx = answer.NotKdbx
frame_answer (frame.Version number) = answer.Version number
frame_answer (frame.Truncated place) = answer.EndsEarly place
frame_answer (frame.TooLarge place) = TooLarge
frame_answer (frame.FieldTwice id) = answer.BadHeaderField id
frame_answer (frame.FieldLength id len) = answer.BadHeaderField id
frame_answer (frame.Dictionary place) = answer.BadDictionary place
frame_answer (frame.HeaderHash kept found) = answer.DamagedOrWrongKey kept found
frame_answer (frame.FieldMissing id) = answer.BadHeaderField id
frame_answer (frame.CipherUnknown id) = answer.UnknownId id
frame_answer (frame.Compressed flag) = answer.Compressed
frame_answer (frame.KdfUnknown id) = answer.UnknownId id
frame_answer (frame.Variant number) = answer.Variant number
frame_answer (frame.KdfLimit field number) = answer.KdfLimit
frame_answer frame.NoMemory = OutOfMemory

-- A refusal of the reader of blocks.
abbrev pub block_answer : BlockFail → Reason
block_answer (block.Truncated place) = answer.EndsEarly place
block_answer (block.BlockMac number) = answer.DamagedBlock number
block_answer (block.BlockHash number) = answer.DamagedBlock number
block_answer (block.BlockIndex number) = answer.DamagedBlock number

-- A refusal to read a file. A fault of the store is no refusal of this kind.
abbrev pub file_answer : ReadFail → Reason
file_answer (read.TooLarge size) = TooLarge
file_answer read.NoSuchFile = NoSuchFile
file_answer read.FileFault = OutOfMemory
file_answer read.NoMemory = OutOfMemory

-- A refusal to open a file.
abbrev pub open_answer : OpenFail → Reason
open_answer (sealed.File fail) = file_answer fail
open_answer (sealed.Frame fail) = frame_answer fail
open_answer (sealed.KeyOrHeader kept found) = answer.DamagedOrWrongKey kept found
open_answer (sealed.Block fail) = block_answer fail
open_answer sealed.BadPadding = answer.WrongKeyOrDamaged
open_answer sealed.StartBytes = answer.WrongKeyOrDamaged
open_answer (sealed.StreamUnknown number) = answer.StreamUnknown number
open_answer (sealed.Doc fail) = document_answer fail
open_answer (sealed.HeaderHash kept found) = answer.DamagedOrWrongKey kept found
open_answer sealed.NoMemory = OutOfMemory

-- ---- databases

-- A plain document.
abbrev pub opened_plain : BareDoc → Opened
opened_plain doc = record { doc = doc; sealing = None; passed_over = [] }

-- What a file holds that was opened under a composite key.
abbrev pub opened_under : List ℕ → FileContents → Opened
opened_under composite vault = record {
  doc = vault.doc;
  sealing = Some (record { settings = vault.settings; composite = composite });
  passed_over = [];
}

-- ---- files

-- The plain document that the file of this name holds, or the refusal.
abbrev pub document_or_refusal : List ℕ → Result DocumentAndHash DocFail → Result Opened Refusal
document_or_refusal name (Ok read) = Ok (opened_plain read.0)
document_or_refusal name (Err fail) = Err (refusal_of (document_answer fail) name)

-- What a file of this name holds as a plain document.
abbrev pub plain_of : List ℕ → Option (List ℕ) → Result Opened Refusal
plain_of name = of_file name (λ bytes. document_or_refusal name (plain_document bytes))

-- The database that the file of this name is under a composite key, by what opening it answers.
abbrev pub vault_or_refusal : List ℕ → List ℕ → Result FileContents OpenFail → Result Opened Refusal
vault_or_refusal name composite (Ok vault) = Ok (opened_under composite vault)
vault_or_refusal name composite (Err fail) = Err (refusal_of (open_answer fail) name)

-- What a file holds under a composite key.
unfoldable pub held_under : List ℕ → FileMap → List ℕ → Result Opened Refusal
held_under file files composite =
    vault_or_refusal file composite (opening_of (map.get files file) composite)

-- What a file holds under the composite key of a password and a key file's key.
abbrev pub sealed_in : List ℕ → FileMap → Option (List ℕ) → Option (List ℕ)
    → Result Opened Refusal
sealed_in file files password key = held_under file files (composite_key password key)

-- What a file holds: a document by itself, or else sealed, the key file being read first.
abbrev pub held_in : Bool → Option (List ℕ) → List ℕ → Option (List ℕ) → FileMap
    → Result Opened Refusal
held_in true key_file file password files = plain_of file (map.get files file)
held_in false key_file file password files = key_of key_file files >>= sealed_in file files password

-- The database that a command asks for, whose password is given.
abbrev pub database_of : Needs → Option (List ℕ) → FileMap → Result Opened Refusal
database_of needs password files =
    held_in needs.access.plain needs.access.key_file needs.file password files

-- ---- sources

-- The password of a source: that of the target, or the source's own line.
abbrev pub password_from : Bool → (target own : Option (List ℕ)) → Option (List ℕ)
password_from true target own = target
password_from false target own = own

-- The document that a file holds.
abbrev pub document_in : Access → List ℕ → Option (List ℕ) → FileMap → Result BareDoc Refusal
document_in access name password files =
    held_in access.plain access.key_file name password files >>= λ opened. Ok opened.doc

-- The documents that sources hold, one after another, after others: each is opened in this way,
-- with the password of the target or its own line. There are as many lines as sources.
unfoldable pub docs_from : Access → Bool → Option (List ℕ) → List (List ℕ)
    → List (Option (List ℕ)) → List BareDoc → FileMap → Result (List BareDoc) Refusal
docs_from from same target [] lines docs files = Ok docs
docs_from from same target (name ∷ names) [] docs files = Ok docs
docs_from from same target (name ∷ names) (line ∷ lines) docs files =
    document_in from name (password_from same target line) files >>= λ doc.
    docs_from from same target names lines (docs ++ doc ∷ []) files

-- The documents of a command's sources.
abbrev pub sources_of : Needs → Lines → FileMap → Result (List BareDoc) Refusal
sources_of needs lines files =
    docs_from needs.from needs.same lines.password needs.sources lines.sources [] files

-- The databases that a command asks for, by the lines that it asked for: its own, and then its
-- sources.
unfoldable pub databases_of : Needs → Lines → FileMap → Result Databases Refusal
databases_of needs lines files =
    database_of needs lines.password files >>= λ target.
    sources_of needs lines files >>= λ sources.
    Ok (record { target = target; sources = sources })

-- Each source has a line, and can be opened with the target's password or its own line.
abbrev pub CanOpenAll : Access → Bool → Option (List ℕ) → List (List ℕ) → List (Option (List ℕ))
    → Type 0
CanOpenAll from same target [] lines = Unit {0}
CanOpenAll from same target (name ∷ names) [] = ⊥
CanOpenAll from same target (name ∷ names) (line ∷ lines) =
    CanOpen from (password_from same target line) × CanOpenAll from same target names lines

-- ---- stops

-- The stop of a call that could not open the file of this name.
abbrev pub IsUnopened : OpenFail → List ℕ → Stop → Type 0
IsUnopened (sealed.File fail) name stop = IsUnread fail name stop
IsUnopened sealed.NoMemory name stop = IsMemoryStop stop
IsUnopened fail name stop = Refuses stop (refusal_of (open_answer fail) name)
