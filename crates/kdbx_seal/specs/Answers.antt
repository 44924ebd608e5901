-- What an answer of sealing says of the document and of the store.
use Rattle.std.specs.Prelude.{◌≡◌, ℕ, ◌+◌, ◌≤◌, ◌^◌, List, length, nat_lt, if◌then◌else◌, Option, None, Some, Result, Ok, Err}
use Rattle.std.specs.List.{AllByRecursion}
use Rattle.secret_core.specs.Secret.{SecretBuffer}
use Rattle.vault_model.specs.declared.forms.DocForm.TheVariants.{V3, V4}
use Rattle.vault_model.specs.Tree.{BareDoc}
use Rattle.doc_spelling.specs.Ranges.{IsWritable}
use Rattle.doc_write.specs.Written.{write_outcome}
use Rattle.doc_write.specs.declared.writing.WriteFail.{WriteFail}
use Rattle.doc_write.specs.declared.writing.WriteFail.TheVariants as write
use Rattle.kdbx_frame.specs.declared.settings.Settings.{Settings}
use Rattle.kdbx_frame.specs.Fields.{header_limit}
use Rattle.kdbx_frame.specs.Forms.{form_of}
use Rattle.kdbx_frame.specs.Header.{sums_len}
use Rattle.kdbx_writing.specs.declared.draws.Draws.{Draws}
use Rattle.kdbx_writing.specs.Header.{spelled_header}
use Rattle.kdbx_writing.specs.Inner.{FitsField}
use Rattle.kdbx_seal.specs.PayloadAnswers.{CanKeepApart}
use Rattle.kdbx_seal.specs.PayloadMade.{chacha_keystream, plain_content, plain_content_31, plain_content_4, salsa_keystream, written_keystream}
use Rattle.kdbx_seal.specs.declared.payload_fail.SealPayloadFail.{SealPayloadFail}
use Rattle.kdbx_seal.specs.declared.payload_fail.SealPayloadFail.TheVariants as payload
use Rattle.kdbx_seal.specs.Made.{attached_files, document_text, files_of, hash_kept, text_31, text_4}
use Rattle.kdbx_seal.specs.declared.fail.SealFail.{SealFail}
use Rattle.kdbx_seal.specs.declared.fail.SealFail.TheVariants.{TooMany, TooLarge, FileFault, NoMemory}

-- A refusal of writing the document, as one of sealing.
abbrev pub of_writing : WriteFail → SealFail
of_writing (write.TooMany n) = TooMany n
of_writing (write.TooLarge n) = TooLarge n
of_writing write.NoMemory = NoMemory

-- A refusal of sealing the payload, as one of sealing.
abbrev pub of_payload : SealPayloadFail → SealFail
of_payload (payload.TooLarge n) = TooLarge n
of_payload payload.FileFault = FileFault
of_payload payload.NoMemory = NoMemory

-- What writing a document gives, for the file of these settings with these draws.
abbrev pub written_document : Settings → Draws → BareDoc → Result (List ℕ) WriteFail
written_document s draws d = write_outcome (form_of s.version)
    (written_keystream s.version draws) (hash_kept s.version s draws) d

-- The refusal of a document that is too large, or of a header that ends past the limit, if any.
abbrev pub refusal_of : Result (List ℕ) WriteFail → ℕ → Option SealFail
refusal_of (Ok text) end = if nat_lt header_limit end then Some (TooLarge end) else None
refusal_of (Err fail) end = Some (of_writing fail)

-- The same for a file of these settings with these draws that holds a document.
abbrev pub size_refusal : Settings → Draws → BareDoc → Option SealFail
size_refusal s draws d =
    refusal_of (written_document s draws d) (length (spelled_header s draws) + sums_len s.version)

-- A file is sealed, or the store is asked, only where nothing is too large; and what is refused as
-- too large is so. Want of memory says nothing.
abbrev pub Refuses : Result (Unit {0}) SealFail → Option SealFail → Type 0
Refuses (Ok _) refusal = refusal ≡ None
Refuses (Err FileFault) refusal = refusal ≡ None
Refuses (Err NoMemory) refusal = Unit {0}
Refuses (Err (TooMany n)) refusal = refusal ≡ Some (TooMany n)
Refuses (Err (TooLarge n)) refusal = refusal ≡ Some (TooLarge n)

-- There is no draft, unless something is too large.
abbrev pub LeavesNoDraft : Result (Unit {0}) SealFail → Option (List ℕ) → Type 0
LeavesNoDraft (Ok _) draft = draft ≡ None
LeavesNoDraft (Err FileFault) draft = draft ≡ None
LeavesNoDraft (Err NoMemory) draft = draft ≡ None
LeavesNoDraft (Err (TooMany n)) draft = Unit {0}
LeavesNoDraft (Err (TooLarge n)) draft = Unit {0}

-- The content of a document's file, before it is enciphered.
abbrev pub document_content : Settings → Draws → BareDoc → List ℕ
document_content s draws d =
    plain_content s.version draws (attached_files s.version d) (document_text s draws d)

-- The content of a document's file was written, with room for its padding; it is not too large, and
-- the file can keep the attached files apart that it should.
pub record IsWritten (s : Settings) (draws : Draws) (d : BareDoc) (content : SecretBuffer) : Type 0
  where
    pub bytes : content.bytes ≡ document_content s draws d
    pub spare : 16 ≤ content.spare
    pub limit : length content.bytes ≤ 2 ^ 38
    pub within : written_document s draws d ≡ Ok (document_text s draws d)
    pub writable : IsWritable d
    pub apart : CanKeepApart s.version (attached_files s.version d)

-- What writing it answers.
abbrev pub WritesContent : Settings → Draws → BareDoc → Result SecretBuffer WriteFail → Type 0
WritesContent s draws d (Ok content) = IsWritten s draws d content
WritesContent s draws d (Err write.NoMemory) = Unit {0}
WritesContent s draws d (Err fail) = written_document s draws d ≡ Err fail

-- ---- the same in version 4, whatever the settings

-- What writing a document gives.
abbrev pub written_document_4 : Draws → BareDoc → Result (List ℕ) WriteFail
written_document_4 draws d = write_outcome V4 (chacha_keystream draws.stream) None d

-- The content of a document's file was written.
pub record IsWritten4 (draws : Draws) (d : BareDoc) (content : SecretBuffer) : Type 0 where
  pub bytes : content.bytes ≡ plain_content_4 draws (files_of d) (text_4 draws d)
  pub spare : 16 ≤ content.spare
  pub limit : length content.bytes ≤ 2 ^ 38
  pub within : written_document_4 draws d ≡ Ok (text_4 draws d)
  pub writable : IsWritable d
  pub small : AllByRecursion FitsField (files_of d)

-- What writing it answers.
abbrev pub WritesContent4 : Draws → BareDoc → Result SecretBuffer WriteFail → Type 0
WritesContent4 draws d (Ok content) = IsWritten4 draws d content
WritesContent4 draws d (Err write.NoMemory) = Unit {0}
WritesContent4 draws d (Err fail) = written_document_4 draws d ≡ Err fail

-- ---- the same in version 3.1, whatever the settings, with this hash of a header

-- What writing a document gives.
abbrev pub written_document_31 : List ℕ → Draws → BareDoc → Result (List ℕ) WriteFail
written_document_31 hash draws d = write_outcome V3 (salsa_keystream draws.stream) (Some hash) d

-- The content of a document's file was written.
pub record IsWritten31 (hash : List ℕ) (draws : Draws) (d : BareDoc) (content : SecretBuffer)
    : Type 0 where
  pub bytes : content.bytes ≡ plain_content_31 draws (text_31 hash draws d)
  pub spare : 16 ≤ content.spare
  pub within : written_document_31 hash draws d ≡ Ok (text_31 hash draws d)
  pub writable : IsWritable d

-- What writing it answers.
abbrev pub WritesContent31 : List ℕ → Draws → BareDoc → Result SecretBuffer WriteFail → Type 0
WritesContent31 hash draws d (Ok content) = IsWritten31 hash draws d content
WritesContent31 hash draws d (Err write.NoMemory) = Unit {0}
WritesContent31 hash draws d (Err fail) = written_document_31 hash draws d ≡ Err fail
