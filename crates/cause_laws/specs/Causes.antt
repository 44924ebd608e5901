-- Why a file is refused, as what is so of its bytes.
use Rattle.std.specs.Prelude.{◌≡◌, ◌≢◌, ◌⊎◌, ◌<◌, ◌%◌, ℕ, List, length, map, take, drop, slice_index, Some, Result, Ok, Err}
use Rattle.sha2.specs.Sha256.{sha256}
use Rattle.block_core.specs.Aes.{aes256_decipher}
use Rattle.block_core.specs.Cbc.{cbc_deciphered}
use Rattle.block_core.specs.Padding.{IsPadded}
use Rattle.block_core.specs.Twofish.{twofish256_decipher}
use Rattle.mac_core.specs.Contents.{AreContents}
use Rattle.mac_core.specs.HashedBlocks.{AreHashed}
use Rattle.mac_core.specs.declared.fail.BlockFail.{BlockFail}
use Rattle.vault_model.specs.declared.forms.FileVersion.{FileVersion}
use Rattle.vault_model.specs.declared.forms.FileVersion.TheVariants.{V31, V40, V41}
use Rattle.doc_forms.specs.Documents.{DocumentAndHash, document}
use Rattle.doc_forms.specs.ElementTexts.{Setting}
use Rattle.doc_forms.specs.declared.fails.DocFail.{DocFail}
use Rattle.document_cause_laws.specs.DocumentCauses.{DocumentCause}
use Rattle.header_cause_laws.specs.HeaderCauses.{HeaderCause}
use Rattle.inner_cause_laws.specs.InnerCauses.{InnerCause}
use Rattle.kdbx_frame.specs.Forms.{form_of}
use Rattle.kdbx_frame.specs.Header.{header_of}
use Rattle.kdbx_frame.specs.declared.header.Header.{Header}
use Rattle.kdbx_frame.specs.declared.settings.Cipher.{Cipher}
use Rattle.kdbx_frame.specs.declared.settings.Cipher.TheVariants.{Aes, Twofish, ChaCha}
use Rattle.kdbx_parts.specs.declared.fail.FrameFail.{FrameFail}
use Rattle.kdbx_inner.specs.Inner.{InnerFields, inner_of}
use Rattle.kdbx_payload.specs.Ciphers.{deciphered_text}
use Rattle.kdbx_payload.specs.HeaderMacs.{base_of, header_mac, key_of}
use Rattle.kdbx_payload.specs.Parts.{after_header, content_31, stored_mac}
use Rattle.kdbx_payload.specs.Payloads.{Payload, hidden_text}
use Rattle.kdbx_payload.specs.Sealed.{SealedPayload}
use Rattle.kdbx_open.specs.Documents.{attachment}
use Rattle.kdbx_open.specs.Opening.{opening}
use Rattle.kdbx_open.specs.declared.fail.OpenFail.{OpenFail}
use Rattle.kdbx_open.specs.declared.fail.OpenFail.TheVariants.{Block, BadPadding, Doc, File, Frame, HeaderHash, KeyOrHeader, NoMemory, StartBytes, StreamUnknown}

-- The numbers of a file are bytes.
abbrev pub AreBytes : List ℕ → Type 0
AreBytes file = (i : ℕ) → slice_index file i < 256

-- ---- the parts of a file under a composite key

-- A file begins with this header.
abbrev pub Begins : List ℕ → Header → Type 0
Begins file header = header_of file ≡ Ok header

-- What follows the header of a file: blocks in version 4, and the content itself in version 3.1.
-- In version 4 these are the contents of the blocks.
abbrev pub HasContent : FileVersion → List ℕ → Header → List ℕ → List ℕ → Type 0
HasContent V31 base header file content = content ≡ content_31 header.size file
HasContent V40 base header file content =
    AreContents base (length file) (after_header header.size file) (Ok content)
HasContent V41 base header file content =
    AreContents base (length file) (after_header header.size file) (Ok content)

-- ---- causes

-- The MAC that the file keeps of its header is not the header's, under the composite key.
pub record HasWrongMac (file composite kept found : List ℕ) : Type 0 where
  pub header : Header
  pub begins : Begins file header
  pub kept_is : kept ≡ stored_mac header.size file
  pub found_is : found ≡ header_mac (base_of header composite) (take header.size file)
  pub apart : kept ≢ found

-- In version 4 the blocks after the header are damaged or unfinished so. In version 3.1 the content
-- hides a text after whose start bytes there are no right blocks.
abbrev pub HasWrongBlocksIn : FileVersion → BlockFail → (base key : List ℕ) → Header → List ℕ
    → Type 0
HasWrongBlocksIn V31 fail base key header file = (text : List ℕ)
    × (deciphered_text header.settings.cipher key header.iv (content_31 header.size file)
    ≡ Some text) × (take 32 text ≡ header.start)
    × ((parts : List (List ℕ)) → AreHashed (drop 32 text) parts → ⊥)
HasWrongBlocksIn V40 fail base key header file =
    AreContents base (length file) (after_header header.size file) (Err fail)
HasWrongBlocksIn V41 fail base key header file =
    AreContents base (length file) (after_header header.size file) (Err fail)

-- A file begins with a header, and its blocks are wrong in this way under the keys of its composite.
pub record HasWrongBlocks (fail : BlockFail) (file composite : List ℕ) : Type 0 where
  pub header : Header
  pub begins : Begins file header
  pub wrong : HasWrongBlocksIn header.settings.version fail (base_of header composite)
      (key_of header composite) header file

-- A content is not made of whole blocks, or the text of its blocks ends with no right padding.
abbrev pub HasNoPadding : (List ℕ → List ℕ) → (iv content : List ℕ) → Type 0
HasNoPadding decipher iv content = (length content % 16 ≢ 0)
    ⊎ ((n : ℕ) → IsPadded (cbc_deciphered decipher iv content) n → ⊥)

-- The same by the cipher; ChaCha20 has no padding.
abbrev pub IsBadlyPadded : Cipher → (key iv content : List ℕ) → Type 0
IsBadlyPadded Aes key iv content = HasNoPadding (aes256_decipher key) iv content
IsBadlyPadded Twofish key iv content = HasNoPadding (twofish256_decipher key) iv content
IsBadlyPadded ChaCha key iv content = ⊥

-- A file begins with a header, and the content of its blocks is padded wrongly under its key.
pub record HasBadPadding (file composite : List ℕ) : Type 0 where
  pub header : Header
  pub begins : Begins file header
  pub content : List ℕ
  pub has : HasContent header.settings.version (base_of header composite) header file content
  pub bad : IsBadlyPadded header.settings.cipher (key_of header composite) header.iv content

-- The file is of version 3.1, and the text that it hides does not begin with the start bytes of its
-- header.
pub record HasWrongStart (file composite : List ℕ) : Type 0 where
  pub header : Header
  pub begins : Begins file header
  pub version : header.settings.version ≡ V31
  pub text : List ℕ
  pub hides : deciphered_text header.settings.cipher (key_of header composite) header.iv
      (content_31 header.size file) ≡ Some text
  pub apart : take 32 text ≢ header.start

-- The number of a stream: that of the header in version 3.1, and that of the inner fields in 4.
abbrev pub NamesStream : FileVersion → Header → List ℕ → ℕ → Type 0
NamesStream V31 header text id = id ≡ header.stream_id
NamesStream V40 header text id = (inner : InnerFields)
    × ((inner_of text ≡ Ok inner) × (id ≡ inner.stream_id))
NamesStream V41 header text id = (inner : InnerFields)
    × ((inner_of text ≡ Ok inner) × (id ≡ inner.stream_id))

-- The file asks for a stream by a number that is neither Salsa20's nor ChaCha20's.
pub record HasUnknownStream (id : ℕ) (file composite : List ℕ) : Type 0 where
  pub header : Header
  pub begins : Begins file header
  pub text : List ℕ
  pub hides : hidden_text header.settings.version (base_of header composite)
      (key_of header composite) header file ≡ Ok text
  pub named : NamesStream header.settings.version header text id
  pub not_salsa : id ≢ 2
  pub not_chacha : id ≢ 3

-- The header is what the reader of headers refuses so, and has the cause of that.
abbrev pub HasWrongHeader : FrameFail → List ℕ → Type 0
HasWrongHeader fail file = (header_of file ≡ Err fail) × HeaderCause fail file

-- A text begins with inner fields that their reader refuses so, and has the cause of that.
abbrev pub HasWrongFields : FrameFail → List ℕ → Type 0
HasWrongFields fail text = (inner_of text ≡ Err fail) × InnerCause fail text

-- The header is wrong, or the inner fields at the start of the text that the file hides.
abbrev pub HasWrongFrame : FrameFail → (file composite : List ℕ) → Type 0
HasWrongFrame fail file composite = HasWrongHeader fail file
    ⊎ ((header : Header) × (Begins file header × ((text : List ℕ)
    × ((hidden_text header.settings.version (base_of header composite) (key_of header composite)
    header file ≡ Ok text) × HasWrongFields fail text))))

-- What the text of a payload is read with: its form, and the stream that hides values.
abbrev pub setting_of : Payload → Setting
setting_of payload =
    record { form = form_of payload.settings.version; keystream = payload.stream }

-- What the reader of documents makes of a payload.
abbrev pub read_of : Payload → Result DocumentAndHash DocFail
read_of payload = document (setting_of payload) (map attachment payload.pool) payload.text

-- The file has a payload whose text the reader of documents refuses so, and the text has the cause
-- of that.
pub record HasWrongText (fail : DocFail) (file composite : List ℕ) : Type 0 where
  pub payload : Payload
  pub has : SealedPayload file composite payload
  pub refused : read_of payload ≡ Err fail
  pub cause : DocumentCause (setting_of payload) (map attachment payload.pool) payload.text fail

-- The document keeps a hash of its file's header that is not the header's.
pub record HasWrongHash (file composite kept found : List ℕ) : Type 0 where
  pub header : Header
  pub begins : Begins file header
  pub payload : Payload
  pub has : SealedPayload file composite payload
  pub read : DocumentAndHash
  pub is : read_of payload ≡ Ok read
  pub keeps : read.1 ≡ Some kept
  pub found_is : found ≡ sha256 (take header.size file)
  pub apart : kept ≢ found

-- The cause of each refusal.
abbrev pub OpenCause : OpenFail → (file composite : List ℕ) → Type 0
OpenCause (File fail) file composite = ⊥
OpenCause (Frame fail) file composite = HasWrongFrame fail file composite
OpenCause (KeyOrHeader kept found) file composite = HasWrongMac file composite kept found
OpenCause (Block fail) file composite = HasWrongBlocks fail file composite
OpenCause BadPadding file composite = HasBadPadding file composite
OpenCause StartBytes file composite = HasWrongStart file composite
OpenCause (StreamUnknown id) file composite = HasUnknownStream id file composite
OpenCause (Doc fail) file composite = HasWrongText fail file composite
OpenCause (HeaderHash kept found) file composite = HasWrongHash file composite kept found
OpenCause NoMemory file composite = ⊥

-- ---- the law

-- A file of bytes that is refused has the cause.
abbrev pub RefusalsHaveCauses : Type 0
RefusalsHaveCauses = (file composite : List ℕ) (fail : OpenFail) → AreBytes file
    → opening file composite ≡ Err fail → OpenCause fail file composite
