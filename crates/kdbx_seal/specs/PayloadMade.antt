-- The bytes of a file, as a function of all that it is made from.
use Rattle.std.specs.Prelude.{ℕ, List, ◌++◌, take, drop}
use Rattle.sha2.specs.Sha256.{sha256}
use Rattle.sha2.specs.Sha512.{sha512}
use Rattle.stream_core.specs.InnerStream.{ChaChaKeystream, Keystream, SalsaKeystream, kdbx_nonce}
use Rattle.vault_model.specs.declared.forms.FileVersion.{FileVersion}
use Rattle.vault_model.specs.declared.forms.FileVersion.TheVariants.{V31, V40, V41}
use Rattle.kdbx_frame.specs.declared.settings.Settings.{Settings}
use Rattle.kdbx_inner.specs.Inner.{Binary}
use Rattle.kdbx_writing.specs.declared.draws.Draws.{Draws}
use Rattle.kdbx_writing.specs.Header.{header_with, settings_with, spelled_header, stream_key_31}
use Rattle.kdbx_writing.specs.Inner.{spelled_inner}
use Rattle.kdbx_payload.specs.HeaderMacs.{base_of, header_mac, key_of}
use Rattle.kdbx_payload.specs.Payloads.{Payload}
use Rattle.kdbx_blocks.specs.Pieces.{blocks_to_end, hashed_to_end, pieces}
use Rattle.kdbx_seal.specs.Enciphered.{enciphered_text}

-- The file of version 4 of a header and a content, under the file's MAC base: the header, its hash,
-- its MAC, and the content in blocks.
abbrev pub file_of_4 : List ℕ → List ℕ → List ℕ → List ℕ
file_of_4 base header content =
    header ++ sha256 header ++ header_mac base header ++ blocks_to_end base 0 (pieces content)

-- The file of a version: in 3.1 the header, and the content as it is.
abbrev pub file_of : FileVersion → List ℕ → List ℕ → List ℕ → List ℕ
file_of V31 base header content = header ++ content
file_of V40 base header content = file_of_4 base header content
file_of V41 base header content = file_of_4 base header content

-- The content of a file of version 4 before it is enciphered: inner fields with the attached files,
-- and the text of the document.
abbrev pub plain_content_4 : Draws → List Binary → List ℕ → List ℕ
plain_content_4 d pool text = spelled_inner d.stream pool ++ text

-- That of a file of version 3.1: the start bytes, and the text of the document in hashed blocks.
abbrev pub plain_content_31 : Draws → List ℕ → List ℕ
plain_content_31 d text = d.start ++ hashed_to_end 0 (pieces text)

-- That of a file of a version.
abbrev pub plain_content : FileVersion → Draws → List Binary → List ℕ → List ℕ
plain_content V31 d pool text = plain_content_31 d text
plain_content V40 d pool text = plain_content_4 d pool text
plain_content V41 d pool text = plain_content_4 d pool text

-- A content enciphered under the key of its file's cipher.
abbrev pub content_of : List ℕ → Settings → Draws → List ℕ → List ℕ
content_of key s d plain = enciphered_text s.cipher key d.iv plain

-- The file of these settings with these draws, under a composite key, that has this content.
unfoldable pub made_with : Settings → Draws → List ℕ → List ℕ → List ℕ
made_with s d composite plain =
    file_of s.version (base_of (header_with s d) composite) (spelled_header s d)
    (content_of (key_of (header_with s d) composite) s d plain)

-- The file of these settings with these draws, under a composite key, that has these attached files
-- and this text of a document.
abbrev pub made : Settings → Draws → List ℕ → List Binary → List ℕ → List ℕ
made s d composite pool text = made_with s d composite (plain_content s.version d pool text)

-- The keystream of ChaCha20 under a stream key.
abbrev pub chacha_keystream : List ℕ → Keystream
chacha_keystream key = ChaChaKeystream (take 32 (sha512 key)) (take 12 (drop 32 (sha512 key)))

-- The keystream of Salsa20 under the first 32 bytes of a stream key.
abbrev pub salsa_keystream : List ℕ → Keystream
salsa_keystream key = SalsaKeystream (sha256 (take 32 key)) kdbx_nonce

-- The keystream of a written file, which hides values in its document: in version 4 ChaCha20 under
-- the drawn stream key, in 3.1 Salsa20 under its first 32 bytes.
abbrev pub written_keystream : FileVersion → Draws → Keystream
written_keystream V31 d = SalsaKeystream (sha256 (stream_key_31 d)) kdbx_nonce
written_keystream V40 d = chacha_keystream d.stream
written_keystream V41 d = chacha_keystream d.stream

-- The payload of the file that is made.
abbrev pub made_payload : Settings → Draws → List Binary → List ℕ → Payload
made_payload s d pool text = record {
  settings = settings_with s d;
  pool = pool;
  stream = written_keystream s.version d;
  header_hash = sha256 (spelled_header s d);
  text = text;
}
