-- The written form of a header.
use Rattle.std.specs.Prelude.{ℕ, List, [], ◌∷◌, ◌++◌, length, take, replicate, Option, Some, None, codes}
use Rattle.std.specs.Int.{w32, w64, to_le_bytes}
use Rattle.vault_model.specs.declared.forms.FileVersion.{FileVersion}
use Rattle.vault_model.specs.declared.forms.FileVersion.TheVariants.{V31, V40, V41}
use Rattle.key_core.specs.declared.kdf.Kdf.{Kdf}
use Rattle.key_core.specs.declared.kdf.Kdf.TheVariants as kdf
use Rattle.kdbx_frame.specs.declared.header.Header.{Header}
use Rattle.kdbx_frame.specs.declared.settings.Cipher.{Cipher}
use Rattle.kdbx_frame.specs.declared.settings.Cipher.TheVariants.{Aes, Twofish, ChaCha}
use Rattle.kdbx_frame.specs.declared.settings.Settings.{Settings}
use Rattle.kdbx_frame.specs.Fields.{length_width}
use Rattle.kdbx_frame.specs.Header.{signature}
use Rattle.kdbx_frame.specs.Settings.{aes_id, twofish_id, chacha_id, iv_len}
use Rattle.kdbx_writing.specs.declared.draws.Draws.{Draws}
use Rattle.kdbx_writing.specs.Fields.{spelled_fields_with}
use Rattle.kdbx_writing.specs.Kdf.{spelled_kdf, with_salt}

-- The number of a version, which follows the signature.
abbrev pub version_number : FileVersion → ℕ
version_number V31 = 0x00030001
version_number V40 = 0x00040000
version_number V41 = 0x00040001

-- The id of a cipher.
abbrev pub cipher_id : Cipher → List ℕ
cipher_id Aes = aes_id
cipher_id Twofish = twofish_id
cipher_id ChaCha = chacha_id

-- The field of the public data, where there are some.
abbrev pub public_fields : Option (List ℕ) → List (ℕ × List ℕ)
public_fields None = []
public_fields (Some bytes) = (12, bytes) ∷ []

-- The rounds of a key derivation by AES.
abbrev pub rounds_of : Kdf → ℕ
rounds_of (kdf.Aes rounds seed) = rounds
rounds_of (kdf.Argon kind passes memory lanes salt) = 0

-- The number of Salsa20, which hides the values of a written file of version 3.1.
abbrev pub salsa20 : ℕ
salsa20 = 2

-- The key of that stream, of 32 bytes.
abbrev pub stream_key_31 : Draws → List ℕ
stream_key_31 d = take 32 d.stream

-- The fields of a header of version 3.1 before the one that ends them: cipher, no compression,
-- master seed, seed and rounds of AES as the key derivation, IV, stream key, start bytes, inner
-- stream.
abbrev pub header_fields_31 : Settings → Draws → List (ℕ × List ℕ)
header_fields_31 s d =
    (2, cipher_id s.cipher)
    ∷ (3, to_le_bytes w32 0)
    ∷ (4, d.seed)
    ∷ (5, d.kdf)
    ∷ (6, to_le_bytes w64 (rounds_of s.kdf))
    ∷ (7, take (iv_len s.cipher) d.iv)
    ∷ (8, stream_key_31 d)
    ∷ (9, d.start)
    ∷ (10, to_le_bytes w32 salsa20) ∷ []

-- Those of a header of version 4: cipher, no compression, master seed, IV, key derivation, public
-- data.
abbrev pub header_fields_4 : Settings → Draws → List (ℕ × List ℕ)
header_fields_4 s d =
    (2, cipher_id s.cipher)
    ∷ (3, to_le_bytes w32 0)
    ∷ (4, d.seed)
    ∷ (7, take (iv_len s.cipher) d.iv)
    ∷ (11, spelled_kdf (with_salt s.kdf d.kdf))
    ∷ public_fields s.public

-- Those of a header of a version.
abbrev pub header_fields : FileVersion → Settings → Draws → List (ℕ × List ℕ)
header_fields V31 s d = header_fields_31 s d
header_fields V40 s d = header_fields_4 s d
header_fields V41 s d = header_fields_4 s d

-- The content of the field that ends a header.
abbrev pub header_end : List ℕ
header_end = codes "\r\n\r\n"

-- A header as it is written, with what was drawn for its file.
unfoldable pub spelled_header : Settings → Draws → List ℕ
spelled_header s d =
    signature ++ to_le_bytes w32 (version_number s.version)
    ++ spelled_fields_with (length_width s.version) (header_fields s.version s d) header_end

-- The settings of a written file: those given, with the drawn seed or salt of the key derivation.
abbrev pub settings_with : Settings → Draws → Settings
settings_with s d = record s { kdf = with_salt s.kdf d.kdf }

-- What a header of a version has of 3.1: the inner stream.
abbrev pub stream_id_with : FileVersion → ℕ
stream_id_with V31 = salsa20
stream_id_with V40 = 0
stream_id_with V41 = 0

-- The key of the inner stream.
abbrev pub stream_key_with : FileVersion → Draws → List ℕ
stream_key_with V31 d = stream_key_31 d
stream_key_with V40 d = []
stream_key_with V41 d = []

-- The bytes that the deciphered text begins with.
abbrev pub start_with : FileVersion → Draws → List ℕ
start_with V31 d = d.start
start_with V40 d = replicate 32 0
start_with V41 d = replicate 32 0

-- The header that is read where `spelled_header` was written.
abbrev pub header_with : Settings → Draws → Header
header_with s d = record {
  settings = settings_with s d;
  seed = d.seed;
  iv = d.iv;
  stream_id = stream_id_with s.version;
  stream_key = stream_key_with s.version d;
  start = start_with s.version d;
  size = length (spelled_header s d);
}
