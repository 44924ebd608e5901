-- The inner stream of a KDBX file, which hides the protected values of its document: which
-- keystream it is, and the place of its next byte.
use Rattle.std.specs.Prelude.{◌≡◌, ℕ, ◌+◌, ◌^◌, ◌≤◌, ◌==◌, List, [], ◌∷◌, Option, Some, None, if◌then◌else◌, take, drop, ⊤}
use Rattle.sha2.specs.Sha256.{sha256}
use Rattle.sha2.specs.Sha512.{sha512}
use Rattle.stream_core.specs.ChaCha20.{chacha_byte}
use Rattle.stream_core.specs.Salsa20.{salsa_byte}
use Rattle.stream_core.specs.declared.inner.InnerStream.{InnerStream}
use Rattle.stream_core.specs.declared.inner.InnerStream.TheVariants.{ChaCha, Salsa, Clear}

-- a keystream: that of ChaCha20 or of Salsa20 under a key and a nonce, or the one that changes
-- nothing
pub data Keystream : Type 0 where
  ChaChaKeystream : (key nonce : List ℕ) → Keystream
  SalsaKeystream : (key nonce : List ℕ) → Keystream
  NoKeystream : Keystream

-- the byte of a keystream at a place
abbrev pub keystream_byte : Keystream → ℕ → ℕ
keystream_byte (ChaChaKeystream key nonce) place = chacha_byte key nonce place
keystream_byte (SalsaKeystream key nonce) place = salsa_byte key nonce place
keystream_byte NoKeystream place = 0

-- the nonce of Salsa20 as an inner stream
abbrev pub kdbx_nonce : List ℕ
kdbx_nonce = 0xe8 ∷ 0x30 ∷ 0x09 ∷ 0x4b ∷ 0x97 ∷ 0x20 ∷ 0x5d ∷ 0x2a ∷ []

-- the keystream that a file asks for by a number and a stream key: 2 is Salsa20 under the SHA-256
-- of the stream key, 3 is ChaCha20 under the first 32 bytes of its SHA-512, with the next 12 as
-- nonce
abbrev pub keystream_of : ℕ → List ℕ → Option Keystream
keystream_of id stream_key =
    if id == 2 then Some (SalsaKeystream (sha256 stream_key) kdbx_nonce) else
    if id == 3 then Some (ChaChaKeystream (take 32 (sha512 stream_key))
    (take 12 (drop 32 (sha512 stream_key)))) else None

-- the keystream of an inner stream
abbrev pub keystream : InnerStream → Keystream
keystream (ChaCha c) = ChaChaKeystream c.key c.nonce
keystream (Salsa c) = SalsaKeystream c.key c.nonce
keystream Clear = NoKeystream

-- the place of an inner stream's next byte; one that is clear is at every place
abbrev pub IsAt : InnerStream → ℕ → Type 0
IsAt (ChaCha c) place = c.position ≡ place
IsAt (Salsa c) place = c.position ≡ place
IsAt Clear place = ⊤

-- an inner stream has this many bytes left, of 2^38; one that is clear has no end
abbrev pub HasLeft : InnerStream → ℕ → Type 0
HasLeft (ChaCha c) n = c.position + n ≤ 2 ^ 38
HasLeft (Salsa c) n = c.position + n ≤ 2 ^ 38
HasLeft Clear n = ⊤
