-- A text XORed with a keystream, whole or in pieces, and what a contract sees of a stream cipher.
use Rattle.std.specs.Prelude.{◌≡◌, ℕ, ◌+◌, ◌*◌, ◌/◌, ◌%◌, ◌<◌, List, [], ◌∷◌, ◌++◌, length, bit_xor, slice_index}

-- a stream cipher: its key, its nonce, and the place in the stream of the next byte
pub record StreamCipher : Type 0 where
  pub key : List ℕ
  pub nonce : List ℕ
  pub position : ℕ

-- each byte of a text XORed with the stream's byte at its place, the first byte's place being given
abbrev pub xor_stream : (ℕ → ℕ) → ℕ → List ℕ → List ℕ
xor_stream stream place [] = []
xor_stream stream place (b ∷ bs) = bit_xor b (stream place) ∷ xor_stream stream (place + 1) bs

-- pieces of a text put end to end
abbrev pub concat_pieces : List (List ℕ) → List ℕ
concat_pieces [] = []
concat_pieces (t ∷ ts) = t ++ concat_pieces ts

-- the pieces XORed one after another, each from the place where the one before it ended
abbrev pub xor_stream_in_pieces : (ℕ → ℕ) → ℕ → List (List ℕ) → List ℕ
xor_stream_in_pieces stream place [] = []
xor_stream_in_pieces stream place (t ∷ ts) = xor_stream stream place t
    ++ xor_stream_in_pieces stream (place + length t) ts

-- 256 bytes are those of the stream round a place, counted from a multiple of 256; at such a
-- multiple they may be any
abbrev pub IsWindowAt : (ℕ → ℕ) → List ℕ → ℕ → Type 0
IsWindowAt stream window place =
    0 < place % 256 → (i : ℕ) → i < 256 → slice_index window i ≡ stream (256 * (place / 256) + i)
