-- What the sinks make of a chunk: one counts its bytes, the other keeps them.
use Rattle.std.specs.Prelude.{ℕ, ◌+◌, ◌-◌, ◌^◌, ◌&&◌, nat_le, if◌then◌else◌, List, ◌++◌, length, min}
use Rattle.base64.specs.Engines.{standard}
use Rattle.base64.specs.GeneralPurpose.{encoded_size_of}
use Rattle.doc_sinks.specs.Chunks.{Chunk, plain, hidden}
use Rattle.doc_spelling.specs.Pieces.{hidden_text}
use Rattle.stream_core.specs.InnerStream.{Keystream}

-- how many bytes base64 takes
abbrev pub coded_len : ℕ → ℕ
coded_len n = encoded_size_of standard n

-- how many bytes are written for a chunk
abbrev pub chunk_len : Chunk → ℕ
chunk_len (plain bytes) = length bytes
chunk_len (hidden bytes) = coded_len (length bytes)

-- a count with those of a chunk; the last number of 64 bits is given for every larger one
abbrev pub count_with : ℕ → Chunk → ℕ
count_with n c = min (n + chunk_len c) 18446744073709551615

-- A text that is being written: its bytes, the room after them, the keystream, and the offset of
-- the keystream's next byte.
pub record TextState : Type 0 where
  pub bytes : List ℕ
  pub spare : ℕ
  pub key : Keystream
  pub offset : ℕ

-- a text with a chunk after it; one for which there is no room, or too little of the keystream, is
-- left out
unfoldable pub with_chunk : TextState → Chunk → TextState
with_chunk s (plain bytes) =
    if nat_le (length bytes) s.spare
    then record {
      bytes = s.bytes ++ bytes;
      spare = s.spare - length bytes;
      key = s.key;
      offset = s.offset;
    }
    else s
with_chunk s (hidden bytes) =
    if nat_le (coded_len (length bytes)) s.spare && nat_le (s.offset + length bytes) (2 ^ 38)
    then record {
      bytes = s.bytes ++ hidden_text s.key s.offset bytes;
      spare = s.spare - coded_len (length bytes);
      key = s.key;
      offset = s.offset + length bytes;
    }
    else s
