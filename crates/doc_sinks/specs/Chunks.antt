-- The text of a document in the chunks in which it is put.
use Rattle.std.specs.Prelude.{ℕ, ◌+◌, List, [], ◌∷◌, ◌++◌, length, codes, flat_map}
use Rattle.base64.specs.GeneralPurpose.{encode_of}
use Rattle.base64.specs.Engines.{standard}
use Rattle.doc_spelling.specs.Pieces.{Piece, Pieces, leaf, secret, box, none, beside, hidden_text, protected_attribute}
use Rattle.markup_grammar.specs.Escapes.{escaped}
use Rattle.stream_core.specs.InnerStream.{Keystream}

-- Bytes as they are written, or bytes that the keystream hides before they are written in base64.
pub data Chunk : Type 0 where
  plain : List ℕ → Chunk
  hidden : List ℕ → Chunk

-- bytes in base64
abbrev pub base64 : List ℕ → List ℕ
base64 bytes = encode_of standard bytes

-- an attribute
abbrev pub attribute_chunks : List ℕ × List ℕ → List Chunk
attribute_chunks a =
    plain (codes " ") ∷ plain a.0 ∷ plain (codes "=\"") ∷ plain (escaped a.1)
    ∷ plain (codes "\"") ∷ []

-- a start tag
abbrev pub start_chunks : List ℕ → List (List ℕ × List ℕ) → List Chunk
start_chunks name attributes =
    plain (codes "<") ∷ plain name ∷ (flat_map attribute_chunks attributes ++
    (plain (codes ">") ∷ []))

-- an end tag
abbrev pub end_chunks : List ℕ → List Chunk
end_chunks name = plain (codes "</") ∷ plain name ∷ plain (codes ">") ∷ []

abbrev mutual
  -- an element
  pub chunks : Piece → List Chunk
  chunks (leaf name attributes t) =
      start_chunks name attributes ++ (plain (escaped t) ∷ end_chunks name)
  chunks (secret name attributes bytes) =
      start_chunks name (attributes ++ protected_attribute ∷ []) ++ (hidden bytes ∷ end_chunks name)
  chunks (box name pieces) = start_chunks name [] ++ (chunks_all pieces ++ end_chunks name)

  -- elements side by side
  pub chunks_all : Pieces → List Chunk
  chunks_all none = []
  chunks_all (beside x xs) = chunks x ++ chunks_all xs

-- ---- their bytes

-- those of a chunk whose first hidden byte is at this offset of the keystream
abbrev pub chunk_bytes : Keystream → ℕ → Chunk → List ℕ
chunk_bytes k offset (plain bytes) = bytes
chunk_bytes k offset (hidden bytes) = hidden_text k offset bytes

-- how many bytes of the keystream a chunk uses
abbrev pub chunk_hides : Chunk → ℕ
chunk_hides (plain bytes) = 0
chunk_hides (hidden bytes) = length bytes

-- the bytes of chunks one after another
abbrev pub bytes_of : Keystream → ℕ → List Chunk → List ℕ
bytes_of k offset [] = []
bytes_of k offset (c ∷ cs) = chunk_bytes k offset c ++ bytes_of k (offset + chunk_hides c) cs

-- how many bytes of the keystream they use
abbrev pub hides : List Chunk → ℕ
hides [] = 0
hides (c ∷ cs) = chunk_hides c + hides cs
