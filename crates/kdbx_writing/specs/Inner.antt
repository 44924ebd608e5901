-- The written form of the inner fields, which come before a document.
use Rattle.std.specs.Prelude.{ℕ, ◌+◌, ◌<◌, ◌^◌, List, [], ◌∷◌, length, map, if◌then◌else◌}
use Rattle.std.specs.Int.{w32, to_le_bytes}
use Rattle.kdbx_inner.specs.Inner.{Binary, InnerFields}
use Rattle.kdbx_writing.specs.Fields.{spelled_fields}

-- The field of an attached file: a byte of flags, which says whether it is hidden, and its bytes.
abbrev pub binary_field : Binary → ℕ × List ℕ
binary_field b = (3, (if b.hidden then 1 else 0) ∷ b.bytes)

-- The inner fields before the one that ends them: the stream ChaCha20, its key, attached files.
abbrev pub inner_fields : List ℕ → List Binary → List (ℕ × List ℕ)
inner_fields key pool = (1, to_le_bytes w32 3) ∷ (2, key) ∷ map binary_field pool

-- The inner fields as they are written.
unfoldable pub spelled_inner : List ℕ → List Binary → List ℕ
spelled_inner key pool = spelled_fields (inner_fields key pool) []

-- An attached file for which a field has room.
abbrev pub FitsField : Binary → Type 0
FitsField b = length b.bytes + 1 < 2 ^ 32

-- The inner fields that are read where `spelled_inner` was written.
abbrev pub inner_with : List ℕ → List Binary → InnerFields
inner_with key pool = record {
  stream_id = 3;
  stream_key = key;
  pool = pool;
  size = length (spelled_inner key pool);
}
