-- The state of a sink after pieces were put into it, where a step is what a chunk makes of a state.
use Rattle.std.specs.Prelude.{ℕ, List, [], ◌∷◌}
use Rattle.doc_sinks.specs.Chunks.{Chunk, start_chunks, end_chunks, chunks, chunks_all}
use Rattle.doc_spelling.specs.Pieces.{Piece, Pieces}

-- after some chunks
abbrev pub after_chunks : {S : Type 0} → (S → Chunk → S) → S → List Chunk → S
after_chunks step s [] = s
after_chunks step s (c ∷ cs) = after_chunks step (step s c) cs

-- after a start tag
unfoldable pub after_start_tag : {S : Type 0} → (S → Chunk → S) → S → List ℕ
    → List (List ℕ × List ℕ) → S
after_start_tag step s name attributes = after_chunks step s (start_chunks name attributes)

-- after an end tag
unfoldable pub after_end_tag : {S : Type 0} → (S → Chunk → S) → S → List ℕ → S
after_end_tag step s name = after_chunks step s (end_chunks name)

-- after an element
unfoldable pub after_piece : {S : Type 0} → (S → Chunk → S) → S → Piece → S
after_piece step s piece = after_chunks step s (chunks piece)

-- after elements side by side
unfoldable pub after_pieces : {S : Type 0} → (S → Chunk → S) → S → Pieces → S
after_pieces step s pieces = after_chunks step s (chunks_all pieces)
