-- Blocks one after another, and their contents put end to end. What bytes are a block is left open.
use Rattle.std.specs.Prelude.{ℕ, zero, suc, List, [], ◌∷◌, ◌++◌, length, Result, Ok, Err, ◌==◌, if◌then◌else◌}
use Rattle.outside_core.specs.Results.{◌>>=◌}

-- a block at the start of some bytes: its content, and the bytes after it
pub record BlockRead : Type 0 where
  pub content : List ℕ
  pub rest : List ℕ

-- The contents of the blocks that these bytes begin with, up to the end block, which has no
-- content, after the contents that were `given`. The first block has index i, and there are n at
-- most; `read` reads one, and `exhausted` is the error where none is left to read.
unfoldable pub contents_from : {E : Type 0} → (ℕ → List ℕ → Result BlockRead E) → E → ℕ → ℕ → List ℕ
    → List ℕ → Result (List ℕ) E
contents_from read exhausted zero i given bytes = Err exhausted
contents_from read exhausted (suc n) i given bytes =
    read i bytes >>= λ b. if length b.content == 0 then Ok given else contents_from read exhausted n
    (suc i) (given ++ b.content) b.rest

-- the contents of the blocks from block 0 on; each block has a byte at least
abbrev pub joined_contents : {E : Type 0} → (ℕ → List ℕ → Result BlockRead E) → E → List ℕ
    → Result (List ℕ) E
joined_contents read exhausted bytes = contents_from read exhausted (length bytes) 0 [] bytes

-- blocks with these contents, each as `write` writes it, one after the other, the first of them
-- being block i
unfoldable pub written_blocks : (ℕ → List ℕ → List ℕ) → ℕ → List (List ℕ) → List ℕ
written_blocks write i [] = []
written_blocks write i (content ∷ contents) = write i content
    ++ written_blocks write (suc i) contents
