-- A content in pieces, and the pieces in blocks.
use Rattle.std.specs.Prelude.{ℕ, zero, suc, ◌+◌, ◌*◌, ◌/◌, List, [], ◌∷◌, ◌++◌, length, take, drop}
use Rattle.mac_core.specs.Blocks.{block, blocks}
use Rattle.mac_core.specs.HashedBlocks.{hashed_block, hashed_blocks}

-- A content in pieces of n bytes, of which the last may have fewer; there are `most` at most.
unfoldable pub pieces_of : ℕ → ℕ → List ℕ → List (List ℕ)
pieces_of zero n content = []
pieces_of (suc most) n [] = []
pieces_of (suc most) n (b ∷ content) =
    take n (b ∷ content) ∷ pieces_of most n (drop n (b ∷ content))

-- A content in pieces of 1,048,576 bytes.
abbrev pub pieces : List ℕ → List (List ℕ)
pieces content = pieces_of (length content) 1048576 content

-- Blocks of these contents from block i on, and the end block, under the file's MAC base.
abbrev pub blocks_to_end : List ℕ → ℕ → List (List ℕ) → List ℕ
blocks_to_end base i contents = blocks base i contents ++ block base (i + length contents) []

-- Hashed blocks of these contents from block i on, and the end block.
abbrev pub hashed_to_end : ℕ → List (List ℕ) → List ℕ
hashed_to_end i contents = hashed_blocks i contents ++ hashed_block (i + length contents) []

-- How many bytes the heads of the hashed blocks of so many bytes take, with that of the end block.
abbrev pub hashed_heads_len : ℕ → ℕ
hashed_heads_len len = 40 * ((len + 1048575) / 1048576) + 40
