-- The parts of the message whose MAC a block has, as they are hashed side by side with those of
-- other blocks.
use Rattle.std.specs.Prelude.{ℕ, List, ◌++◌, length, take}
use Rattle.std.specs.Int.{w32, w64, to_le_bytes}

-- the first 64 bytes of it: the block's index, the content's size and its first bytes
abbrev pub first_bytes : ℕ → List ℕ → List ℕ
first_bytes i content = to_le_bytes w64 i ++ (to_le_bytes w32 (length content) ++ take 52 content)
