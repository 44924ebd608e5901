-- The contents of the authenticated blocks at the end of a file, as a function of its bytes, and as
-- what is in them.
use Rattle.std.specs.Prelude.{◌≡◌, ℕ, ◌+◌, ◌++◌, List, length, take, drop, Result, Ok, Err, nat_lt, bytes_eq, if◌then◌else◌}
use Rattle.std.specs.Int.{w32, to_le_bytes}
use Rattle.mac_core.specs.Blocks.{IsDamaged, IsUnfinished, IsWhole, concat_contents, mac_of, size_in}
use Rattle.mac_core.specs.Joining.{BlockRead, joined_contents}
use Rattle.mac_core.specs.declared.fail.BlockFail.{BlockFail}
use Rattle.mac_core.specs.declared.fail.BlockFail.TheVariants.{BlockMac, Truncated}

-- the content of the block that these bytes begin with, after its head, and the bytes after it
abbrev pub block_read : List ℕ → BlockRead
block_read bytes = record {
  content = take (size_in bytes) (drop 36 bytes);
  rest = drop (size_in bytes) (drop 36 bytes);
}

-- the head of block i with this content: its MAC and its size
abbrev pub head_of_block : List ℕ → ℕ → List ℕ → List ℕ
head_of_block base i content = mac_of base i content ++ to_le_bytes w32 (length content)

-- block i at the start of these bytes, which are the end of a file of `size` bytes: it is whole,
-- and has the head of its content
unfoldable pub block_at : List ℕ → ℕ → ℕ → List ℕ → Result BlockRead BlockFail
block_at base size i bytes =
    if nat_lt (length bytes) (36 + size_in bytes) then Err (Truncated size)
    else if bytes_eq (take 36 bytes) (head_of_block base i (block_read bytes).content) then Ok
    (block_read bytes)
    else Err (BlockMac i)

-- the contents of the blocks at the end of a file of `size` bytes, up to the end block, put end to
-- end
abbrev pub contents_of : List ℕ → ℕ → List ℕ → Result (List ℕ) BlockFail
contents_of base size bytes = joined_contents (block_at base size) (Truncated size) bytes

-- The bytes begin with right blocks and a right end block, whose contents these are; or a block is
-- wrong; or the file, of `size` bytes, ends before its end block does.
abbrev pub AreContents : List ℕ → ℕ → List ℕ → Result (List ℕ) BlockFail → Type 0
AreContents base size bytes (Ok content) = (parts : List (List ℕ))
    × (IsWhole base bytes parts × (content ≡ concat_contents parts))
AreContents base size bytes (Err (BlockMac i)) = IsDamaged base bytes i
AreContents base size bytes (Err (Truncated offset)) =
    (offset ≡ size) × ((parts : List (List ℕ))
    × ((rest : List ℕ) × IsUnfinished base bytes parts rest))
AreContents base size bytes (Err _) = ⊥
