-- The hashed blocks of a KDBX 3.1 file, which follow the start bytes of its deciphered text: index,
-- hash of the content, size, content. The end block has no content, and zeros for a hash.
use Rattle.std.specs.Prelude.{◌≡◌, ℕ, ◌+◌, List, [], ◌++◌, length, take, drop, replicate, All, Result, Ok, Err, nat_lt, bytes_eq, ◌==◌, if◌then◌else◌}
use Rattle.std.specs.Int.{w32, to_le_bytes, from_le_bytes}
use Rattle.sha2.specs.Sha256.{sha256}
use Rattle.mac_core.specs.Blocks.{IsContent}
use Rattle.mac_core.specs.Joining.{BlockRead, joined_contents, written_blocks}
use Rattle.mac_core.specs.declared.fail.BlockFail.{BlockFail}
use Rattle.mac_core.specs.declared.fail.BlockFail.TheVariants.{BlockHash, BlockIndex, Truncated}

-- ---- as they are written

-- the hash that a block stores of its content: its SHA-256; zeros where there is no content
unfoldable pub content_hash : List ℕ → List ℕ
content_hash content = if length content == 0 then replicate 32 0 else sha256 content

-- the head of block i with this content: its index, its hash and its size
abbrev pub hashed_head : ℕ → List ℕ → List ℕ
hashed_head i content = to_le_bytes w32 i ++ content_hash content
    ++ to_le_bytes w32 (length content)

-- block i with this content, as it is in a file
abbrev pub hashed_block : ℕ → List ℕ → List ℕ
hashed_block i content = hashed_head i content ++ content

-- blocks with these contents, one after the other, the first of them being block i
abbrev pub hashed_blocks : ℕ → List (List ℕ) → List ℕ
hashed_blocks i contents = written_blocks hashed_block i contents

-- ---- as they are read

-- the size that the head of the block gives with which these bytes begin; what is missing of it
-- counts as 0
abbrev pub hashed_size_in : List ℕ → ℕ
hashed_size_in bytes = from_le_bytes w32 (take 4 (drop 36 bytes))

-- the content of that block, after its head, and the bytes after it
abbrev pub hashed_read : List ℕ → BlockRead
hashed_read bytes = record {
  content = take (hashed_size_in bytes) (drop 40 bytes);
  rest = drop (hashed_size_in bytes) (drop 40 bytes);
}

-- block i at the start of these bytes, which are the end of a text of `size` bytes: it is whole,
-- and has the head of its content; if it has not, either its index is another or its hash is
unfoldable pub hashed_at : ℕ → ℕ → List ℕ → Result BlockRead BlockFail
hashed_at size i bytes =
    if nat_lt (length bytes) (40 + hashed_size_in bytes) then Err (Truncated size)
    else if bytes_eq (take 40 bytes) (hashed_head i (hashed_read bytes).content) then Ok
    (hashed_read bytes)
    else if bytes_eq (take 4 bytes) (to_le_bytes w32 i) then Err (BlockHash i)
    else Err (BlockIndex i)

-- the contents of the blocks at the end of a text of `size` bytes, up to the end block, put end to
-- end
abbrev pub hashed_contents_of : ℕ → List ℕ → Result (List ℕ) BlockFail
hashed_contents_of size bytes = joined_contents (hashed_at size) (Truncated size) bytes

-- ---- what is in them

-- the bytes begin with right blocks of these contents and a right end block
pub record AreHashed (bytes : List ℕ) (contents : List (List ℕ)) : Type 0 where
  pub tail : List ℕ
  pub each : All IsContent contents
  pub is : bytes ≡ hashed_blocks 0 contents ++ hashed_block (length contents) [] ++ tail
