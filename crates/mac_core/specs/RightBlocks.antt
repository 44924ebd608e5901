-- Right blocks at the start of some bytes, before what is after them is read.
use Rattle.std.specs.Prelude.{◌≡◌, ℕ, zero, suc, ◌+◌, ◌<◌, ◌≤◌, List, length, take, ⊤}
use Rattle.mac_core.specs.Blocks.{size_in}
use Rattle.mac_core.specs.Contents.{block_read, head_of_block}

-- the bytes begin with block i, which is right and has a content
pub record IsRight (base : List ℕ) (i : ℕ) (bytes : List ℕ) : Type 0 where
  pub whole : 36 + size_in bytes ≤ length bytes
  pub some : 0 < size_in bytes
  pub same : take 36 bytes ≡ head_of_block base i (block_read bytes).content

-- the bytes begin with n such blocks, the first of them being block i
unfoldable pub AreRight : List ℕ → ℕ → ℕ → List ℕ → Type 0
AreRight base zero i bytes = ⊤
AreRight base (suc n) i bytes = IsRight base i bytes
    × AreRight base n (suc i) (block_read bytes).rest
