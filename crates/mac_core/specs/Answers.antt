-- What each answer of the block reader says of the bytes fed to it, whatever the pieces were.
use Rattle.std.specs.Prelude.{◌≡◌, ℕ, ◌+◌, List, ◌++◌, length, drop, Bool, true, false, Result, Ok, Err}
use Rattle.mac_core.specs.Blocks.{IsDamaged, IsUnfinished, IsWhole, concat_contents}
use Rattle.mac_core.specs.declared.fail.BlockFail.{BlockFail}
use Rattle.mac_core.specs.declared.fail.BlockFail.TheVariants.{BlockMac, Truncated}

-- what a reading began with: the MAC base, the place of the first block in the file, and what was
-- in the output before
pub record Start : Type 0 where
  pub base : List ℕ
  pub place : ℕ
  pub before : List ℕ

-- the end block was read, and the output has gained the blocks' contents and nothing else
pub record AtEnd (start : Start) (out bytes : List ℕ) : Type 0 where
  pub contents : List (List ℕ)
  pub whole : IsWhole start.base bytes contents
  pub given : out ≡ start.before ++ concat_contents contents

-- the bytes end within a block, of whose content, which no MAC vouches for yet, the output has what
-- there is
pub record AtPart (start : Start) (out bytes : List ℕ) : Type 0 where
  pub contents : List (List ℕ)
  pub rest : List ℕ
  pub unfinished : IsUnfinished start.base bytes contents rest
  pub given : out ≡ start.before ++ concat_contents contents ++ drop 36 rest

-- what an answer of `feed` says of all bytes fed since the start and of the output
abbrev pub FeedReturns : Start → List ℕ → List ℕ → Result Bool BlockFail → Type 0
FeedReturns start out bytes (Ok true) = AtEnd start out bytes
FeedReturns start out bytes (Ok false) = AtPart start out bytes
FeedReturns start out bytes (Err (BlockMac i)) = IsDamaged start.base bytes i
FeedReturns start out bytes (Err _) = ⊥

-- what an answer of `end` says: Truncated carries the place after the last byte, and no end block
-- was read
abbrev pub EndReturns : Start → List ℕ → List ℕ → Result (Unit {0}) BlockFail → Type 0
EndReturns start out bytes (Ok _) = AtEnd start out bytes
EndReturns start out bytes (Err (Truncated place)) =
    (place ≡ start.place + length bytes) × ((other : List ℕ) → AtEnd start other bytes → ⊥)
EndReturns start out bytes (Err _) = ⊥
