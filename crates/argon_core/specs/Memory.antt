-- What the memory of a computation holds while it is filled in place: lane after lane, in each lane
-- a block for each column.
use Rattle.std.specs.Prelude.{◌≡◌, ℕ, ◌+◌, ◌*◌, ◌<◌, List, [], length, slice_index, slice_index_or}
use Rattle.argon_core.specs.Argon2.{blocks, lane_len, latest, memory_len, offset_of, segment_len}
use Rattle.argon_core.specs.declared.params.ArgonParams.{ArgonParams}
use Rattle.argon_core.specs.declared.params.Instance.{Instance}

-- where the block of a lane and a column is
abbrev pub place_in : ArgonParams → ℕ → ℕ → ℕ
place_in p lane column = lane * lane_len p + column

-- what the memory shows at a lane and a column
abbrev pub seen_in : ArgonParams → List (List ℕ) → ℕ → ℕ → List ℕ
seen_in p memory lane column = slice_index_or memory (place_in p lane column) []

-- the memory after n blocks: the latest block of each place that is filled
pub record HoldsBlocks (i : Instance) (memory : List (List ℕ)) (n : ℕ) : Type 0 where
  pub len : length memory ≡ memory_len i.params
  pub latest_blocks : (lane column : ℕ) → lane < i.params.lanes → column < lane_len i.params
      → offset_of i.params lane column < n
      → seen_in i.params memory lane column ≡ slice_index_or (blocks i n)
      (latest i.params n lane column) []

-- how many blocks are filled before a segment
abbrev pub segment_time : ArgonParams → ℕ → ℕ → ℕ → ℕ
segment_time p pass slice lane = pass * memory_len p + (slice * p.lanes + lane) * segment_len p

-- nothing is left of what the memory held: each word of it is zero
abbrev pub IsWiped : List ℕ → Type 0
IsWiped words = (k : ℕ) → k < length words → slice_index words k ≡ 0
