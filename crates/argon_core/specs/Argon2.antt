-- Argon2d and Argon2id, version 0x13, with a tag of 32 bytes (RFC 9106). The blocks are in lanes by
-- columns; a quarter of the columns is a slice, and the part of a lane in a slice a segment. Each
-- pass over the memory fills slice after slice, in a slice lane after lane, and in a lane column
-- after column. The numbers in brackets are the sections of the RFC.
use Rattle.std.specs.Prelude.{ℕ, ◌<◌, ◌≤◌, zero, suc, ◌+◌, ◌-◌, ◌*◌, ◌/◌, ◌%◌, ◌^◌, ◌==◌, ◌&&◌, ◌||◌, nat_lt, Option, Some, None, if◌then◌else◌, Bool, false, List, [], ◌∷◌, ◌++◌, length, replicate, slice_index, slice_index_or}
use Rattle.argon_core.specs.Words.{words, bytes_of}
use Rattle.argon_core.specs.Blake2b.{blake2b}
use Rattle.argon_core.specs.VariableHash.{le32, variable_hash}
use Rattle.argon_core.specs.Compression.{compression, xor_blocks}
use Rattle.argon_core.specs.declared.params.ArgonKind.{ArgonKind}
use Rattle.argon_core.specs.declared.params.ArgonKind.TheVariants.{D, Id}
use Rattle.argon_core.specs.declared.params.ArgonFail.{ArgonFail}
use Rattle.argon_core.specs.declared.params.ArgonFail.TheVariants.{Passes, Lanes, Kib, Salt}
use Rattle.argon_core.specs.declared.params.ArgonParams.{ArgonParams}
use Rattle.argon_core.specs.declared.params.Instance.{Instance}

-- the most lanes that this implementation allows
abbrev pub max_lanes : ℕ
max_lanes = 1024

-- the least memory of a lane, in units of 1,024 bytes
abbrev pub min_lane_kib : ℕ
min_lane_kib = 8

-- the most memory that this implementation allows, in units of 1,024 bytes
abbrev pub max_kib : ℕ
max_kib = 1048576

-- the fewest bytes of a salt
abbrev pub min_salt : ℕ
min_salt = 8

-- the most bytes of a salt that this implementation allows
abbrev pub max_salt : ℕ
max_salt = 1024

-- the limits of the parameters: each costs at least the smallest amount, and at most what this
-- implementation allows
pub record IsWithinLimits (p : ArgonParams) : Type 0 where
  pub some_passes : 0 < p.passes
  pub some_lanes : 1 ≤ p.lanes
  pub few_lanes : p.lanes ≤ max_lanes
  pub enough_memory : min_lane_kib * p.lanes ≤ p.kib
  pub little_memory : p.kib ≤ max_kib

-- the first limit that the parameters or a salt of this many bytes do not keep, if there is one
abbrev pub first_unmet : ArgonParams → ℕ → Option ArgonFail
first_unmet p salt_len =
    if p.passes == 0 then Some (Passes p.passes)
    else if (p.lanes == 0) || nat_lt max_lanes p.lanes then Some (Lanes p.lanes)
    else if nat_lt p.kib (min_lane_kib * p.lanes) || nat_lt max_kib p.kib then Some (Kib p.kib)
    else if nat_lt salt_len min_salt || nat_lt max_salt salt_len then Some (Salt salt_len)
    else None

-- the number of a type (3.1)
abbrev pub type_number : ArgonKind → ℕ
type_number D = 0
type_number Id = 2

-- the columns of a slice
unfoldable pub segment_len : ArgonParams → ℕ
segment_len p = p.kib / (4 * p.lanes)

-- the columns of a lane: q (3.2)
abbrev pub lane_len : ArgonParams → ℕ
lane_len p = 4 * segment_len p

-- the blocks of the memory: m' (3.2)
abbrev pub memory_len : ArgonParams → ℕ
memory_len p = p.lanes * lane_len p

-- some bytes after their number
abbrev pub with_len : List ℕ → List ℕ
with_len bytes = le32 (length bytes) ++ bytes

-- H 0, the hash of all parameters and inputs (3.2, step 1)
unfoldable pub first_hash : ArgonKind → ArgonParams → List ℕ → List ℕ → List ℕ → List ℕ → List ℕ
first_hash kind p password salt secret extra = blake2b 64
    (le32 p.lanes ++ le32 32 ++ le32 p.kib ++ le32 p.passes ++ le32 0x13 ++ le32 (type_number kind)
    ++ with_len password ++ with_len salt ++ with_len secret ++ with_len extra)

-- a block of the first two columns in the first pass (3.2, steps 3 and 4)
abbrev pub first_block : Instance → ℕ → ℕ → List ℕ
first_block i lane column = words 128 (variable_hash 1024
    (i.first_hash ++ le32 column ++ le32 lane))

-- the values that choose other blocks do not depend on the blocks (3.4.1.3)
abbrev pub is_independent : ArgonKind → ℕ → ℕ → Bool
is_independent D pass slice = false
is_independent Id pass slice = (pass == 0) && nat_lt slice 2

-- the input block of the addresses of a segment: Z, a counter, and zeros (3.4.1.2)
abbrev pub address_input : Instance → ℕ → ℕ → ℕ → ℕ → List ℕ
address_input i pass lane slice counter =
    pass ∷ lane ∷ slice ∷ memory_len i.params ∷ i.params.passes ∷ type_number i.kind ∷ counter ∷
    replicate 121 0

-- 128 values that choose other blocks (3.4.1.2)
unfoldable pub address_block : Instance → ℕ → ℕ → ℕ → ℕ → List ℕ
address_block i pass lane slice counter =
    let zeros = replicate 128 0 in
    compression zeros (compression zeros (address_input i pass lane slice counter))

-- the lane of the other block, from the value that chooses it: J 2 chooses, but in the first slice
-- of the first pass it is the own lane (3.4.2)
abbrev pub other_lane : ArgonParams → ℕ → ℕ → ℕ → ℕ → ℕ
other_lane p pass slice lane chooser =
    if (pass == 0) && (slice == 0) then lane else chooser / 2 ^ 32 % p.lanes

-- the size of the set W of blocks to choose from: the slices that are finished and, in the own
-- lane, the columns of this segment, but for the block before; in another lane not the last column
-- of the slice before where this segment begins (3.4.2)
abbrev pub window_len : ArgonParams → ℕ → ℕ → ℕ → Bool → ℕ
window_len p pass slice place is_own =
    let finished = (if pass == 0 then slice else 3) * segment_len p in
    if is_own then finished + place - 1 else finished - (if place == 0 then 1 else 0)

-- the first column of W: that after the own slice, once the memory is full (3.4.2)
abbrev pub window_start : ArgonParams → ℕ → ℕ → ℕ
window_start p pass slice = if pass == 0 then 0 else (slice + 1) % 4 * segment_len p

-- the place in W that J 1 chooses: the later, the likelier (3.4.2)
abbrev pub chosen_place : ℕ → ℕ → ℕ
chosen_place len chooser =
    let j1 = chooser % 2 ^ 32 in
    let x = j1 * j1 / 2 ^ 32 in
    len - 1 - len * x / 2 ^ 32

-- the column of the other block (3.4.2)
abbrev pub other_column : ArgonParams → ℕ → ℕ → ℕ → Bool → ℕ → ℕ
other_column p pass slice place is_own chooser =
    (window_start p pass slice + chosen_place (window_len p pass slice place is_own) chooser) %
    lane_len p

-- the column before, round the end of the lane
abbrev pub column_before : ArgonParams → ℕ → ℕ
column_before p column = if column == 0 then lane_len p - 1 else column - 1

-- the value that chooses the other block of a place: counters give it, or the block before (3.4.1)
abbrev pub chooser_of : Instance → List ℕ → ℕ → ℕ → ℕ → ℕ → ℕ
chooser_of i before pass slice lane place =
    if is_independent i.kind pass slice
    then slice_index (address_block i pass lane slice (place / 128 + 1)) (place % 128)
    else slice_index before 0

-- a block that is mixed of others, at a place of a segment, where the memory shows `seen lane
-- column` (3.2, steps 5 and 6)
unfoldable pub mixed_from : Instance → (ℕ → ℕ → List ℕ) → ℕ → ℕ → ℕ → ℕ → List ℕ
mixed_from i seen pass slice lane place =
    let p = i.params in
    let column = slice * segment_len p + place in
    let before = seen lane (column_before p column) in
    let chooser = chooser_of i before pass slice lane place in
    let l = other_lane p pass slice lane chooser in
    let fresh = compression before (seen l (other_column p pass slice place (l == lane) chooser)) in
    if pass == 0 then fresh else xor_blocks fresh (seen lane column)

-- the block that is filled in next, at a place of a segment (3.2, steps 3 to 6)
unfoldable pub next_from : Instance → (ℕ → ℕ → List ℕ) → ℕ → ℕ → ℕ → ℕ → List ℕ
next_from i seen pass slice lane place =
    let column = slice * segment_len i.params + place in
    if (pass == 0) && nat_lt column 2
    then first_block i lane column
    else mixed_from i seen pass slice lane place

-- the pass of block n in order of filling
abbrev pub pass_of : ArgonParams → ℕ → ℕ
pass_of p n = n / memory_len p

-- its slice
abbrev pub slice_of : ArgonParams → ℕ → ℕ
slice_of p n = n % memory_len p / segment_len p / p.lanes

-- its lane
abbrev pub lane_of : ArgonParams → ℕ → ℕ
lane_of p n = n % memory_len p / segment_len p % p.lanes

-- its place in its segment
abbrev pub place_of : ArgonParams → ℕ → ℕ
place_of p n = n % memory_len p % segment_len p

-- how many blocks a pass fills before that of this lane and column
abbrev pub offset_of : ArgonParams → ℕ → ℕ → ℕ
offset_of p lane column =
    (column / segment_len p * p.lanes + lane) * segment_len p + column % segment_len p

-- how many blocks are filled before that of this pass, lane and column
abbrev pub time_of : ArgonParams → ℕ → ℕ → ℕ → ℕ
time_of p pass lane column = pass * memory_len p + offset_of p lane column

-- which block is at this lane and column after n blocks: that of this pass, or if it is not
-- filled yet that of the pass before
abbrev pub latest : ArgonParams → ℕ → ℕ → ℕ → ℕ
latest p n lane column =
    let t = time_of p (pass_of p n) lane column in
    if nat_lt t n then t else t - memory_len p

-- the first n blocks in order of filling
unfoldable pub blocks : Instance → ℕ → List (List ℕ)
blocks i zero = []
blocks i (suc n) =
    let p = i.params in
    let before = blocks i n in
    let seen = λ (lane column : ℕ). slice_index_or before (latest p n lane column) [] in
    before ++ next_from i seen (pass_of p n) (slice_of p n) (lane_of p n) (place_of p n) ∷ []

-- the block of a pass, a lane and a column
abbrev pub block : Instance → ℕ → ℕ → ℕ → List ℕ
block i pass lane column =
    let t = time_of i.params pass lane column in
    slice_index_or (blocks i (t + 1)) t []

-- the exclusive or of the last blocks of the first n lanes, after the last pass (3.2, step 7)
unfoldable pub last_blocks : Instance → ℕ → List ℕ
last_blocks i zero = replicate 128 0
last_blocks i (suc n) = xor_blocks (last_blocks i n)
    (block i (i.params.passes - 1) n (lane_len i.params - 1))

-- the tag (3.2, step 8)
unfoldable pub tag_of : Instance → List ℕ
tag_of i = variable_hash 32 (bytes_of (last_blocks i i.params.lanes))

-- Argon2 of a password, a salt, a secret and extra data
abbrev pub argon2 : ArgonKind → ArgonParams → List ℕ → List ℕ → List ℕ → List ℕ → List ℕ
argon2 kind p password salt secret extra =
    tag_of (record {
      kind = kind;
      params = p;
      first_hash = first_hash kind p password salt secret
          extra;
    })
