-- The ids of new nodes.
use Rattle.std.specs.Prelude.{ℕ, ◌+◌, ◌%◌, List, slice_index, slice_set}

-- The id that 16 drawn bytes make: the high four bits of byte 6 are 0100, the version, and the high
-- two bits of byte 8 are 10, the variant. The other bits are those that were drawn.
abbrev pub new_id : List ℕ → List ℕ
new_id drawn =
    slice_set (slice_set drawn 6 (slice_index drawn 6 % 16 + 64)) 8
    (slice_index drawn 8 % 64 + 128)
