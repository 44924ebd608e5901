use Rattle.std.proofs.Common.{◌≡◌, ◌+◌, ◌-◌, ◌*◌, ◌<◌, ◌≤◌, ◌++◌, length, take, drop}
use Rattle.kdbx_blocks.specs.Pieces.{hashed_heads_len, hashed_to_end, pieces}
use Rattle.kdbx_blocks.proofs.hashing.split_from.Given as goal

-- The blocks that were made, and those that are to be made of what is left, are the whole.
abbrev pub invariant-pieces : goal.invariant-pieces
invariant-pieces l = record {
  same : length l.text ≡ length l.fn.text;
  within : l.at ≤ length l.text;
  room : l.to + hashed_heads_len (length l.text - l.at) ≡ l.at;
  bytes : take l.to l.text ++ hashed_to_end l.index (pieces (drop l.at l.text))
      ≡ take l.from l.fn.text ++ hashed_to_end 0 (pieces (drop (l.from + hashed_heads_len l.len) l.fn.text));
  whole : l.at < length l.text → l.index * 1048576 + (length l.text - l.at) ≤ l.len;
  index : l.index * 1048576 ≤ l.len + 1048576;
}

abbrev pub decreases-pieces : goal.decreases-pieces
decreases-pieces l = length l.text - l.at
