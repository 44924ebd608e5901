use Rattle.std.proofs.Common.{◌≡◌, ◌-◌, ◌≤◌, length, drop}
use Rattle.mac_core.specs.HashedBlocks.{hashed_at, hashed_contents_of}
use Rattle.mac_core.proofs.BlockMoves.{left}
use Rattle.mac_core.proofs.hashed.join_from.Given as goal

-- reading on from here, with the contents so far at the start of the text, gives what reading all of it gives
abbrev pub invariant-each : goal.invariant-each
invariant-each l = record {
  len : length l.text ≡ length l.fn.text;
  before : l.joined ≤ l.at;
  within : l.at ≤ length l.text;
  so_far : left 40 (hashed_at (length l.fn.text)) (length l.fn.text) (length l.fn.text - l.from - l.index) l.index l.joined l.at l.text
      ≡ hashed_contents_of (length l.fn.text) (drop l.from l.fn.text);
}
