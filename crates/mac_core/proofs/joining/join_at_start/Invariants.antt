use Rattle.std.proofs.Common.{◌≡◌, ◌-◌, ◌≤◌, length, drop}
use Rattle.mac_core.specs.Contents.{block_at, contents_of}
use Rattle.mac_core.specs.RightBlocks.{AreRight}
use Rattle.mac_core.proofs.BlockMoves.{left}
use Rattle.mac_core.proofs.joining.join_at_start.Given as goal

-- reading on from here, with the contents so far at the start of the text, gives what reading all of it gives
abbrev pub invariant-each : goal.invariant-each
invariant-each l = record {
  len : length l.text ≡ length l.fn.text;
  before : l.joined ≤ l.at;
  within : l.at ≤ length l.text;
  so_far : left 36 (block_at l.base l.size) l.size (length l.fn.text - l.index) l.index l.joined l.at l.text
      ≡ contents_of l.base l.size l.fn.text;
  right : AreRight l.base l.known l.index (drop l.at l.text);
}
