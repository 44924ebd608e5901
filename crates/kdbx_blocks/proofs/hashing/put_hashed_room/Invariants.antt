use Rattle.std.proofs.Common.{◌≡◌, ◌+◌, ◌*◌, ◌++◌, replicate}
use Rattle.kdbx_blocks.proofs.hashing.put_hashed_room.Given as goal

abbrev pub invariant-heads : goal.invariant-heads
invariant-heads l = record {
  bytes : l.out.bytes ≡ l.fn.out.bytes ++ replicate (40 * l.counter) 0;
  spare : l.out.spare + 40 * l.counter ≡ l.fn.out.spare;
}
