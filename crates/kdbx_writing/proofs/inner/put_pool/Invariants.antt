use Rattle.std.proofs.Common.{◌≡◌, ◌+◌, ◌≤◌, ◌++◌, length, map}
use Rattle.std.specs.List.{AllByRecursion}
use Rattle.kdbx_inner.specs.Seen.{binary_seen}
use Rattle.kdbx_writing.specs.Inner.{FitsField}
use Rattle.kdbx_writing.specs.Pools.{pool_bytes}
use Rattle.kdbx_writing.proofs.inner.put_pool.Given as goal

-- What was put and what is left to put are the whole.
abbrev pub invariant-files : goal.invariant-files
invariant-files l = record {
  small : AllByRecursion FitsField (map binary_seen l.left);
  spare : length (pool_bytes l.left) ≤ l.out.spare;
  bytes : l.out.bytes ++ pool_bytes l.left ≡ l.fn.out.bytes ++ pool_bytes l.pool;
  left : l.out.spare + length (pool_bytes l.pool) ≡ l.fn.out.spare + length (pool_bytes l.left);
}

abbrev pub decreases-files : goal.decreases-files
decreases-files l = length l.left
