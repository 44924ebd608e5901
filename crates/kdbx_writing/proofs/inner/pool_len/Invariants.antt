use Rattle.std.proofs.Common.{◌≡◌, ◌+◌, length}
use Rattle.kdbx_writing.specs.Pools.{pool_bytes}
use Rattle.kdbx_writing.proofs.inner.pool_len.Given as goal

-- What was counted and what is left to count are the whole.
abbrev pub invariant-files : goal.invariant-files
invariant-files l = l.len + length (pool_bytes l.left) ≡ length (pool_bytes l.pool)

abbrev pub decreases-files : goal.decreases-files
decreases-files l = length l.left
