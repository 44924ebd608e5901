use Rattle.std.proofs.Common.{◌≡◌, ℕ, ◌+◌, List, length, map, arith, sym}
use Rattle.vault_model.specs.declared.forms.PoolItem.{PoolItem}
use Rattle.kdbx_inner.specs.Seen.{binary_seen}
use Rattle.kdbx_writing.specs.Inner.{spelled_inner}
use Rattle.kdbx_writing.specs.Pools.{pool_bytes}
use Rattle.kdbx_writing.proofs.InnerPieces.{inner_size}
use Rattle.kdbx_writing.proofs.inner.inner_len.Goals as goal

counted : (key : List ℕ) (pool : List PoolItem) (n : ℕ) → length key ≡ 64 → n ≡ length (pool_bytes pool)
    → length (spelled_inner key (map binary_seen pool)) ≡ 83 + n
counted key pool n len e = omega (arith, len, e, inner_size key pool)

pub pool_len-requires : goal.pool_len-requires
pool_len-requires c = omega (arith, c.requires, inner_size c.args.key.now c.args.pool.now)

pub overflow_add-result-2 : goal.overflow_add-result-2
overflow_add-result-2 c = omega (arith, c.requires, counted c.args.key.now c.args.pool.now c.pool_len.result c.told-key c.pool_len.ensures)

pub returns : goal.returns
returns c = sym (counted c.args.key.now c.args.pool.now c.pool_len.result c.told-key c.pool_len.ensures)
