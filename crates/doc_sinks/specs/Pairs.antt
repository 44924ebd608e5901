-- Pairs of bytes and whether they are hidden, as keys of a map.
use Rattle.std.specs.Prelude.{ℕ, Bool, List}
use Rattle.std.specs.Cmp.{IsTotalOrder, on_total, then_total, bool_cmp_total}
use Rattle.std.specs.Cmp.Lexicographic.{nat_list_cmp_total}
use Rattle.std.specs.Ordering.{bool_cmp}
use Rattle.std.specs.declared.cmp.Ordering.{Ordering}
use Rattle.vault_model.specs.Orders.{bytes_cmp, pair_cmp}
use Rattle.doc_sinks.specs.declared.pairs.Pair.{Pair}
use Rattle.doc_spelling.specs.Pool.{PoolPair}

-- a pair without memory
abbrev pub pool_pair : Pair → PoolPair
pool_pair p = (p.bytes.now, p.hidden)

-- pairs by their bytes, and then by whether they are hidden
unfoldable pub pool_pair_cmp : PoolPair → PoolPair → Ordering
pool_pair_cmp = pair_cmp bytes_cmp bool_cmp

-- a total order
pub pool_pair_total : IsTotalOrder pool_pair_cmp
unfolding pool_pair_cmp
pool_pair_total = then_total (on_total {J = List ℕ} (λ (p : PoolPair). p.0) nat_list_cmp_total)
    (on_total {J = Bool} (λ (p : PoolPair). p.1) bool_cmp_total)
