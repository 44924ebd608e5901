-- A pool that is gathered, with the numbers of its pairs.
use Rattle.std.specs.Prelude.{◌≡◌, ℕ, if◌then◌else◌, Option, Some, None, List, map}
use Rattle.std.specs.BTreeMap.{BTreeMap, get}
use Rattle.std.specs.List.{list_any}
use Rattle.std.specs.Ordering.{on}
use Rattle.vault_model.specs.declared.forms.PoolItem.{PoolItem}
use Rattle.doc_spelling.specs.DocForms.SeenDocuments.{pool_item}
use Rattle.doc_sinks.specs.Pairs.{pool_pair, pool_pair_cmp}
use Rattle.doc_sinks.specs.declared.pairs.Pair.{Pair}
use Rattle.doc_spelling.specs.Pool.{PoolPair, is_pair, number_in, with_pairs}

-- the number of a pair that is in a pool
abbrev pub number_at : List PoolPair → PoolPair → Option ℕ
number_at pool p = if list_any (is_pair p) pool then Some (number_in pool p) else None

-- a map has the number of each pair of a pool, and of no other
abbrev pub HasNumbers : BTreeMap Pair ℕ → List PoolPair → Type 0
HasNumbers numbers pool =
    (p : Pair) → get (on pool_pair pool_pair_cmp) numbers p ≡ number_at pool (pool_pair p)

-- What becomes of a pool and its numbers when pairs are gathered, where the numbers were right.
pub record Gathered (before pairs : List PoolPair) (after : BTreeMap Pair ℕ)
    (items : List PoolItem) : Type 0 where
  pub pool : map pool_item items ≡ with_pairs before pairs
  pub numbers : HasNumbers after (map pool_item items)

-- the same as a step from a pool and its numbers to others
unfoldable pub Gathers : BTreeMap Pair ℕ → List PoolItem → BTreeMap Pair ℕ → List PoolItem
    → List PoolPair → Type 0
Gathers numbers items numbers_after items_after pairs =
    HasNumbers numbers (map pool_item items)
    → Gathered (map pool_item items) pairs numbers_after items_after
