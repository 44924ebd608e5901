-- Inner fields as the pieces that they are written in.
use Rattle.std.proofs.Common.{◌≡◌, ℕ, ◌+◌, List, [], ◌∷◌, ◌++◌, length, map, sym, ap, ◌∙◌, arith, append_assoc, length-append}
use Rattle.std.specs.Int.{w32, to_le_bytes}
use Rattle.vault_model.specs.declared.forms.PoolItem.{PoolItem}
use Rattle.kdbx_inner.specs.Seen.{binary_seen}
use Rattle.kdbx_writing.specs.Fields.{spelled_field}
use Rattle.kdbx_writing.specs.Inner.{spelled_inner}
use Rattle.kdbx_writing.specs.Pools.{pool_bytes}

inner_pieces : (key : List ℕ) (pool : List PoolItem) → spelled_inner key (map binary_seen pool)
    ≡ spelled_field (1, to_le_bytes w32 3) ++ spelled_field (2, key) ++ pool_bytes pool ++ spelled_field (0, [])
unfolding spelled_inner
inner_pieces key pool =
    let one = spelled_field (1, to_le_bytes w32 3) in
    let two = spelled_field (2, key) in
    ap (λ (l : List ℕ). l ++ spelled_field (0, [])) (sym (append_assoc one two (pool_bytes pool)))

pub inner_size : (key : List ℕ) (pool : List PoolItem) → length (spelled_inner key (map binary_seen pool)) ≡ 19 + length key + length (pool_bytes pool)
inner_size key pool =
    let one = spelled_field (1, to_le_bytes w32 3) in
    let two = spelled_field (2, key) in
    let end = spelled_field (0, []) in
    omega (arith, ap length (inner_pieces key pool), length-append (one ++ two ++ pool_bytes pool) end, length-append (one ++ two) (pool_bytes pool), length-append one two, length-append (2 ∷ to_le_bytes w32 (length key)) key)

pub put_pieces : (o0 o1 o2 o3 o4 key : List ℕ) (pool : List PoolItem) → o1 ≡ o0 ++ spelled_field (1, to_le_bytes w32 3) → o2 ≡ o1 ++ spelled_field (2, key)
    → o3 ≡ o2 ++ pool_bytes pool → o4 ≡ o3 ++ spelled_field (0, []) → o4 ≡ o0 ++ spelled_inner key (map binary_seen pool)
put_pieces o0 o1 o2 o3 o4 key pool h1 h2 h3 h4 =
    let one = spelled_field (1, to_le_bytes w32 3) in
    let two = spelled_field (2, key) in
    let end = spelled_field (0, []) in
    h4 ∙ ap (λ (l : List ℕ). l ++ end) (h3 ∙ ap (λ (l : List ℕ). l ++ pool_bytes pool) (h2 ∙ ap (λ (l : List ℕ). l ++ two) h1))
    ∙ ap (λ (l : List ℕ). l ++ pool_bytes pool ++ end) (append_assoc o0 one two)
    ∙ ap (λ (l : List ℕ). l ++ end) (append_assoc o0 (one ++ two) (pool_bytes pool))
    ∙ append_assoc o0 (one ++ two ++ pool_bytes pool) end
    ∙ ap (λ (l : List ℕ). o0 ++ l) (sym (inner_pieces key pool))
