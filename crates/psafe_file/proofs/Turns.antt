-- A function applied again and again, the first time first.
use Rattle.std.proofs.Common.{◌≡◌, ℕ, suc, ◌+◌, ◌-◌, ◌≤◌, ap, arith}
use Rattle.std.specs.Fn.{iterate}

-- Of the turns that are left one is the next.
pub next_turn : {A : Type 0} (f : A → A) (n i : ℕ) (x : A) → i + 1 ≤ n → iterate f (n - i) x ≡ iterate f (n - (i + 1)) (f x)
next_turn f n i x within =
    let more : n - i ≡ suc (n - (i + 1)) = omega (arith, within) in
    ap (λ k. iterate f k x) more
