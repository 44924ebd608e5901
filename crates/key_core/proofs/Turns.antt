-- A function applied again and again, one turn at a time; and a key whose halves were enciphered so.
use Rattle.std.proofs.Common.{ℕ, suc, ◌≡◌, ◌≤◌, ◌+◌, ◌-◌, ap, arith, List, ◌++◌, take, drop}
use Rattle.std.specs.Fn.{iterate}
use Rattle.sha2.specs.Sha256.{sha256}
use Rattle.block_core.specs.Aes.{aes256_encipher}
use Rattle.key_core.specs.Keys.{aes_transformed, enciphered_often}

-- the first turn of those that are left
pub next_turn : {A : Type 0} (f : A → A) (n i : ℕ) (x : A) → i + 1 ≤ n → iterate f (n - i) x ≡ iterate f (n - (i + 1)) (f x)
next_turn {A} f n i x h =
    let more : n - i ≡ suc (n - (i + 1)) = omega arith in
    ap (λ k. iterate f k x) more

-- the hash of both halves, enciphered by a cipher under the seed
pub halves_hashed : (f : List ℕ → List ℕ) (seed key first second : List ℕ) (rounds : ℕ) → f ≡ aes256_encipher seed
    → first ≡ iterate f rounds (take 16 key) → second ≡ iterate f rounds (drop 16 key)
    → sha256 (first ++ second) ≡ aes_transformed seed rounds key
unfolding aes_transformed enciphered_often
halves_hashed f seed key first second rounds e one two = cc
