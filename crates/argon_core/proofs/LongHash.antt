-- The hash of 1,024 bytes, half a hash at a time.
use Rattle.std.proofs.Common.{◌≡◌, ℕ, suc, ◌+◌, ◌*◌, List, [], ◌++◌, length, take, drop, length-drop, refl, sym, ap, ◌∙◌, arith}
use Rattle.std.proofs.lemmas.List.{append-nil, drop_all}
use Rattle.argon_core.specs.Blake2b.{blake2b}
use Rattle.argon_core.specs.VariableHash.{first_halves, hash_chain}
use borrow.Rule.Slice.PartMut.{put_mid, post_of}

-- V (n + 2) is the hash of V (n + 1)
pub chained_more : (v : List ℕ) (n : ℕ) → blake2b 64 (hash_chain v n) ≡ hash_chain v (n + 1)
unfolding hash_chain
chained_more v n =
    let next : suc n ≡ n + 1 = omega arith in
    ap (λ (k : ℕ). hash_chain v k) next

pub chained_next : (v : List ℕ) (n : ℕ) (h after : List ℕ) → h ≡ hash_chain v n → after ≡ blake2b 64 (h ++ []) → after ≡ hash_chain v (n + 1)
chained_next v n h after held e = e ∙ rw (append-nil, held) (chained_more v n)

-- the first half of the next V after those before
pub halves_next : (v : List ℕ) (n : ℕ) (h out after : List ℕ) → h ≡ hash_chain v n → take (32 * n) out ≡ first_halves v n
    → take (32 * n + 32) after ≡ take (32 * n) out ++ take 32 h → take (32 * (n + 1)) after ≡ first_halves v (n + 1)
unfolding first_halves
halves_next v n h out after held halves put =
    let at : 32 * (n + 1) ≡ 32 * n + 32 = omega arith in
    let next : suc n ≡ n + 1 = omega arith in
    rw at (put ∙ rw (halves, held) (ap (λ (m : ℕ). first_halves v m) next))

-- a hash that is written at the end of 1,024 bytes
pub put_end : (out part h : List ℕ) → length out ≡ 1024 → part ≡ h → put_mid 960 64 out part ≡ take 960 out ++ h
put_end out part h len e =
    let after : post_of 960 64 out ≡ [] = drop_all 64 (drop 960 out) (omega (arith, length-drop 960 out)) in
    rw (after, append-nil, e) refl

-- all thirty first halves, and the whole last hash
pub halves_end : (v out h : List ℕ) (r : ℕ) → r ≡ 30 → h ≡ hash_chain v r → take (32 * r) out ≡ first_halves v r
    → take 960 out ++ h ≡ first_halves v 30 ++ blake2b 64 (hash_chain v 29)
halves_end v out h r done hash halves =
    let front : take 960 out ≡ first_halves v 30 = rw done at halves in
    let last : h ≡ hash_chain v 30 = rw done at hash in
    rw (front, last) (ap (λ (x : List ℕ). first_halves v 30 ++ x) (sym (chained_more v 29)))
