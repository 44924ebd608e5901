-- Lists of bytes in memory.
use Rattle.std.proofs.Common.{◌≡◌, ℕ, suc, ◌<◌, true, List, [], ◌∷◌, get_or, refl, arith, Fits, w8}
use Rattle.std.specs.Prelude.{nat_lt}
use Rattle.std.proofs.lemmas.Bool.Decides.{nat_tests}
use Rattle.doc_spelling.specs.Ranges.{are_bytes}

below_is : (n m : ℕ) → n < m → nat_lt n m ≡ true
below_is n m h = grind (arith, nat_tests)

pub bytes_fit : (bs : List ℕ) → ((i : ℕ) → Fits w8 (get_or bs i 0)) → are_bytes bs ≡ true
unfolding are_bytes
bytes_fit [] h = refl
bytes_fit (b ∷ bs) h =
    let one : b < 256 = omega (arith, h 0) in
    rw (below_is b 256 one) (bytes_fit bs (λ i. h (suc i)))
