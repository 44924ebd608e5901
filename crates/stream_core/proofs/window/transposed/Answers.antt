use Rattle.std.proofs.Common.{◌≡◌, ℕ, List, [], ◌∷◌, ◌++◌, length, get_or, slice_index, refl}
use Rattle.stream_core.proofs.LaneLemmas.{four_lanes}
use Rattle.stream_core.proofs.window.transposed.Goals as goal

-- lane k of four vectors, where the first and the third, and the second and the fourth, stand one after the other
abbrev IsRow : (k m : ℕ) (a b c d : List ℕ) → Type 0
IsRow k m a b c d =
    get_or (a ++ c) k 0 ∷ get_or (b ++ d) k 0 ∷ get_or (a ++ c) m 0 ∷ get_or (b ++ d) m 0 ∷ []
    ≡ slice_index a k ∷ slice_index b k ∷ slice_index c k ∷ slice_index d k ∷ []

abbrev AreRows : (a b c d : List ℕ) → Type 0
AreRows a b c d = IsRow 0 4 a b c d × IsRow 1 5 a b c d × IsRow 2 6 a b c d × IsRow 3 7 a b c d

rows : (a b c d : List ℕ) → length a ≡ 4 → length b ≡ 4 → AreRows a b c d
rows a b c d long_a long_b =
    four_lanes (λ a. AreRows a b c d) (λ a0 a1 a2 a3.
    four_lanes (λ b. AreRows (a0 ∷ a1 ∷ a2 ∷ a3 ∷ []) b c d) (λ b0 b1 b2 b3. (refl, refl, refl, refl)) b long_b) a long_a

pub returns : goal.returns
returns c =
    let all = rows c.args.a c.args.b c.args.c c.args.d c.fits-a.0 c.fits-b.0 in
    record { row0 = all.0; row1 = all.1; row2 = all.2; row3 = all.3 }
