-- The definition of chosen texts on streams that are counted through by hand.
use Rattle.std.proofs.Common.{◌≡◌, ℕ, List, [], ◌∷◌, ◌++◌, codes, refl}
use Rattle.std.specs.Prelude.{replicate}
use Rattle.gen_core.specs.Chosen.{next, choose, chosen, spent}

abbrev numeric : List ℕ
numeric = codes "0123456789"

-- Each of the first ten bytes stands for the digit of its number.
counted : choose numeric 5 [] (0 ∷ 1 ∷ 2 ∷ 3 ∷ 4 ∷ 5 ∷ []) ≡ chosen (codes "01234") (5 ∷ [])
unfolding next choose
counted = refl

-- Of ten characters the bytes from 250 on are refused.
passed_over : choose numeric 1 [] (250 ∷ 7 ∷ 8 ∷ []) ≡ chosen (codes "7") (8 ∷ [])
unfolding next choose
passed_over = refl

-- After 128 refused bytes the choice is given up.
given_up : choose numeric 1 [] (replicate 128 255 ++ 1 ∷ []) ≡ spent 0 (1 ∷ [])
unfolding next choose
given_up = refl
