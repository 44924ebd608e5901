-- What is drawn from the dice, and what is gone from them.
use Rattle.std.proofs.Common.{◌≡◌, ◌≤◌, ℕ, List, ◌++◌, Option, None, Some, option_map, length, drop, take, replicate, sym, ap, ◌∙◌, arith}
use Rattle.std.proofs.lemmas.List.{drop-append-le, drop_all, length-append, length-take-le, take-append-le, take_all}
use Rattle.cli_writing.specs.Drawing.{next_bytes}

-- The bytes that were drawn are the next ones.
pub next_drawn : (n : ℕ) (fresh dice : List ℕ) (now : Option (List ℕ)) → n ≤ length fresh
    → Some dice ≡ option_map (λ rest. take n fresh ++ rest) now
    → (next_bytes n dice ≡ take n fresh) × (now ≡ Some (drop n dice))
unfolding next_bytes
next_drawn n fresh dice None l e = cc
next_drawn n fresh dice (Some rest) l e =
    let is : dice ≡ take n fresh ++ rest = cc in
    let m : length (take n fresh) ≡ n = length-take-le n fresh l in (
      ap (λ (xs : List ℕ). take n (xs ++ replicate n 0)) is
          ∙ take-append-le n (take n fresh ++ rest) (replicate n 0) (omega (arith, m, length-append (take n fresh) rest))
          ∙ take-append-le n (take n fresh) rest (omega (arith, m)) ∙ take_all n (take n fresh) (omega (arith, m)),
      ap Some (sym (ap (λ (xs : List ℕ). drop n xs) is ∙ drop-append-le n (take n fresh) rest (omega (arith, m))
          ∙ ap (λ (xs : List ℕ). xs ++ rest) (drop_all n (take n fresh) (omega (arith, m))))),
    )

-- Bytes are the next ones of themselves.
pub next_alone : (n : ℕ) (bytes : List ℕ) → length bytes ≡ n → bytes ≡ next_bytes n bytes
unfolding next_bytes
next_alone n bytes l = sym (take-append-le n bytes (replicate n 0) (omega (arith, l)) ∙ take_all n bytes (omega (arith, l)))

-- Bytes are the next ones of themselves and others after them.
pub next_first : (n : ℕ) (bytes rest : List ℕ) → length bytes ≡ n → next_bytes n (bytes ++ rest) ≡ bytes
unfolding next_bytes
next_first n bytes rest l =
    take-append-le n (bytes ++ rest) (replicate n 0) (omega (arith, l, length-append bytes rest))
    ∙ take-append-le n bytes rest (omega (arith, l)) ∙ take_all n bytes (omega (arith, l))
