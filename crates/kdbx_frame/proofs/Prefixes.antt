-- The first bytes of a file, by a prefix of it.
use Rattle.std.proofs.Common.{◌≡◌, ℕ, ◌<◌, List, length, take, inl, inr, ap, ◌∙◌, arith}
use Rattle.std.proofs.lemmas.List.{take-take, take_all}
use Rattle.std.proofs.lemmas.Bool.{cases_lt}

-- A prefix that has `n` bytes, or is the whole file, has the file's first `n` bytes.
pub same_start : (n : ℕ) (text file : List ℕ) → text ≡ take (length text) file
    → (length text < n → length text ≡ length file) → take n text ≡ take n file
same_start n text file prefix whole =
    elim (cases_lt (length text) n) [
      | inl short ↦
          let all : take (length text) file ≡ file =
          take_all (length text) file (omega (arith, whole short)) in
          ap (take n) (prefix ∙ all)
      | inr long ↦
          ap (take n) prefix ∙ take-take n (length text) file (omega (arith, long))
    ]
