-- A list whose end is moved to its start, item by item.
use Rattle.std.proofs.Common.{◌≡◌, ◌<◌, ◌≤◌, ◌+◌, ◌-◌, ℕ, suc, inl, inr, List, ◌++◌, append-nil, length, length-drop, drop, take, get_or, remove, nat_le, refl, sym, ap, ◌∙◌, arith}
use Rattle.std.proofs.lemmas.Bool.{leb-false, leb-true}
use Rattle.std.proofs.lemmas.List.{drop_all, get_or-drop, get_or-take, length-take-le, same_lists, take-take}
use Rattle.std.proofs.lemmas.List.Edits.{length-swap, swapped_from_swap}
use Rattle.std.specs.List.{swap}
use Rattle.vault_model.proofs.Tests.{decide}

-- So many items of a list are moved up; those that are to be moved are where they were.
pub record IsMoved {A : Type 0} (old : List A) (by at : ℕ) (new : List A) : Type 0 where
  pub len : length new ≡ length old
  pub moved : (k : ℕ) (d : A) → k < at → get_or new k d ≡ get_or old (by + k) d
  pub rest : (k : ℕ) (d : A) → by + at ≤ k → get_or new k d ≡ get_or old k d

module _ {A : Type 0} (old : List A) (by : ℕ) where
  pub moved_none : IsMoved old by 0 old
  moved_none = record { len = refl; moved = λ k d less. absurd (omega (arith, less)); rest = λ k d far. refl }

  pub moved_next : (at : ℕ) (xs ys : List A) → by + at < length old → ys ≡ swap xs at (by + at) → IsMoved old by at xs → IsMoved old by (at + 1) ys
  moved_next at xs ys less is h =
      let lens = h.len in
      let here : at < length xs = omega (arith, lens, less) in
      let there : by + at < length xs = omega (arith, lens, less) in
      record {
        len = ap length is ∙ length-swap xs at (by + at) ∙ lens;
        moved = λ k d near.
            let s = swapped_from_swap xs ys at (by + at) d here there is in
            elim (decide (nat_le at k)) [
              | inl p ↦
                  let low = leb-true at k p in
                  let same : k ≡ at = omega (arith, low, near) in
                  ap (λ n. get_or ys n d) same ∙ s.0 ∙ h.rest (by + at) d (omega arith) ∙ ap (λ n. get_or old (by + n) d) (sym same)
              | inr p ↦
                  let low = leb-false at k p in
                  s.2 k (λ e. absurd (omega (arith, e, low))) (λ e. absurd (omega (arith, e, low))) ∙ h.moved k d low
            ];
        rest = λ k d far.
            let s = swapped_from_swap xs ys at (by + at) d here there is in
            s.2 k (λ e. absurd (omega (arith, e, far))) (λ e. absurd (omega (arith, e, far))) ∙ h.rest k d (omega (arith, far));
      }

  pub moved_all : (at : ℕ) (new : List A) → by ≤ length old → length old - by ≤ at → IsMoved old by at new → take (length old - by) new ≡ drop by old
  moved_all at new low far h =
      let lens = h.len in
      let fits : length old - by ≤ length new = omega (arith, lens) in
      let taken = length-take-le (length old - by) new fits in
      same_lists (take (length old - by) new) (drop by old) (taken ∙ sym (length-drop by old)) (λ k d less.
      let near : k < length old - by = omega (arith, less, taken) in
      get_or-take (length old - by) new k d near ∙ h.moved k d (omega (arith, near, far)) ∙ sym (get_or-drop by old k d))

-- without the last of a prefix it is a shorter prefix
pub prefix_next : {A : Type 0} (old xs ys : List A) (n last : ℕ) → n < length old → xs ≡ take (length old - n) old → last ≡ length xs - 1 → ys ≡ remove xs last → ys ≡ take (length old - (n + 1)) old
prefix_next old xs ys n last less is end e =
    let fits : length old - n ≤ length old = omega arith in
    let len = ap length is ∙ length-take-le (length old - n) old fits in
    let at : last ≡ length old - (n + 1) = omega (arith, less, end, len) in
    let far : length xs ≤ suc (length old - (n + 1)) = omega (arith, less, len) in
    let low : length old - (n + 1) ≤ length old - n = omega arith in
    e ∙ ap (remove xs) at
    ∙ ap (λ zs. take (length old - (n + 1)) xs ++ zs) (drop_all (suc (length old - (n + 1))) xs far)
    ∙ append-nil (take (length old - (n + 1)) xs)
    ∙ ap (take (length old - (n + 1))) is
    ∙ take-take (length old - (n + 1)) (length old - n) old low

pub prefix_some : {A : Type 0} (old xs : List A) (n excess : ℕ) → n < excess → excess ≤ length old → xs ≡ take (length old - n) old → 1 ≤ length xs
prefix_some old xs n excess less most is =
    let fits : length old - n ≤ length old = omega arith in
    let len = ap length is ∙ length-take-le (length old - n) old fits in
    omega (arith, less, most, len)

pub prefix_last : {A : Type 0} (old new : List A) (n excess : ℕ) → n ≤ excess → excess ≤ n → new ≡ take (length old - n) old → new ≡ take (length old - excess) old
prefix_last old new n excess low high is = let same : n ≡ excess = omega (arith, low, high) in is ∙ ap (λ k. take (length old - k) old) same
