-- Bytes that are cut into parts.
use Rattle.std.proofs.Common.{◌≡◌, ◌∙◌, ℕ, ◌+◌, ◌*◌, ◌-◌, ◌<◌, ◌≤◌, List, ◌++◌, sym, ap, arith, length, take, drop, slice_range, length-take, length-drop}
use Rattle.std.proofs.lemmas.List.{drop-drop, drop-append-le, take-append-le, take-append-drop}
use Rattle.std.proofs.Math.Seq.{drop-append_seam, take-append_seam}

-- Bytes from a place on are the next n and the bytes after them.
pub cut : (at n : ℕ) (xs : List ℕ) → drop at xs ≡ slice_range xs at (at + n) ++ drop (at + n) xs
cut at n xs =
    let same : n ≡ at + n - at = omega arith in
    sym (take-append-drop n (drop at xs))
    ∙ ap (λ d. take n (drop at xs) ++ d) (drop-drop n at xs)
    ∙ ap (λ m. take m (drop at xs) ++ drop (at + n) xs) same

-- If they are a part of n bytes and others, they are cut into these.
pub parts : (at n : ℕ) (xs part rest : List ℕ) → drop at xs ≡ part ++ rest → length part ≡ n
    → (slice_range xs at (at + n) ≡ part) × (drop (at + n) xs ≡ rest)
parts at n xs part rest is len =
    let same : at + n - at ≡ length part = omega (arith, len) in (
      ap (λ m. take m (drop at xs)) same ∙ ap (take (length part)) is ∙ take-append_seam part rest,
      sym (drop-drop n at xs) ∙ ap (drop n) is ∙ ap (λ m. drop m (part ++ rest)) (sym len) ∙ drop-append_seam part rest,
    )

-- Then there are so many bytes.
pub reaches : (at n : ℕ) (xs part : List ℕ) → slice_range xs at (at + n) ≡ part → length part ≡ n → 0 < n → at + n ≤ length xs
reaches at n xs part is len some =
    omega (arith, ap length is, len, some, length-take (at + n - at) (drop at xs), length-drop at xs)

-- A block of a part is that block of the part and what follows.
pub block_in : (part rest : List ℕ) (count k : ℕ) → length part ≡ 16 * count → k < count
    → take 16 (drop (16 * k) (part ++ rest)) ≡ take 16 (drop (16 * k) part)
block_in part rest count k len l =
    let start : 16 * k ≤ length part = omega (arith, len, l) in
    let whole : 16 ≤ length (drop (16 * k) part) = omega (arith, len, l, length-drop (16 * k) part) in
    ap (take 16) (drop-append-le (16 * k) part rest start) ∙ take-append-le 16 (drop (16 * k) part) rest whole

-- The length of the next n bytes.
pub length_cut : (at n : ℕ) (xs : List ℕ) → at + n ≤ length xs → length (slice_range xs at (at + n)) ≡ n
length_cut at n xs within = omega (arith, within, length-take (at + n - at) (drop at xs), length-drop at xs)
