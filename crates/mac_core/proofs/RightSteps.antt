-- Blocks that are known to be right before they are read.
use Rattle.std.proofs.Common.{◌≡◌, ℕ, zero, suc, ◌+◌, ◌-◌, ◌<◌, ◌≤◌, ◌^◌, List, ◌++◌, length, take, drop, sym, ◌∙◌, ap, subst, arith, Result, Ok, Err, length-drop}
use Rattle.std.proofs.lemmas.List.{drop-drop, drop_at, length-take-le}
use Rattle.std.proofs.lemmas.Nat.{from_le_bytes-to_le_bytes_4}
use Rattle.std.specs.Int.{w32, from_le_bytes, to_le_bytes}
use Rattle.mac_core.specs.Blocks.{mac_of, size_in}
use Rattle.mac_core.specs.Contents.{block_at, block_read, head_of_block}
use Rattle.mac_core.specs.Joining.{BlockRead}
use Rattle.mac_core.specs.RightBlocks.{AreRight, IsRight}
use Rattle.mac_core.specs.declared.fail.BlockFail.{BlockFail}
use Rattle.mac_core.proofs.ContentSteps.{block_right}
use Rattle.mac_core.proofs.OneReading.{mac_len}

-- a block with the right head of a content of so many bytes
module _ (base bytes : List ℕ) (i len : ℕ) (some : 0 < len) (small : len < 2 ^ 32) (within : 36 + len ≤ length bytes)
    (head : take 36 bytes ≡ mac_of base i (take len (drop 36 bytes)) ++ to_le_bytes w32 len) where
  size_is : size_in bytes ≡ len
  size_is =
      ap (λ (xs : List ℕ). from_le_bytes w32 (drop 32 xs)) head
      ∙ ap (from_le_bytes w32) (drop_at (mac_of base i (take len (drop 36 bytes))) (to_le_bytes w32 len) 32 (mac_len base i (take len (drop 36 bytes))))
      ∙ from_le_bytes-to_le_bytes_4 len small

  long : length (take len (drop 36 bytes)) ≡ len
  long = length-take-le len (drop 36 bytes) (omega (arith, length-drop 36 bytes, within))

  is_right : IsRight base i bytes
  is_right = record {
    whole = omega (arith, size_is, within);
    some = omega (arith, size_is, some);
    same = head ∙ ap (λ (n : ℕ). mac_of base i (take len (drop 36 bytes)) ++ to_le_bytes w32 n) (sym long)
        ∙ ap (λ (n : ℕ). head_of_block base i (take n (drop 36 bytes))) (sym size_is);
  }

  rest_is : (block_read bytes).rest ≡ drop (36 + len) bytes
  rest_is = ap (λ (n : ℕ). drop n (drop 36 bytes)) size_is ∙ drop-drop len 36 bytes

-- a right block at a place, before others
pub right_more : (base text mac : List ℕ) (n i k at next from count len : ℕ) → 0 < len → len < 2 ^ 32 → next ≡ at + (36 + len) → next ≤ length text
    → k ≡ suc i → from ≡ at + 36 → count ≡ len → mac ≡ mac_of base i (take count (drop from text))
    → take 36 (drop at text) ≡ mac ++ to_le_bytes w32 len → AreRight base n k (drop next text) → AreRight base (suc n) i (drop at text)
unfolding AreRight
right_more base text mac n i k at next from count len some small after room index start all is head more =
    let bytes = drop at text in
    let within : 36 + len ≤ length bytes = omega (arith, length-drop at text, after, room) in
    let content : take count (drop from text) ≡ take len (drop 36 bytes) =
    ap (λ (c : ℕ). take c (drop from text)) all ∙ ap (λ (f : ℕ). take len (drop f text)) start ∙ ap (λ (xs : List ℕ). take len xs) (sym (drop-drop 36 at text)) in
    let right_head : take 36 bytes ≡ mac_of base i (take len (drop 36 bytes)) ++ to_le_bytes w32 len =
    head ∙ ap (λ (m : List ℕ). m ++ to_le_bytes w32 len) (is ∙ ap (mac_of base i) content) in
    let rest : drop next text ≡ (block_read bytes).rest =
    ap (λ (n : ℕ). drop n text) after ∙ sym (drop-drop (36 + len) at text) ∙ sym (rest_is base bytes i len some small within right_head) in (
      is_right base bytes i len some small within right_head,
      subst (λ (xs : List ℕ). AreRight base n (suc i) xs) rest (subst (λ (m : ℕ). AreRight base n m (drop next text)) index more),
    )

-- the first of some
pub first_right : (base bytes : List ℕ) (n i : ℕ) → 0 < n → AreRight base n i bytes → IsRight base i bytes
unfolding AreRight
first_right base bytes zero i some all = absurd (omega arith)
first_right base bytes (suc n) i some all = all.0

-- those behind a block that was read
pub right_behind : (base bytes : List ℕ) (size n i j : ℕ) (b : BlockRead) → AreRight base n i bytes → block_at base size i bytes ≡ Ok b → j ≡ i + 1
    → AreRight base (n - 1) j b.rest
unfolding AreRight
right_behind base bytes size zero i j b all read next = tt
right_behind base bytes size (suc n) i j b all read next =
    let one = all.0 in
    let same : Ok (block_read bytes) ≡ Ok b = sym (block_right base size i bytes one.whole one.same) ∙ read in
    let due : suc i ≡ j = omega arith in
    let less : n ≡ suc n - 1 = omega arith in
    subst (λ (m : ℕ). AreRight base m j b.rest) less
    (subst (λ (m : ℕ). AreRight base n m b.rest) due (subst (λ (xs : List ℕ). AreRight base n (suc i) xs) (ap (rest_of (block_read bytes)) same) all.1))
  where
    rest_of : BlockRead → Result BlockRead BlockFail → List ℕ
    rest_of d (Ok b) = b.rest
    rest_of d (Err e) = d.rest
