use Rattle.std.proofs.Common.{◌≡◌, ℕ, ◌+◌, ◌-◌, ◌*◌, ◌/◌, ◌%◌, ◌^◌, ◌<◌, ◌≤◌, List, length, take, drop, slice_index, arith, refl, ap, sym, ◌∙◌, length-take, length-drop}
use Rattle.std.specs.Int.{w32, to_le_bytes}
use Rattle.std.proofs.lemmas.List.{length-take-le, get_or-append-add, get_or_append_left, get_or-drop}
use Rattle.std.proofs.lemmas.Slice.{drop-put_mid}
use Rattle.std.proofs.lemmas.Simd.{get_or_narrower, put_chunk_whole, below_from_Fits}
use Rattle.std.specs.Simd.Lanes.{Each1, number_l, digits_l}
use borrow.Rule.Slice.PartMut.{put_mid, mid_of}
use Rattle.stream_core.proofs.LaneLemmas.{below_four}
use Rattle.stream_core.proofs.window.put_row.Goals as goal

-- a byte of a word is a digit of it
byte_of_word : (x r : ℕ) → r < 4 → slice_index (to_le_bytes w32 x) r ≡ x / 256 ^ r % 256
byte_of_word x =
    let whole : x % 256 ≡ x / 1 % 256 = omega arith in
    below_four _ whole refl refl refl

-- a byte of the part that was written
part_read : (at k : ℕ) (xs ys : List ℕ) (i : ℕ) → at ≤ length xs → i < length ys → slice_index (put_mid at k xs ys) (at + i) ≡ slice_index ys i
part_read at k xs ys i inside below =
    let long : length (take at xs) + i ≡ at + i = ap (λ n. n + i) (length-take-le at xs inside) in
    ap (slice_index (put_mid at k xs ys)) (sym long) ∙ get_or-append-add (take at xs) _ i 0 ∙ get_or_append_left ys _ 0 i below

-- what follows the part that was written
rest_read : (at k : ℕ) (xs ys : List ℕ) (i : ℕ) → at ≤ length xs → length ys ≡ k → at + k ≤ i → slice_index (put_mid at k xs ys) i ≡ slice_index xs i
rest_read at k xs ys i inside long past =
    let place : i ≡ at + k + (i - (at + k)) = omega arith in
    let least : at + k ≤ at + k = omega arith in
    ap (slice_index (put_mid at k xs ys)) place
    ∙ sym (get_or-drop (at + k) (put_mid at k xs ys) (i - (at + k)) 0)
    ∙ ap (λ zs. slice_index zs (i - (at + k))) (drop-put_mid at k xs ys (at + k) least inside long)
    ∙ get_or-drop (at + k) xs (i - (at + k)) 0
    ∙ ap (slice_index xs) (sym place)

pub returns-clause-here : goal.returns-clause-here
returns-clause-here c i below =
    let bytes = digits_l 256 16 (number_l (2 ^ 32) c.args.row) in
    let window = c.args.window.now in
    let count = c.args.at + 16 - c.args.at in
    let long : 16 ≡ length (mid_of c.args.at count window) =
    omega (arith, length-take count (drop c.args.at window), length-drop c.args.at window) in
    let written = put_chunk_whole (mid_of c.args.at count window) bytes (sym long) in
    let fit : Each1 (λ x. x < 2 ^ 32) c.args.row = below_from_Fits w32 c.args.row c.fits-row.1 in
    let place : i ≡ 4 * (i / 4) + i % 4 = omega arith in
    let word : i % 4 < 4 = omega arith in
    let inside : c.args.at ≤ length window = omega arith in
    ap (λ ys. slice_index (put_mid c.args.at count window ys) (c.args.at + i)) written
    ∙ part_read c.args.at count window bytes i inside below
    ∙ ap (slice_index bytes) place
    ∙ get_or_narrower (2 ^ 32) 4 256 16 c.args.row (i / 4) (i % 4) refl fit word (omega arith)
    ∙ sym (byte_of_word (slice_index c.args.row (i / 4)) (i % 4) word)

pub returns-clause-after : goal.returns-clause-after
returns-clause-after c i past =
    let bytes = digits_l 256 16 (number_l (2 ^ 32) c.args.row) in
    let window = c.args.window.now in
    let count = c.args.at + 16 - c.args.at in
    let long : 16 ≡ length (mid_of c.args.at count window) =
    omega (arith, length-take count (drop c.args.at window), length-drop c.args.at window) in
    let written = put_chunk_whole (mid_of c.args.at count window) bytes (sym long) in
    ap (λ ys. slice_index (put_mid c.args.at count window ys) i) written
    ∙ rest_read c.args.at count window bytes i (omega arith) (omega arith) (omega arith)
