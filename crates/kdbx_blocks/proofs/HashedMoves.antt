-- A text on its way into its hashed blocks: what a piece that is moved and its head leave, and how many bytes the heads take that are left.
use Rattle.std.proofs.Common.{◌≡◌, ℕ, ◌+◌, ◌-◌, ◌<◌, ◌≤◌, List, ◌++◌, length, take, drop, min, sym, ◌∙◌, ap, arith, length-drop, take-take}
use Rattle.std.proofs.lemmas.List.{append_assoc, drop-drop, drop-take, drop_at, drop_min, length-take-le, take-append-le, take_min}
use Rattle.std.proofs.lemmas.List.Edits.{drop-paste, take-paste}
use Rattle.std.proofs.lemmas.Slice.{drop-put_mid, take-put_mid}
use Rattle.std.proofs.Math.Seq.{paste, take-add}
use borrow.Rule.Slice.PartMut.{put_mid}
use Rattle.kdbx_blocks.specs.Pieces.{hashed_heads_len}

-- a piece was moved to `to + 40`, and then a head was written from `to` on
module _ (old moved new piece head : List ℕ) (to len count k : ℕ) (fits : to + 40 ≤ length old) (room : len ≤ length piece)
    (same_len : length moved ≡ length old) (all : count ≡ len) (move : moved ≡ paste old (to + 40) piece count)
    (long : length head ≡ 40) (all_of_head : k ≡ 40) (write : new ≡ put_mid to k moved head) where
  pasted : moved ≡ paste old (to + 40) piece len
  pasted = move ∙ ap (paste old (to + 40) piece) all

  moved_start : take (to + 40 + len) moved ≡ take (to + 40) old ++ take len piece
  moved_start = ap (λ (xs : List ℕ). take (to + 40 + len) xs) pasted ∙ take-paste old (to + 40) piece len fits room

  written : new ≡ put_mid to 40 moved head
  written = write ∙ ap (λ (n : ℕ). put_mid to n moved head) all_of_head

  front_long : length (take (to + 40) old) ≡ to + 40
  front_long = length-take-le (to + 40) old fits

  -- what is before the head
  before : take to moved ≡ take to old
  before =
      sym (take-take to (to + 40 + len) moved (omega arith)) ∙ ap (λ (xs : List ℕ). take to xs) moved_start
      ∙ take-append-le to (take (to + 40) old) (take len piece) (omega (arith, front_long))
      ∙ take-take to (to + 40) old (omega arith)

  -- what is after it
  after : take len (drop (to + 40) moved) ≡ take len piece
  after =
      sym (drop-take (to + 40) len moved) ∙ ap (λ (xs : List ℕ). drop (to + 40) xs) moved_start
      ∙ drop_at (take (to + 40) old) (take len piece) (to + 40) front_long

  pub block_put : take (to + 40 + len) new ≡ take to old ++ (head ++ take len piece)
  block_put =
      let within : to ≤ length moved = omega (arith, fits, same_len) in
      let start : take (to + 40) new ≡ take to old ++ head =
      ap (λ (xs : List ℕ). take (to + 40) xs) written ∙ take-put_mid to 40 moved head (to + 40) (omega (arith, long)) within
      ∙ ap (λ (xs : List ℕ). xs ++ head) before in
      let rest : drop (to + 40) new ≡ drop (to + 40) moved =
      ap (λ (xs : List ℕ). drop (to + 40) xs) written ∙ drop-put_mid to 40 moved head (to + 40) (omega arith) within long in
      take-add (to + 40) len new ∙ ap (λ (xs : List ℕ). xs ++ take len (drop (to + 40) new)) start
      ∙ ap (λ (xs : List ℕ). (take to old ++ head) ++ take len xs) rest
      ∙ ap (λ (xs : List ℕ). (take to old ++ head) ++ xs) after
      ∙ append_assoc (take to old) head (take len piece)

  -- what is after the piece where it was
  pub rest_kept : (end : ℕ) → to + 40 + len ≤ end → drop end new ≡ drop end old
  rest_kept end behind =
      let within : to ≤ length moved = omega (arith, fits, same_len) in
      let gap = end - (to + 40 + len) in
      let sum : to + 40 + len + gap ≡ end = omega (arith, behind) in
      ap (λ (xs : List ℕ). drop end xs) written ∙ drop-put_mid to 40 moved head end (omega (arith, behind)) within long
      ∙ ap (λ (k : ℕ). drop k moved) (sym sum) ∙ sym (drop-drop gap (to + 40 + len) moved)
      ∙ ap (λ (xs : List ℕ). drop gap (drop (to + 40 + len) xs)) pasted
      ∙ ap (λ (xs : List ℕ). drop gap xs) (drop-paste old (to + 40) piece len fits room)
      ∙ drop-drop gap (to + 40 + len) old ∙ ap (λ (k : ℕ). drop k old) sum

-- ---- the first piece of what is left of a text, by its length

module _ (text : List ℕ) (at len : ℕ) (is : len ≡ min 1048576 (length text - at)) where
  as_min : len ≡ min 1048576 (length (drop at text))
  as_min = is ∙ ap (min 1048576) (sym (length-drop at text))

  pub first_piece : take len (drop at text) ≡ take 1048576 (drop at text)
  first_piece = ap (λ (k : ℕ). take k (drop at text)) as_min ∙ take_min 1048576 (drop at text)

  pub behind_first : drop (at + len) text ≡ drop 1048576 (drop at text)
  behind_first =
      sym (drop-drop len at text) ∙ ap (λ (k : ℕ). drop k (drop at text)) as_min ∙ drop_min 1048576 (drop at text)

-- its head is one of those that are left
pub one_head : (left len : ℕ) → len ≡ min 1048576 left → 0 < left → hashed_heads_len left ≡ 40 + hashed_heads_len (left - len)
one_head left len is some = omega (arith, is, some)
