-- The contents of authenticated blocks, as a function of their bytes.
use Rattle.std.proofs.Common.{◌≡◌, ◌≢◌, ◌⊎◌, inl, inr, ℕ, zero, suc, ◌+◌, ◌-◌, ◌<◌, ◌≤◌, ◌^◌, List, [], ◌∷◌, ◌++◌, length, take, drop, refl, sym, ◌∙◌, ap, subst, arith, All, Bool, true, false, cond, Result, Ok, Err, length-append, length-drop, take-take}
use Rattle.std.specs.Prelude.{nat_lt, bytes_eq, slice_index, ◌==◌}
use Rattle.std.specs.Int.{w32, from_le_bytes, to_le_bytes}
use Rattle.std.proofs.lemmas.Bool.{lt-ltb, le-ltb, ltb-true, ltb-false, eqb-true, eqb-false}
use Rattle.std.proofs.lemmas.Slice.Eq.{bytes_eq-Decides}
use Rattle.std.proofs.lemmas.Nat.{le_bytes_4}
use Rattle.std.proofs.lemmas.List.{append-nil, append_assoc, drop_at, get_or-drop, get_or-take, get_or_past, length-take-le, length-take, nil_from_length, take-append-drop, take_at}
use Rattle.std.proofs.lemmas.List.Elements.{All-head, All-nil, All-push, All-tail}
use Rattle.mac_core.specs.Blocks.{IsContent, IsDamaged, IsUnfinished, IsWhole, block, blocks, concat_contents, mac_of, size_in, length_prefixed}
use Rattle.mac_core.specs.Contents.{AreContents, block_at, contents_of, head_of_block, block_read}
use Rattle.mac_core.specs.Joining.{BlockRead, contents_from, written_blocks}
use Rattle.mac_core.specs.declared.fail.BlockFail.{BlockFail}
use Rattle.mac_core.specs.declared.fail.BlockFail.TheVariants.{BlockMac, Truncated}
use Rattle.mac_core.proofs.BlockLists.{blocks_push}
use Rattle.mac_core.proofs.JoiningSteps.{ended, goes_on, is_false, contents_from-written_blocks, refused, runs_out}
use Rattle.mac_core.proofs.OneReading.{Frame, frame_content, frame_head, frame_size, frame_tail, mac_len, right_frame}

-- ---- one block

abbrev by_tests : ℕ → ℕ → List ℕ → Bool → Bool → Result BlockRead BlockFail
by_tests size i bytes short right = cond short (Err (Truncated size)) (cond right (Ok (block_read bytes)) (Err (BlockMac i)))

tested : (base : List ℕ) (size i : ℕ) (bytes : List ℕ) (short right : Bool) → nat_lt (length bytes) (36 + size_in bytes) ≡ short
    → bytes_eq (take 36 bytes) (head_of_block base i (block_read bytes).content) ≡ right → block_at base size i bytes ≡ by_tests size i bytes short right
unfolding block_at
tested base size i bytes short right a b =
    ap (λ (t : Bool). by_tests size i bytes t (bytes_eq (take 36 bytes) (head_of_block base i (block_read bytes).content))) a
    ∙ ap (λ (t : Bool). by_tests size i bytes short t) b

pub block_short : (base : List ℕ) (size i : ℕ) (bytes : List ℕ) → length bytes < 36 + size_in bytes → block_at base size i bytes ≡ Err (Truncated size)
block_short base size i bytes short = tested base size i bytes true _ (lt-ltb (length bytes) (36 + size_in bytes) short) refl

pub block_wrong : (base : List ℕ) (size i : ℕ) (bytes : List ℕ) → 36 + size_in bytes ≤ length bytes
    → (take 36 bytes ≢ head_of_block base i (take (size_in bytes) (drop 36 bytes))) → block_at base size i bytes ≡ Err (BlockMac i)
block_wrong base size i bytes whole wrong =
    tested base size i bytes false false (le-ltb (length bytes) (36 + size_in bytes) whole)
    (is_false _ (λ e. wrong ((bytes_eq-Decides (take 36 bytes) (head_of_block base i (block_read bytes).content)).0 e)))

pub block_right : (base : List ℕ) (size i : ℕ) (bytes : List ℕ) → 36 + size_in bytes ≤ length bytes
    → take 36 bytes ≡ head_of_block base i (take (size_in bytes) (drop 36 bytes)) → block_at base size i bytes ≡ Ok (block_read bytes)
block_right base size i bytes whole same =
    tested base size i bytes false true (le-ltb (length bytes) (36 + size_in bytes) whole)
    ((bytes_eq-Decides (take 36 bytes) (head_of_block base i (block_read bytes).content)).1 same)

-- a whole block is as long as its head says
frame_long : (bytes : List ℕ) (x : Frame bytes) → 36 + size_in bytes ≤ length bytes
frame_long bytes x = omega (
  arith,
  ap length x.is,
  length-append (x.mac ++ length_prefixed x.content) x.tail,
  length-append x.mac (length_prefixed x.content),
  length-append (to_le_bytes w32 (length x.content)) x.content,
  x.mac_len,
  frame_size bytes x,
)

-- the MAC of a frame is that of its content where its head is
mac_same : (base : List ℕ) (i : ℕ) (bytes : List ℕ) (x : Frame bytes) → take 36 bytes ≡ x.mac ++ to_le_bytes w32 (length x.content)
    → take 36 bytes ≡ head_of_block base i (block_read bytes).content → x.mac ≡ mac_of base i x.content
mac_same base i bytes x head same =
    let content = (block_read bytes).content in
    sym (take_at x.mac (to_le_bytes w32 (length x.content)) 32 x.mac_len)
    ∙ ap (λ (b : List ℕ). take 32 b) (sym head ∙ same)
    ∙ take_at (mac_of base i content) (to_le_bytes w32 (length content)) 32 (mac_len base i content)
    ∙ ap (mac_of base i) (sym (frame_content bytes x))

-- a right block, as it is written
block_again : (base : List ℕ) (size i : ℕ) (content tail : List ℕ) → length content < 2 ^ 32
    → block_at base size i (block base i content ++ tail) ≡ Ok (record { content = content; rest = tail })
block_again base size i content tail small =
    let bytes = block base i content ++ tail in
    let x = right_frame base i content tail bytes small refl in
    let content_is = frame_content bytes x in
    let tail_is = frame_tail bytes x in
    block_right base size i bytes (frame_long bytes x) (frame_head bytes x ∙ ap (head_of_block base i) content_is)
    ∙ (λ k. Ok (record { content = sym content_is k; rest = sym tail_is k }))

-- ---- from what is in the blocks to the function

blocks-written_blocks : (base : List ℕ) (i : ℕ) (contents : List (List ℕ)) → blocks base i contents ≡ written_blocks (block base) i contents
unfolding blocks written_blocks
blocks-written_blocks base i [] = refl
blocks-written_blocks base i (c ∷ cs) = ap (λ (xs : List ℕ). block base i c ++ xs) (blocks-written_blocks base (suc i) cs)

blocks_long : (base : List ℕ) (i : ℕ) (contents : List (List ℕ)) → All IsContent contents → length contents ≤ length (blocks base i contents)
unfolding blocks
blocks_long base i [] fine = omega arith
blocks_long base i (c ∷ cs) fine = omega (
  arith,
  length-append (block base i c) (blocks base (suc i) cs),
  length-append (mac_of base i c) (length_prefixed c),
  length-append (to_le_bytes w32 (length c)) c,
  (All-head IsContent c cs fine).0,
  blocks_long base (suc i) cs (All-tail IsContent c cs fine),
)

module _ (base : List ℕ) (size : ℕ) where
  -- reading goes contents_from-written_blocks right blocks
  passes : (contents : List (List ℕ)) (rest bytes : List ℕ) → All IsContent contents → bytes ≡ blocks base 0 contents ++ rest
      → contents_of base size bytes ≡ contents_from (block_at base size) (Truncated size) (length bytes - length contents) (length contents) (concat_contents contents) rest
  passes contents rest bytes fine is =
      let long = blocks_long base 0 contents fine in
      let count : length bytes ≡ (length bytes - length contents) + length contents =
      omega (arith, ap length is, length-append (blocks base 0 contents) rest, long) in
      ap (λ (xs : List ℕ). contents_from (block_at base size) (Truncated size) (length bytes) 0 [] xs)
      (is ∙ ap (λ (xs : List ℕ). xs ++ rest) (blocks-written_blocks base 0 contents))
      ∙ contents_from-written_blocks (block_at base size) (Truncated size) (block base) (length contents)
      (λ i content tail low fits. block_again base size i content tail fits.1)
      (length bytes) 0 (length contents) (length bytes - length contents) [] contents rest fine count (omega arith) (omega arith)

  -- a step is left where a byte follows the right blocks
  steps_left : (contents : List (List ℕ)) (rest bytes : List ℕ) → All IsContent contents → bytes ≡ blocks base 0 contents ++ rest → 0 < length rest
      → (length bytes - length contents) ≡ suc (length bytes - length contents - 1)
  steps_left contents rest bytes fine is some =
      omega (arith, ap length is, length-append (blocks base 0 contents) rest, blocks_long base 0 contents fine)

  contents_of-IsWhole : (bytes : List ℕ) (parts : List (List ℕ)) → IsWhole base bytes parts → contents_of base size bytes ≡ Ok (concat_contents parts)
  contents_of-IsWhole bytes parts w =
      let i = length parts in
      let rest = block base i [] ++ w.tail in
      let is : bytes ≡ blocks base 0 parts ++ rest = w.is ∙ append_assoc (blocks base 0 parts) (block base i []) w.tail in
      let some : 0 < length rest =
      omega (arith, length-append (block base i []) w.tail, length-append (mac_of base i []) (length_prefixed []), length-append (to_le_bytes w32 0) []) in
      let left = length bytes - i - 1 in
      passes parts rest bytes w.each is
      ∙ ap (λ (n : ℕ). contents_from (block_at base size) (Truncated size) n i (concat_contents parts) rest) (steps_left parts rest bytes w.each is some)
      ∙ ended (block_at base size) (Truncated size) left i (concat_contents parts) rest (record { content = []; rest = w.tail })
      (block_again base size i [] w.tail (omega arith)) refl

  contents_of-IsDamaged : (bytes : List ℕ) (i : ℕ) → IsDamaged base bytes i → contents_of base size bytes ≡ Err (BlockMac i)
  contents_of-IsDamaged bytes i d =
      let rest = (d.mac ++ length_prefixed d.content) ++ d.tail in
      let is : bytes ≡ blocks base 0 d.contents ++ rest = d.is ∙ append_assoc (blocks base 0 d.contents) (d.mac ++ length_prefixed d.content) d.tail in
      let x : Frame rest = record { mac = d.mac; content = d.content; tail = d.tail; mac_len = d.mac_len; size = d.size; is = refl } in
      let long = frame_long rest x in
      let some : 0 < length rest = omega arith in
      let left = length bytes - length d.contents - 1 in
      passes d.contents rest bytes d.each is
      ∙ ap (λ (n : ℕ). contents_from (block_at base size) (Truncated size) n (length d.contents) (concat_contents d.contents) rest) (steps_left d.contents rest bytes d.each is some)
      ∙ ap (λ (k : ℕ). contents_from (block_at base size) (Truncated size) (suc left) k (concat_contents d.contents) rest) d.index
      ∙ refused (block_at base size) (Truncated size) left i (concat_contents d.contents) rest (BlockMac i)
      (block_wrong base size i rest long (λ e. d.wrong (mac_same base i rest x (frame_head rest x) e)))

  contents_of-IsUnfinished : (bytes : List ℕ) (parts : List (List ℕ)) (rest : List ℕ) → IsUnfinished base bytes parts rest
      → contents_of base size bytes ≡ Err (Truncated size)
  contents_of-IsUnfinished bytes parts rest u = passes parts rest bytes u.each u.is ∙ by (length bytes - length parts)
    where
      by : (n : ℕ) → contents_from (block_at base size) (Truncated size) n (length parts) (concat_contents parts) rest ≡ Err (Truncated size)
      by zero = runs_out (block_at base size) (Truncated size) (length parts) (concat_contents parts) rest
      by (suc n) = refused (block_at base size) (Truncated size) n (length parts) (concat_contents parts) rest (Truncated size)
          (block_short base size (length parts) rest u.part)

  pub contents_of-AreContents : (bytes : List ℕ) (x : Result (List ℕ) BlockFail) → AreContents base size bytes x → contents_of base size bytes ≡ x
  contents_of-AreContents bytes (Ok content) s = contents_of-IsWhole bytes s.0 s.1.0 ∙ ap Ok (sym s.1.1)
  contents_of-AreContents bytes (Err (BlockMac i)) s = contents_of-IsDamaged bytes i s
  contents_of-AreContents bytes (Err (Truncated place)) s = contents_of-IsUnfinished bytes s.1.0 s.1.1.0 s.1.1.1 ∙ ap (λ (n : ℕ). Err (Truncated n)) (sym s.0)
  contents_of-AreContents bytes (Err fail) s = absurd s

-- ---- from the function to what is in the blocks

abbrev pub Low : List ℕ → Type 0
Low bytes = (k : ℕ) → slice_index bytes k < 256

drop_low : (n : ℕ) (bytes : List ℕ) → Low bytes → Low (drop n bytes)
drop_low n bytes low k = rw (get_or-drop n bytes k 0) (low (n + k))

take_low : (n : ℕ) (bytes : List ℕ) → Low bytes → Low (take n bytes)
take_low n bytes low k = by (nat_lt k n) refl
  where
    by : (t : Bool) → nat_lt k n ≡ t → slice_index (take n bytes) k < 256
    by true e = rw (get_or-take n bytes k 0 (ltb-true k n e)) (low k)
    by false e = rw (get_or_past (take n bytes) k 0 (omega (arith, length-take n bytes, ltb-false k n e))) (omega arith)

joined_push : (contents : List (List ℕ)) (content : List ℕ) → concat_contents (contents ++ content ∷ []) ≡ concat_contents contents ++ content
joined_push [] content = append-nil content
joined_push (c ∷ cs) content = ap (λ (xs : List ℕ). c ++ xs) (joined_push cs content) ∙ sym (append_assoc c (concat_contents cs) content)

first_rest : (base xs : List ℕ) → xs ≡ blocks base 0 [] ++ xs
unfolding blocks
first_rest base xs = refl

-- a whole block is made up of its parts
module _ (bytes : List ℕ) (low : Low bytes) (whole : 36 + size_in bytes ≤ length bytes) where
  abbrev size_bytes : List ℕ
  size_bytes = drop 32 (take 36 bytes)

  size_low : Low size_bytes
  size_low = drop_low 32 (take 36 bytes) (take_low 36 bytes low)

  long : length (block_read bytes).content ≡ size_in bytes
  long = length-take-le (size_in bytes) (drop 36 bytes) (omega (arith, length-drop 36 bytes))

  size_long : length size_bytes ≡ 4
  size_long = omega (arith, length-drop 32 (take 36 bytes), length-take-le 36 bytes (omega arith))

  size_small : size_in bytes < 2 ^ 32
  size_small = omega (arith, size_low 0, size_low 1, size_low 2, size_low 3)

  size_is : to_le_bytes w32 (length (block_read bytes).content) ≡ size_bytes
  size_is = ap (to_le_bytes w32) long ∙ le_bytes_4 size_bytes (size_in bytes) size_long size_low refl

  halves : take 36 bytes ≡ take 32 bytes ++ size_bytes
  halves = sym (take-append-drop 32 (take 36 bytes)) ∙ ap (λ (xs : List ℕ). xs ++ size_bytes) (take-take 32 36 bytes (omega arith))

  -- a MAC that is right makes the head right
  head_right : (base : List ℕ) (i : ℕ) → take 32 bytes ≡ mac_of base i (block_read bytes).content → take 36 bytes ≡ head_of_block base i (block_read bytes).content
  head_right base i e =
      halves ∙ ap (λ (xs : List ℕ). xs ++ size_bytes) e ∙ ap (λ (xs : List ℕ). mac_of base i (block_read bytes).content ++ xs) (sym size_is)

  cut : bytes ≡ (take 32 bytes ++ length_prefixed (block_read bytes).content) ++ (block_read bytes).rest
  cut =
      let mac = take 32 bytes in
      let content = (block_read bytes).content in
      let rest = (block_read bytes).rest in
      sym (take-append-drop 36 bytes)
      ∙ ap (λ (xs : List ℕ). xs ++ drop 36 bytes) halves
      ∙ ap (λ (xs : List ℕ). (mac ++ size_bytes) ++ xs) (sym (take-append-drop (size_in bytes) (drop 36 bytes)))
      ∙ append_assoc mac size_bytes (content ++ rest)
      ∙ ap (λ (xs : List ℕ). mac ++ xs) (sym (append_assoc size_bytes content rest))
      ∙ sym (append_assoc mac (size_bytes ++ content) rest)
      ∙ ap (λ (xs : List ℕ). (mac ++ (xs ++ content)) ++ rest) (sym size_is)

-- what four bytes are written for is small
pub number_small : (n : ℕ) → from_le_bytes w32 (to_le_bytes w32 n) < 2 ^ 32
number_small n = omega arith

-- a whole block that begins with the head of its content is that content's block
module _ (base : List ℕ) (i : ℕ) (bytes : List ℕ) (right : take 36 bytes ≡ head_of_block base i (block_read bytes).content)
    (whole : 36 + size_in bytes ≤ length bytes) where
  abbrev its_content : List ℕ
  its_content = (block_read bytes).content

  right_long : length its_content ≡ size_in bytes
  right_long = length-take-le (size_in bytes) (drop 36 bytes) (omega (arith, length-drop 36 bytes))

  right_size : drop 32 (take 36 bytes) ≡ to_le_bytes w32 (length its_content)
  right_size =
      ap (λ (b : List ℕ). drop 32 b) right
      ∙ drop_at (mac_of base i its_content) (to_le_bytes w32 (length its_content)) 32 (mac_len base i its_content)

  right_small : length its_content < 2 ^ 32
  right_small =
      let size : length its_content ≡ from_le_bytes w32 (to_le_bytes w32 (length its_content)) = right_long ∙ ap (from_le_bytes w32) right_size in
      omega (arith, size, number_small (length its_content))

  right_cut : bytes ≡ block base i its_content ++ (block_read bytes).rest
  right_cut =
      let rest = (block_read bytes).rest in
      sym (take-append-drop 36 bytes)
      ∙ ap (λ (xs : List ℕ). xs ++ drop 36 bytes) right
      ∙ ap (λ (xs : List ℕ). head_of_block base i its_content ++ xs) (sym (take-append-drop (size_in bytes) (drop 36 bytes)))
      ∙ sym (append_assoc (head_of_block base i its_content) its_content rest)
      ∙ ap (λ (xs : List ℕ). xs ++ rest) (append_assoc (mac_of base i its_content) (to_le_bytes w32 (length its_content)) its_content)

module _ (base : List ℕ) (size : ℕ) where
  -- what may stand at the front of bytes
  abbrev IsShort : ℕ → List ℕ → Type 0
  IsShort i bytes = (length bytes < 36 + size_in bytes) × (block_at base size i bytes ≡ Err (Truncated size))

  abbrev IsWrongAt : ℕ → List ℕ → Type 0
  IsWrongAt i bytes =
      (36 + size_in bytes ≤ length bytes) × (take 36 bytes ≢ head_of_block base i (block_read bytes).content) × (block_at base size i bytes ≡ Err (BlockMac i))

  abbrev IsRightAt : ℕ → List ℕ → Type 0
  IsRightAt i bytes =
      (36 + size_in bytes ≤ length bytes) × (take 36 bytes ≡ head_of_block base i (block_read bytes).content) × (block_at base size i bytes ≡ Ok (block_read bytes))

  seen : (i : ℕ) (bytes : List ℕ) → IsShort i bytes ⊎ (IsWrongAt i bytes ⊎ IsRightAt i bytes)
  seen i bytes = by (nat_lt (length bytes) (36 + size_in bytes)) (bytes_eq (take 36 bytes) (head_of_block base i (block_read bytes).content)) refl refl
    where
      by : (s r : Bool) → nat_lt (length bytes) (36 + size_in bytes) ≡ s → bytes_eq (take 36 bytes) (head_of_block base i (block_read bytes).content) ≡ r
          → IsShort i bytes ⊎ (IsWrongAt i bytes ⊎ IsRightAt i bytes)
      by true r a b = let short = ltb-true (length bytes) (36 + size_in bytes) a in inl (short, block_short base size i bytes short)
      by false false a b =
          let whole = ltb-false (length bytes) (36 + size_in bytes) a in
          let wrong : take 36 bytes ≢ head_of_block base i (block_read bytes).content =
          λ e. let t = (bytes_eq-Decides (take 36 bytes) (head_of_block base i (block_read bytes).content)).1 e in cc in
          inr (inl (whole, wrong, block_wrong base size i bytes whole wrong))
      by false true a b =
          let whole = ltb-false (length bytes) (36 + size_in bytes) a in
          let same = (bytes_eq-Decides (take 36 bytes) (head_of_block base i (block_read bytes).content)).0 b in
          inr (inr (whole, same, block_right base size i bytes whole same))

  module _ (all : List ℕ) where
    -- what is said of all, where a wrong block asks that bytes are bytes
    abbrev AreContentsOfBytes : Result (List ℕ) BlockFail → Type 0
    AreContentsOfBytes (Err (BlockMac i)) = Low all → AreContents base size all (Err (BlockMac i))
    AreContentsOfBytes x = AreContents base size all x

    says : (x y : Result (List ℕ) BlockFail) → x ≡ y → AreContentsOfBytes y → AreContentsOfBytes x
    says x y e = subst AreContentsOfBytes (sym e)

    ends_here : (front : List (List ℕ)) (bytes : List ℕ) → All IsContent front → all ≡ blocks base 0 front ++ bytes
        → length bytes < 36 + size_in bytes → AreContentsOfBytes (Err (Truncated size))
    ends_here front bytes fine is short = (refl, (front, (bytes, record { each = fine; is = is; part = short })))

    told_from : (n i : ℕ) (front : List (List ℕ)) (given bytes : List ℕ) → All IsContent front → length front ≡ i → given ≡ concat_contents front
        → all ≡ blocks base 0 front ++ bytes → (Low all → Low bytes) → length bytes ≤ n
        → AreContentsOfBytes (contents_from (block_at base size) (Truncated size) n i given bytes)
    told_from zero i front given bytes fine due so_far is low few =
        says _ _ (runs_out (block_at base size) (Truncated size) i given bytes) (ends_here front bytes fine is (omega arith))
    told_from (suc n) i front given bytes fine due so_far is low few =
        let content = (block_read bytes).content in
        let tail = (block_read bytes).rest in
        let again : IsContent content → bytes ≡ block base i content ++ tail
        → AreContentsOfBytes (contents_from (block_at base size) (Truncated size) n (suc i) (given ++ content) tail) =
        λ fits one.
        let some = fits.0 in
        told_from n (suc i) (front ++ content ∷ []) (given ++ content) tail
        (All-push IsContent front content fine fits)
        (omega (arith, length-append front (content ∷ []), due))
        (ap (λ (xs : List ℕ). xs ++ content) so_far ∙ sym (joined_push front content))
        (is ∙ ap (λ (xs : List ℕ). blocks base 0 front ++ xs) one
        ∙ sym (append_assoc (blocks base 0 front) (block base i content) tail)
        ∙ ap (λ (xs : List ℕ). xs ++ tail) (sym (blocks_push base 0 i front content (omega (arith, due)))))
        (λ a. drop_low (size_in bytes) (drop 36 bytes) (drop_low 36 bytes (low a)))
        (omega (arith, length-drop (size_in bytes) (drop 36 bytes), length-drop 36 bytes, shorter content tail one, few)) in
        elim (seen i bytes) [ inl s ↦ short s | inr (inl w) ↦ wrong w | inr (inr r) ↦ right r (length (block_read bytes).content == 0) refl again ]
      where
        shorter : (content tail : List ℕ) → bytes ≡ block base i content ++ tail → suc (length tail) ≤ length bytes
        shorter content tail one = omega (
          arith,
          ap length one,
          length-append (block base i content) tail,
          length-append (mac_of base i content) (length_prefixed content),
          length-append (to_le_bytes w32 (length content)) content,
        )

        short : IsShort i bytes → AreContentsOfBytes (contents_from (block_at base size) (Truncated size) (suc n) i given bytes)
        short s = says _ _ (refused (block_at base size) (Truncated size) n i given bytes (Truncated size) s.1) (ends_here front bytes fine is s.0)

        wrong : IsWrongAt i bytes → AreContentsOfBytes (contents_from (block_at base size) (Truncated size) (suc n) i given bytes)
        wrong w =
            let damaged : Low all → IsDamaged base all i = λ a. record {
              contents = front;
              mac = take 32 bytes;
              content = (block_read bytes).content;
              tail = (block_read bytes).rest;
              each = fine;
              index = due;
              mac_len = length-take-le 32 bytes (let whole = w.0 in omega (arith, whole));
              size = rw (long bytes (low a) w.0) (size_small bytes (low a) w.0);
              wrong = λ e. w.1 (head_right bytes (low a) w.0 base i e);
              is = is ∙ ap (λ (xs : List ℕ). blocks base 0 front ++ xs) (cut bytes (low a) w.0)
                  ∙ sym (append_assoc (blocks base 0 front) (take 32 bytes ++ length_prefixed (block_read bytes).content) (block_read bytes).rest);
            } in
            says _ _ (refused (block_at base size) (Truncated size) n i given bytes (BlockMac i) w.2) damaged

        right : (r : IsRightAt i bytes) (t : Bool) → (length (block_read bytes).content == 0) ≡ t
            → (IsContent (block_read bytes).content → bytes ≡ block base i (block_read bytes).content ++ (block_read bytes).rest
            → AreContentsOfBytes (contents_from (block_at base size) (Truncated size) n (suc i) (given ++ (block_read bytes).content) (block_read bytes).rest)) → AreContentsOfBytes (contents_from (block_at base size) (Truncated size) (suc n) i given bytes)
        right r true e again =
            let content = (block_read bytes).content in
            let tail = (block_read bytes).rest in
            let none : length content ≡ 0 = eqb-true (length content) 0 e in
            let one : bytes ≡ block base (length front) [] ++ tail =
            right_cut base i bytes r.1 r.0
            ∙ ap (λ (c : List ℕ). block base i c ++ tail) (nil_from_length content none)
            ∙ ap (λ (k : ℕ). block base k [] ++ tail) (sym due) in
            let whole : IsWhole base all front = record {
              tail = tail;
              each = fine;
              is = is ∙ ap (λ (xs : List ℕ). blocks base 0 front ++ xs) one
                  ∙ sym (append_assoc (blocks base 0 front) (block base (length front) []) tail);
            } in
            says _ _ (ended (block_at base size) (Truncated size) n i given bytes (block_read bytes) r.2 none) (front, (whole, so_far))
        right r false e again =
            let content = (block_read bytes).content in
            let tail = (block_read bytes).rest in
            let some : 0 < length content = omega (arith, eqb-false (length content) 0 e) in
            let one : bytes ≡ block base i content ++ tail = right_cut base i bytes r.1 r.0 in
            let small : length content < 2 ^ 32 = right_small base i bytes r.1 r.0 in
            says _ _ (goes_on (block_at base size) (Truncated size) n i given bytes (block_read bytes) r.2 some)
            (again (some, small) one)

  of_bytes : (bytes : List ℕ) → AreContentsOfBytes bytes (contents_of base size bytes)
  of_bytes bytes = told_from bytes (length bytes) 0 [] [] bytes (All-nil IsContent) refl refl (first_rest base bytes) (λ a. a) (omega arith)

  pub AreContents-contents_of : (bytes : List ℕ) → Low bytes → AreContents base size bytes (contents_of base size bytes)
  AreContents-contents_of bytes low = by (contents_of base size bytes) (of_bytes bytes)
    where
      by : (x : Result (List ℕ) BlockFail) → AreContentsOfBytes bytes x → AreContents base size bytes x
      by (Ok content) s = s
      by (Err (BlockMac i)) s = s low
      by (Err fail) s = s

  -- contents that are given are those of right blocks, whatever the numbers
  pub IsWhole-contents_of : (bytes content : List ℕ) → contents_of base size bytes ≡ Ok content → AreContents base size bytes (Ok content)
  IsWhole-contents_of bytes content e = subst (AreContentsOfBytes bytes) e (of_bytes bytes)
