-- Hashed blocks: what is read of one by its tests, that one is read as it is written, and that what is read is one as
-- it is written.
use Rattle.std.proofs.Common.{◌≡◌, ◌≢◌, ℕ, zero, suc, ◌+◌, ◌-◌, ◌<◌, ◌≤◌, ◌^◌, List, [], ◌∷◌, ◌++◌, length, take, drop, replicate, refl, sym, ◌∙◌, ap, subst, arith, All, Bool, true, false, cond, Result, Ok, Err, length-append, length-drop, take-take}
use Rattle.std.specs.Prelude.{◌==◌, nat_lt, bytes_eq}
use Rattle.std.specs.Int.{w32, to_le_bytes, from_le_bytes}
use Rattle.std.proofs.lemmas.Bool.{eqb-false, eqb-true, le-ltb, lt-ltb, ltb-false}
use Rattle.std.proofs.lemmas.Slice.Eq.{bytes_eq-Decides}
use Rattle.std.proofs.lemmas.Nat.{from_le_bytes-to_le_bytes_4}
use Rattle.std.proofs.lemmas.List.{append-nil, append_assoc, drop-take, drop_at, length-take-le, nil_from_length, take-append-drop, take_at}
use Rattle.std.proofs.lemmas.List.Elements.{All-cons, All-nil, All-tail}
use Rattle.std.proofs.Math.Seq.{take-add}
use Rattle.sha2.specs.Sha256.{sha256}
use Rattle.sha2.proofs.Facts256.{length-sha256}
use Rattle.mac_core.specs.Blocks.{IsContent, concat_contents}
use Rattle.mac_core.specs.HashedBlocks.{AreHashed, content_hash, hashed_at, hashed_block, hashed_blocks, hashed_contents_of, hashed_head, hashed_read, hashed_size_in}
use Rattle.mac_core.specs.Joining.{BlockRead, contents_from, written_blocks}
use Rattle.mac_core.specs.declared.fail.BlockFail.{BlockFail}
use Rattle.mac_core.specs.declared.fail.BlockFail.TheVariants.{BlockHash, BlockIndex, Truncated}
use Rattle.mac_core.proofs.ContentSteps.{number_small}
use Rattle.mac_core.proofs.JoiningSteps.{contents_from-written_blocks, ended, goes_on, is_false, refused, runs_out}

-- ---- a head and its parts

pub content_hash_long : (content : List ℕ) → length (content_hash content) ≡ 32
unfolding content_hash
content_hash_long content = by (length content == 0)
  where
    by : (t : Bool) → length (cond t (replicate 32 0) (sha256 content)) ≡ 32
    by true = refl
    by false = length-sha256 content

abbrev index_and_hash : ℕ → List ℕ → List ℕ
index_and_hash i content = to_le_bytes w32 i ++ content_hash content

index_and_hash_long : (i : ℕ) (content : List ℕ) → length (index_and_hash i content) ≡ 36
index_and_hash_long i content = omega (arith, length-append (to_le_bytes w32 i) (content_hash content), content_hash_long content)

head_long : (i : ℕ) (content : List ℕ) → length (hashed_head i content) ≡ 40
head_long i content =
    omega (arith, length-append (index_and_hash i content) (to_le_bytes w32 (length content)), index_and_hash_long i content)

-- the first forty bytes are the index, the hash and the size
parts_of : (bytes : List ℕ) → take 40 bytes ≡ take 4 bytes ++ take 32 (drop 4 bytes) ++ take 4 (drop 36 bytes)
parts_of bytes = take-add 36 4 bytes ∙ ap (λ (xs : List ℕ). xs ++ take 4 (drop 36 bytes)) (take-add 4 32 bytes)

module _ (i : ℕ) (bytes content : List ℕ) (right : take 40 bytes ≡ hashed_head i content) where
  index_is : take 4 bytes ≡ to_le_bytes w32 i
  index_is = sym (take-take 4 40 bytes (omega arith)) ∙ ap (λ (xs : List ℕ). take 4 xs) right

  hash_is : take 32 (drop 4 bytes) ≡ content_hash content
  hash_is =
      sym (take-take 32 36 (drop 4 bytes) (omega arith)) ∙ ap (λ (xs : List ℕ). take 32 xs) (sym (drop-take 4 36 bytes))
      ∙ ap (λ (xs : List ℕ). take 32 (drop 4 xs)) right
      ∙ take_at (content_hash content) (to_le_bytes w32 (length content)) 32 (content_hash_long content)

  size_is : take 4 (drop 36 bytes) ≡ to_le_bytes w32 (length content)
  size_is =
      sym (drop-take 36 4 bytes) ∙ ap (λ (xs : List ℕ). drop 36 xs) right
      ∙ drop_at (index_and_hash i content) (to_le_bytes w32 (length content)) 36 (index_and_hash_long i content)

-- ---- one block, by its tests

abbrev content_in : List ℕ → List ℕ
content_in bytes = (hashed_read bytes).content

abbrev is_short : List ℕ → Bool
is_short bytes = nat_lt (length bytes) (40 + hashed_size_in bytes)

abbrev is_right : ℕ → List ℕ → Bool
is_right i bytes = bytes_eq (take 40 bytes) (hashed_head i (content_in bytes))

abbrev is_due : ℕ → List ℕ → Bool
is_due i bytes = bytes_eq (take 4 bytes) (to_le_bytes w32 i)

abbrev by_tests : ℕ → ℕ → List ℕ → Bool → Bool → Bool → Result BlockRead BlockFail
by_tests size i bytes short right due =
    cond short (Err (Truncated size)) (cond right (Ok (hashed_read bytes)) (cond due (Err (BlockHash i)) (Err (BlockIndex i))))

tested : (size i : ℕ) (bytes : List ℕ) (short right due : Bool) → is_short bytes ≡ short → is_right i bytes ≡ right → is_due i bytes ≡ due
    → hashed_at size i bytes ≡ by_tests size i bytes short right due
unfolding hashed_at
tested size i bytes short right due a b c =
    ap (λ (t : Bool). by_tests size i bytes t (is_right i bytes) (is_due i bytes)) a
    ∙ ap (λ (t : Bool). by_tests size i bytes short t (is_due i bytes)) b
    ∙ ap (λ (t : Bool). by_tests size i bytes short right t) c

right_head : (i : ℕ) (bytes : List ℕ) → is_right i bytes ≡ true → take 40 bytes ≡ hashed_head i (content_in bytes)
right_head i bytes e = (bytes_eq-Decides (take 40 bytes) (hashed_head i (content_in bytes))).0 e

-- it is not whole
pub hashed_short : (size i : ℕ) (bytes : List ℕ) → length bytes < 40 + hashed_size_in bytes → hashed_at size i bytes ≡ Err (Truncated size)
hashed_short size i bytes short = tested size i bytes true _ _ (lt-ltb (length bytes) (40 + hashed_size_in bytes) short) refl refl

module _ (size i : ℕ) (bytes : List ℕ) (whole : 40 + hashed_size_in bytes ≤ length bytes) where
  not_short : is_short bytes ≡ false
  not_short = le-ltb (length bytes) (40 + hashed_size_in bytes) whole

  -- its index is another
  pub hashed_other : (take 4 bytes ≢ to_le_bytes w32 i) → hashed_at size i bytes ≡ Err (BlockIndex i)
  hashed_other other =
      tested size i bytes false false false not_short
      (is_false (is_right i bytes) (λ e. other (index_is i bytes (content_in bytes) (right_head i bytes e))))
      (is_false (is_due i bytes) (λ e. other ((bytes_eq-Decides (take 4 bytes) (to_le_bytes w32 i)).0 e)))

  -- its hash is another
  pub hashed_wrong : take 4 bytes ≡ to_le_bytes w32 i → (take 32 (drop 4 bytes) ≢ content_hash (content_in bytes))
      → hashed_at size i bytes ≡ Err (BlockHash i)
  hashed_wrong due wrong =
      tested size i bytes false false true not_short
      (is_false (is_right i bytes) (λ e. wrong (hash_is i bytes (content_in bytes) (right_head i bytes e))))
      ((bytes_eq-Decides (take 4 bytes) (to_le_bytes w32 i)).1 due)

  -- it is right
  pub hashed_right : take 4 bytes ≡ to_le_bytes w32 i → take 32 (drop 4 bytes) ≡ content_hash (content_in bytes)
      → take 4 (drop 36 bytes) ≡ to_le_bytes w32 (length (content_in bytes)) → hashed_at size i bytes ≡ Ok (hashed_read bytes)
  hashed_right due hash long =
      let content = content_in bytes in
      let head : take 40 bytes ≡ hashed_head i content =
      parts_of bytes
      ∙ ap (λ (xs : List ℕ). xs ++ take 32 (drop 4 bytes) ++ take 4 (drop 36 bytes)) due
      ∙ ap (λ (xs : List ℕ). to_le_bytes w32 i ++ xs ++ take 4 (drop 36 bytes)) hash
      ∙ ap (λ (xs : List ℕ). index_and_hash i content ++ xs) long in
      tested size i bytes false true _ not_short ((bytes_eq-Decides (take 40 bytes) (hashed_head i content)).1 head) refl

-- ---- one block, as it is written

hashed_again : (size i : ℕ) (content tail : List ℕ) → length content < 2 ^ 32
    → hashed_at size i (hashed_block i content ++ tail) ≡ Ok (record { content = content; rest = tail })
hashed_again size i content tail small =
    let head = hashed_head i content in
    let bytes = hashed_block i content ++ tail in
    let is : bytes ≡ head ++ (content ++ tail) = append_assoc head content tail in
    let head_is : take 40 bytes ≡ head = ap (λ (xs : List ℕ). take 40 xs) is ∙ take_at head (content ++ tail) 40 (head_long i content) in
    let after : drop 40 bytes ≡ content ++ tail = ap (λ (xs : List ℕ). drop 40 xs) is ∙ drop_at head (content ++ tail) 40 (head_long i content) in
    let len : hashed_size_in bytes ≡ length content =
    ap (from_le_bytes w32) (size_is i bytes content head_is) ∙ from_le_bytes-to_le_bytes_4 (length content) small in
    let content_is : content_in bytes ≡ content =
    ap (λ (xs : List ℕ). take (hashed_size_in bytes) xs) after ∙ take_at content tail (hashed_size_in bytes) (sym len) in
    let rest_is : (hashed_read bytes).rest ≡ tail =
    ap (λ (xs : List ℕ). drop (hashed_size_in bytes) xs) after ∙ drop_at content tail (hashed_size_in bytes) (sym len) in
    let long : length bytes ≡ 40 + (length content + length tail) =
    omega (arith, ap length is, length-append head (content ++ tail), head_long i content, length-append content tail) in
    tested size i bytes false true _ (le-ltb (length bytes) (40 + hashed_size_in bytes) (omega (arith, long, len)))
    ((bytes_eq-Decides (take 40 bytes) (hashed_head i (content_in bytes))).1 (head_is ∙ ap (hashed_head i) (sym content_is))) refl
    ∙ (λ k. Ok (record { content = content_is k; rest = rest_is k }))

-- ---- what is read is a block as it is written

no_value : {A E : Type 0} (r : Result A E) (e : E) (a : A) → r ≡ Err e → r ≡ Ok a → ⊥
no_value r e a x y = let same : Err e ≡ Ok a = sym x ∙ y in cc

-- the value of a reading, and another block where there is none
abbrev value_or : {A : Type 0} → A → Result A BlockFail → A
value_or other (Ok a) = a
value_or other (Err fail) = other

-- a block that was read is the first of these bytes
abbrev IsFirst : ℕ → List ℕ → BlockRead → Type 0
IsFirst i bytes b = (length b.content < 2 ^ 32) × (bytes ≡ hashed_block i b.content ++ b.rest)

first_of_right : (i : ℕ) (bytes : List ℕ) → 40 + hashed_size_in bytes ≤ length bytes → take 40 bytes ≡ hashed_head i (content_in bytes)
    → IsFirst i bytes (hashed_read bytes)
first_of_right i bytes whole head =
    let content = content_in bytes in
    let size = hashed_size_in bytes in
    let long : length content ≡ size = length-take-le size (drop 40 bytes) (omega (arith, length-drop 40 bytes, whole)) in
    let told : length content ≡ from_le_bytes w32 (to_le_bytes w32 (length content)) =
    long ∙ ap (from_le_bytes w32) (size_is i bytes content head) in
    let cut : bytes ≡ hashed_block i content ++ (hashed_read bytes).rest =
    sym (take-append-drop 40 bytes)
    ∙ ap (λ (xs : List ℕ). xs ++ drop 40 bytes) head
    ∙ ap (λ (xs : List ℕ). hashed_head i content ++ xs) (sym (take-append-drop size (drop 40 bytes)))
    ∙ sym (append_assoc (hashed_head i content) content (hashed_read bytes).rest) in
    (omega (arith, told, number_small (length content)), cut)

first_of_read : (size i : ℕ) (bytes : List ℕ) (b : BlockRead) → hashed_at size i bytes ≡ Ok b → IsFirst i bytes b
first_of_read size i bytes b is = by (is_short bytes) (is_right i bytes) (is_due i bytes) refl refl refl
  where
    by : (short right due : Bool) → is_short bytes ≡ short → is_right i bytes ≡ right → is_due i bytes ≡ due → IsFirst i bytes b
    by true right due x y z = absurd (no_value _ _ b (tested size i bytes true right due x y z) is)
    by false false true x y z = absurd (no_value _ _ b (tested size i bytes false false true x y z) is)
    by false false false x y z = absurd (no_value _ _ b (tested size i bytes false false false x y z) is)
    by false true due x y z =
        let same : hashed_read bytes ≡ b = ap (value_or b) (sym (tested size i bytes false true due x y z) ∙ is) in
        subst (IsFirst i bytes) same
        (first_of_right i bytes (ltb-false (length bytes) (40 + hashed_size_in bytes) x) (right_head i bytes y))

-- ---- all blocks, as they are written

blocks_long : (i : ℕ) (contents : List (List ℕ)) → All IsContent contents → length contents ≤ length (hashed_blocks i contents)
unfolding written_blocks
blocks_long i [] fine = omega arith
blocks_long i (c ∷ cs) fine = omega (
  arith,
  length-append (hashed_block i c) (hashed_blocks (suc i) cs),
  length-append (hashed_head i c) c,
  head_long i c,
  blocks_long (suc i) cs (All-tail IsContent c cs fine),
)

pub contents_of-AreHashed : (size : ℕ) (bytes : List ℕ) (contents : List (List ℕ)) → AreHashed bytes contents
    → hashed_contents_of size bytes ≡ Ok (concat_contents contents)
contents_of-AreHashed size bytes contents h =
    let blocks = hashed_blocks 0 contents in
    let count = length contents in
    let end = hashed_block count [] in
    let rest : List ℕ = end ++ h.tail in
    let is : bytes ≡ blocks ++ rest = h.is ∙ append_assoc blocks end h.tail in
    let some : 40 ≤ length rest =
    omega (arith, length-append end h.tail, length-append (hashed_head count []) [], head_long count []) in
    let left = length bytes - count - 1 in
    let steps : length bytes ≡ suc left + count =
    omega (arith, ap length is, length-append blocks rest, blocks_long 0 contents h.each, some) in
    ap (λ (xs : List ℕ). contents_from (hashed_at size) (Truncated size) (length bytes) 0 [] xs) is
    ∙ contents_from-written_blocks (hashed_at size) (Truncated size) hashed_block count
    (λ i content tail low fits. hashed_again size i content tail fits.1)
    (length bytes) 0 count (suc left) [] contents rest h.each steps (omega arith) (omega arith)
    ∙ ended (hashed_at size) (Truncated size) left count (concat_contents contents) rest (record { content = []; rest = h.tail })
    (hashed_again size count [] h.tail (omega arith)) refl

-- ---- contents that are given are those of such blocks

record Found (i : ℕ) (given bytes content : List ℕ) : Type 0 where
  contents : List (List ℕ)
  tail : List ℕ
  end : ℕ
  each : All IsContent contents
  due : end ≡ i + length contents
  is : bytes ≡ hashed_blocks i contents ++ (hashed_block end [] ++ tail)
  joined : content ≡ given ++ concat_contents contents

module _ (size n i : ℕ) (given bytes content : List ℕ)
    (is : contents_from (hashed_at size) (Truncated size) (suc n) i given bytes ≡ Ok content)
    (again : (b : BlockRead) → contents_from (hashed_at size) (Truncated size) n (suc i) (given ++ b.content) b.rest ≡ Ok content
    → Found (suc i) (given ++ b.content) b.rest content) where
  found_end : (b : BlockRead) → hashed_at size i bytes ≡ Ok b → length b.content ≡ 0 → Found i given bytes content
  unfolding written_blocks
  found_end b read none = record {
    contents = [];
    tail = b.rest;
    end = i;
    each = All-nil IsContent;
    due = omega arith;
    is = (first_of_read size i bytes b read).1 ∙ ap (λ (c : List ℕ). hashed_block i c ++ b.rest) (nil_from_length b.content none);
    joined = ap (value_or content) (sym is ∙ ended (hashed_at size) (Truncated size) n i given bytes b read none) ∙ sym (append-nil given);
  }

  found_more : (b : BlockRead) → hashed_at size i bytes ≡ Ok b → 0 < length b.content → Found i given bytes content
  unfolding written_blocks
  found_more b read some =
      let one = first_of_read size i bytes b read in
      let m = again b (sym (goes_on (hashed_at size) (Truncated size) n i given bytes b read some) ∙ is) in
      record {
        contents = b.content ∷ m.contents;
        tail = m.tail;
        end = m.end;
        each = All-cons IsContent b.content m.contents (some, one.0) m.each;
        due = omega (arith, m.due);
        is = one.1 ∙ ap (λ (xs : List ℕ). hashed_block i b.content ++ xs) m.is
            ∙ sym (append_assoc (hashed_block i b.content) (hashed_blocks (suc i) m.contents) (hashed_block m.end [] ++ m.tail));
        joined = m.joined ∙ append_assoc given b.content (concat_contents m.contents);
      }

  found_step : Found i given bytes content
  found_step = by (hashed_at size i bytes) refl
    where
      by_len : (b : BlockRead) → hashed_at size i bytes ≡ Ok b → (t : Bool) → (length b.content == 0) ≡ t → Found i given bytes content
      by_len b read true e = found_end b read (eqb-true (length b.content) 0 e)
      by_len b read false e = found_more b read (omega (arith, eqb-false (length b.content) 0 e))

      by : (r : Result BlockRead BlockFail) → hashed_at size i bytes ≡ r → Found i given bytes content
      by (Err fail) e = absurd (no_value _ fail content (refused (hashed_at size) (Truncated size) n i given bytes fail e) is)
      by (Ok b) e = by_len b e (length b.content == 0) refl

found : (size n i : ℕ) (given bytes content : List ℕ) → contents_from (hashed_at size) (Truncated size) n i given bytes ≡ Ok content
    → Found i given bytes content
found size zero i given bytes content is =
    absurd (no_value _ (Truncated size) content (runs_out (hashed_at size) (Truncated size) i given bytes) is)
found size (suc n) i given bytes content is =
    found_step size n i given bytes content is (λ b h. found size n (suc i) (given ++ b.content) b.rest content h)

pub AreHashed-contents_of : (size : ℕ) (bytes content : List ℕ) → hashed_contents_of size bytes ≡ Ok content
    → (contents : List (List ℕ)) × (AreHashed bytes contents × (content ≡ concat_contents contents))
AreHashed-contents_of size bytes content is =
    let f = found size (length bytes) 0 [] bytes content is in
    let blocks = hashed_blocks 0 f.contents in
    let last : f.end ≡ length f.contents = omega (arith, f.due) in (
      f.contents,
      (
        record {
          tail = f.tail;
          each = f.each;
          is = f.is ∙ ap (λ (k : ℕ). blocks ++ (hashed_block k [] ++ f.tail)) last
              ∙ sym (append_assoc blocks (hashed_block (length f.contents) []) f.tail);
        },
        f.joined,
      ),
    )
