-- The parts of a file, as a function and as a relation.
use Rattle.std.proofs.Common.{◌≡◌, ◌≢◌, ◌∙◌, ℕ, ◌+◌, ◌*◌, ◌/◌, ◌-◌, ◌<◌, ◌≤◌, List, ◌++◌, Bool, subst, true, false, cond, Option, None, Some, Result, Ok, Err, refl, sym, ap, arith, length, take, drop, slice_range, bytes_eq, nat_le, length-drop}
use Rattle.std.proofs.lemmas.Bool.{leb-true, le-leb}
use Rattle.std.proofs.lemmas.Iterator.Adapters.{position_from-zero}
use Rattle.std.proofs.lemmas.List.{append_assoc, drop-drop}
use Rattle.std.proofs.lemmas.Slice.Eq.{bytes_eq-Decides}
use Rattle.std.specs.Int.{from_le_bytes, w32}
use Rattle.block_core.specs.Cbc.{blocks}
use Rattle.psafe_file.specs.SafeFiles.{Preamble, SafeFile, blocks_before_mark, end_mark, marked_file, parts_of, preamble_of, safe_file, tag}
use Rattle.psafe_file.specs.SafeForms.{IsPreamble, IsSafeFile}
use Rattle.psafe_file.specs.declared.fails.PsafeFail.{PsafeFail}
use Rattle.psafe_file.specs.declared.fails.PsafeFail.TheVariants as fail
use Rattle.psafe_file.proofs.Cuts.{block_in, cut, length_cut, parts, reaches}
use Rattle.psafe_file.proofs.Marks.{IsFirstMark, block_at, found, is_mark, sought}

-- seven parts and what follows them
regroup : (a b c d e f g rest : List ℕ)
    → a ++ (b ++ (c ++ (d ++ (e ++ (f ++ (g ++ rest)))))) ≡ a ++ b ++ c ++ d ++ e ++ f ++ g ++ rest
regroup a b c d e f g rest =
    sym (append_assoc a b (c ++ (d ++ (e ++ (f ++ (g ++ rest))))))
    ∙ sym (append_assoc (a ++ b) c (d ++ (e ++ (f ++ (g ++ rest)))))
    ∙ sym (append_assoc (a ++ b ++ c) d (e ++ (f ++ (g ++ rest))))
    ∙ sym (append_assoc (a ++ b ++ c ++ d) e (f ++ (g ++ rest)))
    ∙ sym (append_assoc (a ++ b ++ c ++ d ++ e) f (g ++ rest))
    ∙ sym (append_assoc (a ++ b ++ c ++ d ++ e ++ f) g rest)

-- five parts
regroup_file : (a b c d e : List ℕ) → a ++ (b ++ (c ++ (d ++ e))) ≡ a ++ b ++ c ++ d ++ e
regroup_file a b c d e =
    sym (append_assoc a b (c ++ (d ++ e))) ∙ sym (append_assoc (a ++ b) c (d ++ e)) ∙ sym (append_assoc (a ++ b ++ c) d e)

-- ---- the parts that are read are those of the file

-- what is before the blocks, and the bytes after it
preamble_cut : (bytes : List ℕ)
    → bytes ≡ slice_range bytes 0 4 ++ (slice_range bytes 4 36 ++ (slice_range bytes 36 40 ++ (slice_range bytes 40 72 ++ (slice_range bytes 72 104
    ++ (slice_range bytes 104 136 ++ (slice_range bytes 136 152 ++ drop 152 bytes))))))
preamble_cut bytes =
    cut 0 4 bytes
    ∙ ap (λ x. slice_range bytes 0 4 ++ x) (cut 4 32 bytes
    ∙ ap (λ x. slice_range bytes 4 36 ++ x) (cut 36 4 bytes
    ∙ ap (λ x. slice_range bytes 36 40 ++ x) (cut 40 32 bytes
    ∙ ap (λ x. slice_range bytes 40 72 ++ x) (cut 72 32 bytes
    ∙ ap (λ x. slice_range bytes 72 104 ++ x) (cut 104 32 bytes
    ∙ ap (λ x. slice_range bytes 104 136 ++ x) (cut 136 16 bytes))))))

-- the bytes of what is before the blocks
preamble_bytes : List ℕ → List ℕ
preamble_bytes bytes =
    tag ++ slice_range bytes 4 36 ++ slice_range bytes 36 40 ++ slice_range bytes 40 72 ++ slice_range bytes 72 104
    ++ slice_range bytes 104 136 ++ slice_range bytes 136 152

is_preamble : (bytes : List ℕ) → 152 ≤ length bytes → IsPreamble (preamble_bytes bytes) (preamble_of bytes)
unfolding preamble_bytes
is_preamble bytes long = record {
  iterations = slice_range bytes 36 40;
  is = refl;
  salt_len = length_cut 4 32 bytes (omega (arith, long));
  iterations_len = length_cut 36 4 bytes (omega (arith, long));
  check_len = length_cut 40 32 bytes (omega (arith, long));
  block_key_len = length_cut 72 32 bytes (omega (arith, long));
  mac_key_len = length_cut 104 32 bytes (omega (arith, long));
  iv_len = length_cut 136 16 bytes (omega (arith, long));
  number = refl;
}

-- the bytes from the blocks on
blocks_cut : (bytes : List ℕ) (count : ℕ) → slice_range bytes (152 + 16 * count) (152 + 16 * count + 16) ≡ end_mark
    → drop 152 bytes
    ≡ slice_range bytes 152 (152 + 16 * count) ++ (end_mark ++ (slice_range bytes (152 + 16 * count + 16) (152 + 16 * count + 16 + 32)
    ++ drop (152 + 16 * count + 16 + 32) bytes))
blocks_cut bytes count mark =
    let end = 152 + 16 * count in
    cut 152 (16 * count) bytes
    ∙ ap (λ x. slice_range bytes 152 end ++ x) (cut end 16 bytes
    ∙ ap (λ x. x ++ drop (end + 16) bytes) mark
    ∙ ap (λ x. end_mark ++ x) (cut (end + 16) 32 bytes))

-- A file whose blocks are before the first mark has the parts that are read.
is_file : (bytes : List ℕ) (count n : ℕ) → take 4 bytes ≡ tag → 152 + 16 * count + 48 ≤ length bytes → IsFirstMark (drop 152 bytes) n 0 count
    → IsSafeFile bytes (parts_of bytes count)
unfolding preamble_bytes
is_file bytes count n tagged long f =
    let end = 152 + 16 * count in
    let same : f.j ≡ count = omega (arith, f.is) in
    let sixteen : end + 16 - end ≡ 16 = omega arith in
    let mark : slice_range bytes end (end + 16) ≡ end_mark =
    ap (λ k. take k (drop end bytes)) sixteen ∙ ap (take 16) (sym (drop-drop (16 * count) 152 bytes)) ∙ ap (λ k. block_at (drop 152 bytes) k) (sym same) ∙ f.mark in
    let after = end_mark ++ (slice_range bytes (end + 16) (end + 16 + 32) ++ drop (end + 16 + 32) bytes) in
    let rest = blocks_cut bytes count mark in
    let blocks_len : length (slice_range bytes 152 end) ≡ 16 * count = length_cut 152 (16 * count) bytes (omega (arith, long)) in
    record {
      before = preamble_bytes bytes;
      rest = drop (end + 16 + 32) bytes;
      is =
          preamble_cut bytes
          ∙ ap (λ x. x ++ (slice_range bytes 4 36 ++ (slice_range bytes 36 40 ++ (slice_range bytes 40 72 ++ (slice_range bytes 72 104 ++ (slice_range bytes 104 136 ++ (slice_range bytes 136 152 ++ drop 152 bytes))))))) tagged
          ∙ regroup tag (slice_range bytes 4 36) (slice_range bytes 36 40) (slice_range bytes 40 72) (slice_range bytes 72 104) (slice_range bytes 104 136) (slice_range bytes 136 152) (drop 152 bytes)
          ∙ ap (λ x. preamble_bytes bytes ++ x) rest
          ∙ regroup_file (preamble_bytes bytes) (slice_range bytes 152 end) end_mark (slice_range bytes (end + 16) (end + 16 + 32)) (drop (end + 16 + 32) bytes);
      preamble = is_preamble bytes (omega (arith, long));
      count = count;
      blocks_len = blocks_len;
      unmarked = λ k l is_it. f.before k (omega (arith, l, same)) (ap (λ x. take 16 (drop (16 * k) x)) rest ∙ block_in (slice_range bytes 152 end) after count k blocks_len l ∙ is_it);
      mac_len = length_cut (end + 16) 32 bytes (omega (arith, long));
    }

-- a place that the search gives
marked_is : (bytes : List ℕ) (count : Option ℕ) (file : SafeFile) → take 4 bytes ≡ tag → blocks_before_mark (drop 152 bytes) ≡ count
    → marked_file bytes count ≡ Ok file → IsSafeFile bytes file
marked_is bytes None file tagged is h = cc
marked_is bytes (Some count) file tagged is h = by (nat_le (152 + 16 * count + 48) (length bytes)) refl h
  where
    by : (b : Bool) → nat_le (152 + 16 * count + 48) (length bytes) ≡ b
        → ◌≡◌ {A = Result SafeFile PsafeFail} (cond b (Ok (parts_of bytes count)) (Err (fail.Truncated (length bytes)))) (Ok file) → IsSafeFile bytes file
    by true e g =
        let same : parts_of bytes count ≡ file = cc in
        let n = length (drop 152 bytes) / 16 in
        let first = found n 0 count (drop 152 bytes) (sym (position_from-zero is_mark (blocks n (drop 152 bytes))) ∙ is) in
        subst (λ f. IsSafeFile bytes f) same (is_file bytes count n tagged (leb-true (152 + 16 * count + 48) (length bytes) e) first)
    by false e g = cc

-- The parts that are read are those of the file.
pub divided : (bytes : List ℕ) (file : SafeFile) → safe_file bytes ≡ Ok file → IsSafeFile bytes file
unfolding safe_file
divided bytes file h = by (bytes_eq (take 4 bytes) tag) refl h
  where
    long : (b : Bool) → take 4 bytes ≡ tag
        → ◌≡◌ {A = Result SafeFile PsafeFail} (cond b (marked_file bytes (blocks_before_mark (drop 152 bytes))) (Err (fail.Truncated (length bytes)))) (Ok file)
        → IsSafeFile bytes file
    long true tagged g = marked_is bytes (blocks_before_mark (drop 152 bytes)) file tagged refl g
    long false tagged g = cc

    by : (b : Bool) → bytes_eq (take 4 bytes) tag ≡ b
        → ◌≡◌ {A = Result SafeFile PsafeFail}
        (cond b (cond (nat_le 152 (length bytes)) (marked_file bytes (blocks_before_mark (drop 152 bytes))) (Err (fail.Truncated (length bytes)))) (Err fail.NotPsafe)) (Ok file)
        → IsSafeFile bytes file
    by true e g = long (nat_le 152 (length bytes)) ((bytes_eq-Decides (take 4 bytes) tag).0 e) g
    by false e g = cc

-- ---- the parts of a file are read

-- bytes that begin with what is before the blocks, and go on
record Cut (bytes : List ℕ) (preamble : Preamble) (rest : List ℕ) : Type 0 where
  tagged : take 4 bytes ≡ tag
  same : preamble_of bytes ≡ preamble
  then : drop 152 bytes ≡ rest

preamble_read : (bytes before rest : List ℕ) (preamble : Preamble) → IsPreamble before preamble → bytes ≡ before ++ rest → Cut bytes preamble rest
preamble_read bytes before rest p s is =
    let whole : drop 0 bytes ≡ tag ++ (p.salt ++ (s.iterations ++ (p.check ++ (p.enciphered_block_key ++ (p.enciphered_mac_key ++ (p.iv ++ rest)))))) =
    is ∙ ap (λ x. x ++ rest) s.is ∙ sym (regroup tag p.salt s.iterations p.check p.enciphered_block_key p.enciphered_mac_key p.iv rest)
    in
    let t0 = parts 0 4 bytes tag _ whole refl in
    let t1 = parts 4 32 bytes p.salt _ t0.1 s.salt_len in
    let t2 = parts 36 4 bytes s.iterations _ t1.1 s.iterations_len in
    let t3 = parts 40 32 bytes p.check _ t2.1 s.check_len in
    let t4 = parts 72 32 bytes p.enciphered_block_key _ t3.1 s.block_key_len in
    let t5 = parts 104 32 bytes p.enciphered_mac_key _ t4.1 s.mac_key_len in
    let t6 = parts 136 16 bytes p.iv _ t5.1 s.iv_len in
    let number : from_le_bytes w32 (slice_range bytes 36 40) ≡ p.iterations = ap (from_le_bytes w32) t2.0 ∙ s.number in
    record {
      tagged = t0.0;
      same = λ i. record {
        salt = t1.0 i;
        iterations = number i;
        check = t3.0 i;
        enciphered_block_key = t4.0 i;
        enciphered_mac_key = t5.0 i;
        iv = t6.0 i;
      };
      then = t6.1;
    }

-- what the tests of a file come to where each is met
all_met : (bytes : List ℕ) (count : ℕ) (file : SafeFile) → take 4 bytes ≡ tag → 152 + 16 * count + 48 ≤ length bytes
    → blocks_before_mark (drop 152 bytes) ≡ Some count → parts_of bytes count ≡ file → safe_file bytes ≡ Ok file
unfolding safe_file
all_met bytes count file tagged long sought_is same =
    let truncated : Result SafeFile PsafeFail = Err (fail.Truncated (length bytes)) in
    let tested = (bytes_eq-Decides (take 4 bytes) tag).1 tagged in
    let long_preamble = le-leb 152 (length bytes) (omega (arith, long)) in
    let long_file = le-leb (152 + 16 * count + 48) (length bytes) long in
    ap (λ b. cond b (cond (nat_le 152 (length bytes)) (marked_file bytes (blocks_before_mark (drop 152 bytes))) truncated) (Err fail.NotPsafe)) tested
    ∙ ap (λ b. cond b (marked_file bytes (blocks_before_mark (drop 152 bytes))) truncated) long_preamble
    ∙ ap (marked_file bytes) sought_is
    ∙ ap (λ b. cond b (Ok (parts_of bytes count)) truncated) long_file
    ∙ ap Ok same

-- The parts of a file are read.
pub read : (bytes : List ℕ) (file : SafeFile) → IsSafeFile bytes file → safe_file bytes ≡ Ok file
read bytes file s =
    let end = 152 + 16 * s.count in
    let after = end_mark ++ (file.mac ++ s.rest) in
    let c = preamble_read bytes s.before (file.blocks ++ after) file.preamble s.preamble (s.is ∙ sym (regroup_file s.before file.blocks end_mark file.mac s.rest)) in
    let t7 = parts 152 (16 * s.count) bytes file.blocks after c.then s.blocks_len in
    let t8 = parts end 16 bytes end_mark (file.mac ++ s.rest) t7.1 refl in
    let t9 = parts (end + 16) 32 bytes file.mac s.rest t8.1 s.mac_len in
    let long : 152 + 16 * s.count + 48 ≤ length bytes = omega (arith, reaches (end + 16) 32 bytes file.mac t9.0 s.mac_len (omega arith)) in
    let sixteen : 16 ≡ end + 16 - end = omega arith in
    let mark : block_at (drop 152 bytes) s.count ≡ end_mark =
    ap (take 16) (drop-drop (16 * s.count) 152 bytes) ∙ ap (λ k. take k (drop end bytes)) sixteen ∙ t8.0
    in
    let n = length (drop 152 bytes) / 16 in
    let within : s.count < n = omega (arith, long, length-drop 152 bytes) in
    let before : (k : ℕ) → k < s.count → block_at (drop 152 bytes) k ≢ end_mark =
    λ k l is_it. s.unmarked k l (sym (block_in file.blocks after s.count k s.blocks_len l) ∙ ap (λ x. take 16 (drop (16 * k) x)) (sym c.then) ∙ is_it)
    in
    let from_zero : 0 + s.count ≡ s.count = omega arith in
    let place : blocks_before_mark (drop 152 bytes) ≡ Some s.count =
    position_from-zero is_mark (blocks n (drop 152 bytes)) ∙ sought s.count n 0 (drop 152 bytes) within mark before
    ∙ ap Some from_zero
    in
    all_met bytes s.count file c.tagged long place (λ i. record { preamble = c.same i; blocks = t7.0 i; mac = t9.0 i })
