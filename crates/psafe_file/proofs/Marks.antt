-- The search for the mark among whole blocks.
use Rattle.std.proofs.Common.{◌≡◌, ◌≢◌, ◌∙◌, ℕ, zero, suc, ◌+◌, ◌*◌, ◌<◌, List, Bool, true, false, cond, Some, refl, sym, ap, arith, take, drop, bytes_eq}
use Rattle.std.proofs.lemmas.List.{drop-drop}
use Rattle.std.proofs.lemmas.Slice.Eq.{bytes_eq-Decides}
use Rattle.std.specs.List.{position_from}
use Rattle.block_core.specs.Cbc.{blocks}
use Rattle.psafe_file.specs.SafeFiles.{end_mark}

-- A block is the mark.
abbrev pub is_mark : List ℕ → Bool
is_mark block = bytes_eq block end_mark

-- Block k of bytes.
abbrev pub block_at : List ℕ → ℕ → List ℕ
block_at bytes k = take 16 (drop (16 * k) bytes)

-- Of the first n blocks the one after j others is the first that is the mark; they are counted from i.
pub record IsFirstMark (bytes : List ℕ) (n i k : ℕ) : Type 0 where
  pub j : ℕ
  pub is : k ≡ i + j
  pub within : j < n
  pub mark : block_at bytes j ≡ end_mark
  pub before : (m : ℕ) → m < j → block_at bytes m ≢ end_mark

-- a block after the first is one of the bytes after it
next_block : (bytes : List ℕ) (j : ℕ) → block_at bytes (suc j) ≡ block_at (drop 16 bytes) j
next_block bytes j =
    let later : 16 * suc j ≡ 16 + 16 * j = omega arith in
    ap (λ d. take 16 (drop d bytes)) later ∙ ap (take 16) (sym (drop-drop (16 * j) 16 bytes))

-- no block is both
both : (b : Bool) → b ≡ true → b ≡ false → ⊥
both b t f = cc

-- a block that is not found is not the mark
other : (block : List ℕ) → is_mark block ≡ false → block ≢ end_mark
other block e same = both (is_mark block) ((bytes_eq-Decides block end_mark).1 same) e

-- and a block that is not the mark is not found
passed : (block : List ℕ) → block ≢ end_mark → is_mark block ≡ false
passed block h = by (is_mark block) refl
  where
    by : (b : Bool) → is_mark block ≡ b → b ≡ false
    by true e = absurd (h ((bytes_eq-Decides block end_mark).0 e))
    by false e = refl

-- none of the blocks up to one in the bytes after the first is the mark
none_before : (bytes : List ℕ) (j : ℕ) → block_at bytes 0 ≢ end_mark → ((m : ℕ) → m < j → block_at (drop 16 bytes) m ≢ end_mark)
    → (m : ℕ) → m < suc j → block_at bytes m ≢ end_mark
none_before bytes j first before zero l = first
none_before bytes j first before (suc m) l = λ same. before m (omega (arith, l)) (sym (next_block bytes m) ∙ same)

later_mark : (bytes : List ℕ) (n i k : ℕ) → block_at bytes 0 ≢ end_mark → IsFirstMark (drop 16 bytes) n (i + 1) k → IsFirstMark bytes (suc n) i k
later_mark bytes n i k first f = record {
  j = suc f.j;
  is = omega (arith, f.is);
  within = omega (arith, f.within);
  mark = next_block bytes f.j ∙ f.mark;
  before = none_before bytes f.j first f.before;
}

-- What is found is the first mark.
pub found : (n i k : ℕ) (bytes : List ℕ) → position_from is_mark i (blocks n bytes) ≡ Some k → IsFirstMark bytes n i k
unfolding blocks
found zero i k bytes h = cc
found (suc n) i k bytes h = by (is_mark (take 16 bytes)) refl h (found n (i + 1) k (drop 16 bytes))
  where
    by : (b : Bool) → is_mark (take 16 bytes) ≡ b → cond b (Some i) (position_from is_mark (i + 1) (blocks n (drop 16 bytes))) ≡ Some k
        → (position_from is_mark (i + 1) (blocks n (drop 16 bytes)) ≡ Some k → IsFirstMark (drop 16 bytes) n (i + 1) k) → IsFirstMark bytes (suc n) i k
    by true e g rest =
        let same : i ≡ k = cc in
        record {
          j = 0;
          is = omega (arith, same);
          within = omega arith;
          mark = (bytes_eq-Decides (take 16 bytes) end_mark).0 e;
          before = λ m l. absurd (omega (arith, l));
        }
    by false e g rest = later_mark bytes n i k (other (take 16 bytes) e) (rest g)

-- The first mark is found.
pub sought : (j n i : ℕ) (bytes : List ℕ) → j < n → block_at bytes j ≡ end_mark → ((m : ℕ) → m < j → block_at bytes m ≢ end_mark)
    → position_from is_mark i (blocks n bytes) ≡ Some (i + j)
unfolding blocks
sought j zero i bytes l mark before = absurd (omega (arith, l))
sought zero (suc n) i bytes l mark before =
    let here : i ≡ i + 0 = omega arith in
    ap (λ b. cond b (Some i) (position_from is_mark (i + 1) (blocks n (drop 16 bytes)))) ((bytes_eq-Decides (take 16 bytes) end_mark).1 mark)
    ∙ ap Some here
sought (suc j) (suc n) i bytes l mark before =
    let there : i + 1 + j ≡ i + suc j = omega arith in
    ap (λ b. cond b (Some i) (position_from is_mark (i + 1) (blocks n (drop 16 bytes)))) (passed (take 16 bytes) (before 0 (omega arith)))
    ∙ sought j n (i + 1) (drop 16 bytes) (omega (arith, l)) (sym (next_block bytes j) ∙ mark) (λ m k same. before (suc m) (omega (arith, k)) (next_block bytes m ∙ same))
    ∙ ap Some there
