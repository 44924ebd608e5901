-- The pieces of a text after its first.
use Rattle.std.proofs.Common.{◌≡◌, ◌≤◌, ◌<◌, ℕ, suc, ◌+◌, ◌-◌, Bool, true, false, cond, ◌==◌, List, [], ◌∷◌, ◌++◌, length, take, drop, Option, Some, None, refl, sym, ap, ◌∙◌, subst, arith, length-append, length-drop}
use Rattle.std.specs.Prelude.{nat_lt, slice_index}
use Rattle.std.specs.List.{position, position_or_len}
use Rattle.std.specs.Option.{option_and_then}
use Rattle.std.proofs.lemmas.Bool.Decides.{nat_tests}
use Rattle.std.proofs.lemmas.List.{length-take-le, take-append-drop}
use Rattle.find_references.specs.References.{Reference, byte, closed_reference, is_close, is_opened, part_of, pieces, place_of, reference, reference_at}

pub pieces_past : (front following : List ℕ) → pieces (length front) (front ++ following) ≡ pieces 0 following
pieces_past [] following = refl
pieces_past (b ∷ front) following = pieces_past front following

-- a byte that begins no reference
pub byte_first : (b : ℕ) (bs : List ℕ) → reference_at (b ∷ bs) ≡ None → pieces 0 (b ∷ bs) ≡ byte b ∷ pieces 0 bs
byte_first b bs none = rw none refl

-- a reference, which is written with one byte at least
pub reference_first : (text following : List ℕ) (r : Reference) → reference_at text ≡ Some r → text ≡ r.written ++ following → 0 < length r.written
    → pieces 0 text ≡ reference r ∷ pieces 0 following
reference_first [] following r found joined some = absurd (omega (arith, ap length joined, length-append r.written following))
reference_first (b ∷ bs) following r found joined some = rw found (ap (λ ps. reference r ∷ ps) (tail r.written joined some))
  where
    tail : (written : List ℕ) → b ∷ bs ≡ written ++ following → 0 < length written → pieces (length written - 1) bs ≡ pieces 0 following
    tail [] e none = absurd (omega arith)
    tail (c ∷ written) e more =
        let rest : bs ≡ written ++ following = cc in
        let n : suc (length written) - 1 ≡ length written = omega arith in
        ap (λ k. pieces k bs) n ∙ ap (pieces (length written)) rest ∙ pieces_past written following

-- ---- how a reference is written

-- a reference is at the beginning of its text
pub record StandsFirst (written text : List ℕ) : Type 0 where
  pub joined : text ≡ written ++ drop (length written) text
  pub some : 0 < length written
  pub within : length written ≤ length text

chosen : {A : Type 0} (b : Bool) (x y : A) → cond b (Some x) None ≡ Some y → (b ≡ true) × (x ≡ y)
chosen true x y h = (refl, let e : x ≡ y = cc in e)
chosen false x y h = let f : ⊥ = cc in absurd f

left_out : {A : Type 0} (b : Bool) (x y : A) → cond b None (Some x) ≡ Some y → x ≡ y
left_out true x y h = let f : ⊥ = cc in absurd f
left_out false x y h = let e : x ≡ y = cc in e

let_in : {A : Type 0} (b : Bool) (o : Option A) (y : A) → cond b o None ≡ Some y → o ≡ Some y
let_in true o y h = h
let_in false o y h = let f : ⊥ = cc in absurd f

came_from : {A B : Type 0} (f : A → Option B) (o : Option A) (y : B) → option_and_then f o ≡ Some y → (x : A) × ((o ≡ Some x) × (f x ≡ Some y))
came_from f None y h = let f : ⊥ = cc in absurd f
came_from f (Some x) y h = (x, (refl, h))

place_within : (p : ℕ → Bool) (xs : List ℕ) (n : ℕ) → position p xs ≡ Some n → n < length xs
place_within p xs n h =
    let k = position_or_len p xs in
    let found = chosen (nat_lt k (length xs)) k n h in
    subst (λ m. m < length xs) found.1 (below k (length xs) found.0)
  where
    below : (a b : ℕ) → nat_lt a b ≡ true → a < b
    below a b e = grind (arith, nat_tests)

so_long : (text written : List ℕ) (n : ℕ) → take (10 + n) text ≡ written → n < length (drop 9 text) → StandsFirst written text
so_long text written n is below =
    let fits : 10 + n ≤ length text = omega (arith, below, length-drop 9 text) in
    let long : length written ≡ 10 + n = ap length (sym is) ∙ length-take-le (10 + n) text fits in record {
      joined = sym (take-append-drop (10 + n) text) ∙ ap (λ w. w ++ drop (10 + n) text) is ∙ ap (λ k. written ++ drop k text) (sym long);
      some = omega (arith, long);
      within = omega (arith, long, fits);
    }

pub stands_first : (text : List ℕ) (r : Reference) → reference_at text ≡ Some r → StandsFirst r.written text
unfolding reference_at
stands_first text r found =
    let wanted = came_from _ (part_of (slice_index text 5)) r (let_in (is_opened text) _ r found) in
    let place = came_from _ (place_of (slice_index text 7)) r wanted.1.1 in
    let close = came_from (closed_reference text wanted.0 place.0) (position is_close (drop 9 text)) r place.1.1 in
    let same = left_out (close.0 == 0) _ r close.1.1 in
    so_long text r.written close.0 (ap (λ (x : Reference). x.written) same) (place_within is_close (drop 9 text) close.0 close.1.0)
