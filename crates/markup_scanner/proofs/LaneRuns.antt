-- How many of sixteen bytes are of a run, by the mask of those that are not, and how the run goes on
-- after them.
use Rattle.std.proofs.Common.{◌≡◌, ℕ, ◌+◌, ◌%◌, ◌^◌, ◌<◌, ◌≤◌, Bool, true, false, not, ◌&&◌, cond, eqb, replicate, List, [], ◌∷◌, map, length, drop, refl, sym, ap, ap₂, ◌∙◌, arith, w8, Fits, bit_or, bit_and, ltb}
use Rattle.std.proofs.lemmas.Bool.{agree_below_at, cond-true, cond-false, eq-eqb, ne_eqb}
use Rattle.std.proofs.lemmas.List.{length-map}
use Rattle.std.proofs.lemmas.List.Folds.{prefix_len-append}
use Rattle.std.proofs.lemmas.List.Sums.{prefix_len-le-length}
use Rattle.std.proofs.lemmas.Simd.{map-map, zip2_splat, zip2_splat_left, zip2_of_maps, mask_l-mod, chunk-drop, length-chunk, first_set_mask_l}
use Rattle.std.specs.List.{prefix_len}
use lib.Lanes.{chunk, zip2, mask_l, top, Each1}
use Rattle.markup_grammar.specs.Bytes.{is_space, is_text, is_value, is_name_byte, is_digit, begins_name}
use Rattle.markup_scanner.specs.Lanes.{first_set}
use Rattle.markup_scanner.specs.Scans.{run_end}

-- ---- vectors computed lane by lane from bytes

abbrev pub hit : ℕ → ℕ → ℕ
hit a b = cond (eqb a b) 255 0

abbrev pub miss : ℕ → ℕ → ℕ
miss a b = cond (not (eqb a b)) 255 0

abbrev pub below : ℕ → ℕ → ℕ
below a b = cond (ltb a b) 255 0

-- each byte beside the same one
pub beside : (op : ℕ → ℕ → ℕ) (bytes : List ℕ) (b : ℕ) → length bytes ≡ 16 → zip2 op bytes (replicate 16 b) ≡ map (λ x. op x b) bytes
beside op bytes b long = zip2_splat op bytes 16 b long

-- with the sides changed, as `simd_gt` has them
pub above : (bytes : List ℕ) (b : ℕ) → length bytes ≡ 16 → zip2 below (replicate 16 b) bytes ≡ map (λ x. below b x) bytes
above bytes b long = zip2_splat_left below b 16 bytes long

-- an operation on two such vectors
pub joined : (op : ℕ → ℕ → ℕ) (f g : ℕ → ℕ) (bytes : List ℕ) {xs ys : List ℕ} → xs ≡ map f bytes → ys ≡ map g bytes → zip2 op xs ys ≡ map (λ x. op (f x) (g x)) bytes
joined op f g bytes one other = zip2_of_maps op f g bytes one other

-- ---- runs

-- tests that agree on bytes
same_len : (p q : ℕ → Bool) (bytes : List ℕ) → ((b : ℕ) → b < 256 → p b ≡ q b) → Each1 (Fits w8) bytes → prefix_len p bytes ≡ prefix_len q bytes
same_len p q [] same fits = refl
same_len p q (b ∷ bytes) same fits = ap₂ (λ t n. cond t (1 + n) 0) (same b fits.0.fits) (same_len p q bytes same fits.1)

-- where the lanes that stop are those of the bytes that do not pass
pub counted : (test : ℕ → Bool) (lane : ℕ → ℕ) (bytes lanes : List ℕ) → length bytes ≡ 16 → Each1 (Fits w8) bytes → lanes ≡ map lane bytes
    → ((b : ℕ) → b < 256 → not (top 7 (lane b)) ≡ test b) → first_set (mask_l (map (top 7) lanes) % 2 ^ 64) ≡ prefix_len test bytes
counted test lane bytes lanes long fits are same =
    let stops : ℕ → Bool = λ b. top 7 (lane b) in
    ap (λ l. first_set (mask_l l % 2 ^ 64)) (ap (map (top 7)) are ∙ map-map (top 7) lane bytes)
    ∙ ap first_set (mask_l-mod (map stops bytes) 64 (omega (arith, length-map bytes stops)))
    ∙ first_set_mask_l stops bytes 16 long (omega arith)
    ∙ same_len (λ b. not (stops b)) test bytes same fits

-- the run at a place, by its part in the sixteen bytes there
run_at : (test : ℕ → Bool) (text : List ℕ) (at : ℕ) → at + 16 ≤ length text
    → prefix_len test (drop at text) ≡ cond (eqb (prefix_len test (chunk at 16 text)) 16) (16 + prefix_len test (drop (at + 16) text)) (prefix_len test (chunk at 16 text))
run_at test text at room =
    ap (prefix_len test) (chunk-drop at 16 text) ∙ prefix_len-append test (chunk at 16 text) (drop (at + 16) text)
    ∙ ap (λ k. cond (eqb (prefix_len test (chunk at 16 text)) k) (k + prefix_len test (drop (at + 16) text)) (prefix_len test (chunk at 16 text))) (length-chunk at 16 text room)

-- it ends among them
pub run_ends : (test : ℕ → Bool) (text : List ℕ) (at len : ℕ) → at + 16 ≤ length text → len ≡ prefix_len test (chunk at 16 text) → len < 16 → run_end test text at ≡ at + len
run_ends test text at len room is less =
    ap (λ n. at + n) (run_at test text at room ∙ cond-false _ _ _ (ne_eqb _ _ (λ (e : prefix_len test (chunk at 16 text) ≡ 16). omega (arith, is))) ∙ sym is)

-- it goes on after them
pub run_goes_on : (test : ℕ → Bool) (text : List ℕ) (at len : ℕ) → at + 16 ≤ length text → len ≡ prefix_len test (chunk at 16 text) → 16 ≤ len → run_end test text at ≡ run_end test text (at + 16)
run_goes_on test text at len room is all =
    let whole : prefix_len test (chunk at 16 text) ≡ 16 = omega (arith, is, prefix_len-le-length test (chunk at 16 text), length-chunk at 16 text room) in
    let e = run_at test text at room ∙ cond-true _ _ _ (eq-eqb _ _ whole) in
    omega (arith, e)

-- ---- the lanes that stop a value

abbrev text_lane : ℕ → ℕ
text_lane b =
    bit_or (bit_or (hit b 38) (hit b 60))
    (bit_and (bit_and (bit_and (below b 32) (miss b 9)) (miss b 10)) (miss b 13))

closed_or_not : (b : ℕ) → b < 256 → (closes : Bool) → not (top 7 (bit_or (text_lane b) (cond closes 255 0))) ≡ (is_text b && not closes)
unfolding is_text is_space
closed_or_not b fit true = agree_below_at (λ b. not (top 7 (bit_or (text_lane b) 255))) (λ b. is_text b && not true) 256 b refl fit
closed_or_not b fit false = agree_below_at (λ b. not (top 7 (bit_or (text_lane b) 0))) (λ b. is_text b && not false) 256 b refl fit

pub value_stops : (quote b : ℕ) → b < 256 → not (top 7 (bit_or (text_lane b) (hit b quote))) ≡ is_value quote b
unfolding is_value
value_stops quote b fit = closed_or_not b fit (eqb b quote)

-- ---- the lanes that stop a name

abbrev name_lane : ℕ → ℕ
name_lane b =
    bit_or (bit_or (bit_or (bit_or (below b 45) (hit b 47)) (bit_and (below 58 b) (below b 65)))
    (bit_and (bit_and (below 90 b) (below b 97)) (miss b 95))) (bit_and (below 122 b) (below b 128))

pub name_stops : (b : ℕ) → b < 256 → not (top 7 (name_lane b)) ≡ is_name_byte b
unfolding is_name_byte begins_name is_digit
name_stops b fit = agree_below_at (λ b. not (top 7 (name_lane b))) is_name_byte 256 b refl fit
