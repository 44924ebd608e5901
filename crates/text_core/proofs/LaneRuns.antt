-- How many of sixteen bytes are written as they are, by the mask of the others.
use Rattle.std.proofs.Common.{◌≡◌, ℕ, ◌+◌, ◌%◌, ◌^◌, ◌<◌, ◌≤◌, Bool, not, cond, eqb, ltb, List, [], ◌∷◌, map, length, drop, refl, ap, ap₂, sym, ◌∙◌, arith, w8, Fits, bit_or, bit_and}
use Rattle.std.proofs.lemmas.Bool.{agree_below_at, cond-true, cond-false, eq-eqb, ne_eqb}
use Rattle.std.proofs.lemmas.List.{length-map}
use Rattle.std.proofs.lemmas.List.Folds.{prefix_len-append}
use Rattle.std.proofs.lemmas.List.Sums.{prefix_len-le-length}
use Rattle.std.proofs.lemmas.Simd.{map-map, mask_l-mod, chunk-drop, length-chunk, first_set_mask_l}
use Rattle.std.specs.List.{prefix_len}
use Rattle.std.specs.Simd.Lanes.{chunk, mask_l, top, Each1}
use Rattle.text_core.specs.Lanes.{first_set}
use Rattle.text_core.specs.Parts.{is_verbatim}

abbrev pub hit : ℕ → ℕ → ℕ
hit a b = cond (eqb a b) 255 0

abbrev pub miss : ℕ → ℕ → ℕ
miss a b = cond (not (eqb a b)) 255 0

abbrev pub below : ℕ → ℕ → ℕ
below a b = cond (ltb a b) 255 0

-- the lane of a byte, which is set where the byte is written otherwise
abbrev pub lane : ℕ → ℕ
lane b =
    bit_or (bit_or (bit_and (bit_and (below b 32) (miss b 9)) (miss b 10)) (bit_or (hit b 34) (hit b 38)))
    (bit_or (hit b 60) (hit b 62))

lane_stops : (b : ℕ) → b < 256 → not (top 7 (lane b)) ≡ is_verbatim b
unfolding is_verbatim
lane_stops b fit = agree_below_at (λ b. not (top 7 (lane b))) is_verbatim 256 b refl fit

same_len : (bytes : List ℕ) → Each1 (Fits w8) bytes → prefix_len (λ b. not (top 7 (lane b))) bytes ≡ prefix_len is_verbatim bytes
same_len [] fits = refl
same_len (b ∷ bytes) fits = ap₂ (λ t n. cond t (1 + n) 0) (lane_stops b fits.0.fits) (same_len bytes fits.1)

pub counted : (bytes lanes : List ℕ) → length bytes ≡ 16 → Each1 (Fits w8) bytes → lanes ≡ map lane bytes → first_set (mask_l (map (top 7) lanes) % 2 ^ 64) ≡ prefix_len is_verbatim bytes
counted bytes lanes long fits are =
    let stops : ℕ → Bool = λ b. top 7 (lane b) in
    ap (λ l. first_set (mask_l l % 2 ^ 64)) (ap (map (top 7)) are ∙ map-map (top 7) lane bytes)
    ∙ ap first_set (mask_l-mod (map stops bytes) 64 (omega (arith, length-map bytes stops)))
    ∙ first_set_mask_l stops bytes 16 long (omega arith)
    ∙ same_len bytes fits

-- the run at a place, by its part in the sixteen bytes there
module _ (text : List ℕ) (at len : ℕ) (room : at + 16 ≤ length text) (is : len ≡ prefix_len is_verbatim (chunk at 16 text)) where
  run_at : prefix_len is_verbatim (drop at text) ≡ cond (eqb (prefix_len is_verbatim (chunk at 16 text)) 16) (16 + prefix_len is_verbatim (drop (at + 16) text)) (prefix_len is_verbatim (chunk at 16 text))
  run_at =
      ap (prefix_len is_verbatim) (chunk-drop at 16 text) ∙ prefix_len-append is_verbatim (chunk at 16 text) (drop (at + 16) text)
      ∙ ap (λ k. cond (eqb (prefix_len is_verbatim (chunk at 16 text)) k) (k + prefix_len is_verbatim (drop (at + 16) text)) (prefix_len is_verbatim (chunk at 16 text))) (length-chunk at 16 text room)

  -- it ends among them
  pub run_ends : len < 16 → prefix_len is_verbatim (drop at text) ≡ len
  run_ends less = run_at ∙ cond-false _ _ _ (ne_eqb _ _ (λ (e : prefix_len is_verbatim (chunk at 16 text) ≡ 16). omega (arith, is))) ∙ sym is

  -- it goes on after them
  pub run_goes_on : 16 ≤ len → prefix_len is_verbatim (drop at text) ≡ 16 + prefix_len is_verbatim (drop (at + 16) text)
  run_goes_on all =
      let whole : prefix_len is_verbatim (chunk at 16 text) ≡ 16 = omega (arith, is, prefix_len-le-length is_verbatim (chunk at 16 text), length-chunk at 16 text room) in
      run_at ∙ cond-true _ _ _ (eq-eqb _ _ whole)
