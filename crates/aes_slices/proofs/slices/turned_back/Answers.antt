use Rattle.std.proofs.Common.{◌≡◌, ℕ, ◌+◌, ◌-◌, ◌*◌, ◌/◌, ◌%◌, List, [], ◌∷◌, slice_index, refl, ap, ◌∙◌}
use Rattle.std.specs.Simd.Lanes.{pick_l}
use Rattle.std.proofs.lemmas.Simd.{pick_l_left}
use Rattle.aes_slices.proofs.SliceLemmas.{below_sixteen}
use Rattle.aes_slices.proofs.slices.turned_back.Goals as goal

pub returns : goal.returns
returns c l lane =
    let places : List ℕ = 0 ∷ 1 ∷ 2 ∷ 3 ∷ 7 ∷ 4 ∷ 5 ∷ 6 ∷ 10 ∷ 11 ∷ 8 ∷ 9 ∷ 13 ∷ 14 ∷ 15 ∷ 12 ∷ [] in
    ap (λ xs. slice_index xs l) (pick_l_left 0 c.args.x c.args.x 16 places c.fits-x.0 tt)
    ∙ below_sixteen (λ k. slice_index (pick_l 0 c.args.x places) k ≡ slice_index c.args.x (4 * (k / 4) + (k % 4 + 4 - k / 4) % 4))
    refl refl refl refl refl refl refl refl refl refl refl refl refl refl refl refl l lane
