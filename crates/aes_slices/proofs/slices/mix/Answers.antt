use Rattle.std.proofs.Common.{◌≡◌, ℕ, ◌<◌, ◌+◌, ◌%◌, ap, ◌∙◌, arith, bit_xor}
use Rattle.aes_slices.specs.Slices.{cell, times_x}
use Rattle.aes_slices.proofs.slices.mix.Goals as goal

pub returns : goal.returns
returns c j l block lane =
    let s = c.args.s in
    let m : ℕ = (l + 8) % 16 in
    let m_lane : m < 16 = omega arith in
    let place : (m + 4) % 16 ≡ (l + 12) % 16 = omega arith in
    let next : cell c.next_rows-next.result j m ≡ cell s j ((l + 12) % 16) = c.next_rows-next.ensures j m block m_lane ∙ ap (cell s j) place in
    let second = c.second_rows.ensures j l block lane ∙ c.sum-sums.ensures j m block m_lane ∙ ap (bit_xor (cell s j m)) next in
    let own = c.sum-sums.ensures j l block lane ∙ ap (bit_xor (cell s j l)) (c.next_rows-next.ensures j l block lane) in
    c.sum-2.ensures j l block lane
    ∙ (λ i. bit_xor ((c.sum.ensures j l block lane ∙ (λ k. bit_xor (c.next_rows-next.ensures j l block lane k) (second k))) i)
    ((c.times_x.ensures j l block lane ∙ ap times_x own) i))
