use Rattle.std.proofs.Common.{◌≡◌, ◌+◌, ◌*◌, ℕ, take, drop, ap, ◌∙◌, arith}
use Rattle.aes_slices.proofs.BitLemmas.{below_eight}
use Rattle.block_core.proofs.cbc.blocks_at.Goals as goal

pub returns : goal.returns
returns c =
    let place : c.args.i ≡ c.args.i + 0 = omega arith in
    below_eight _ (c.block_at.ensures ∙ ap (λ (i : ℕ). take 16 (drop (16 * i) c.args.text.now)) place)
    c.block_at-2.ensures c.block_at-3.ensures c.block_at-4.ensures
    c.block_at-5.ensures c.block_at-6.ensures c.block_at-7.ensures c.block_at-8.ensures
