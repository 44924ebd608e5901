use Rattle.std.proofs.Common.{◌<◌, [], slice_index_or, ap, ◌∙◌, arith}
use Rattle.std.specs.Int.{bit_at}
use Rattle.aes_slices.specs.Packing.{by_rows}
use Rattle.aes_slices.proofs.PackingLemmas.{block_by_bits}
use Rattle.aes_slices.proofs.packing.unpack.Goals as goal

pub returns : goal.returns
returns c j block =
    c.blocks_of.ensures j block
    ∙ block_by_bits c.args.s j (slice_index_or c.all_by_rows-vectors.result j []) (c.are_bytes.ensures.whole j block)
    (λ i h. c.are_bytes.ensures.bytes j i block h)
    (λ i b h bit. (let lane : by_rows i < 16 = omega arith in
    ap (λ x. bit_at x b) (c.all_by_rows-vectors.ensures j i block h) ∙ c.exchange.ensures b (by_rows i) j bit lane block))
