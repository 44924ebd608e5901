use Rattle.std.proofs.Common.{◌≡◌, ◌<◌, ℕ, List, [], slice_index, slice_index_or, ap, sym, ◌∙◌, arith}
use Rattle.std.specs.Int.{bit_at}
use Rattle.aes_slices.specs.Packing.{by_rows}
use Rattle.aes_slices.proofs.PackingLemmas.{block_by_bits}
use Rattle.aes_slices.proofs.packing.pack.Goals as goal

pub returns : goal.returns
returns c j block =
    let vector : List ℕ = slice_index_or c.vectors_of-vectors.result j [] in
    let rows : (i : ℕ) → i < 16 → slice_index (slice_index_or c.all_by_rows.result j []) (by_rows i) ≡ slice_index vector i =
    (λ i h. (let lane : by_rows i < 16 = omega arith in
    let back : by_rows (by_rows i) ≡ i = omega arith in c.all_by_rows.ensures j (by_rows i) block lane ∙ ap (slice_index vector) back)) in
    sym (block_by_bits c.exchange.result j vector (c.are_bytes.ensures.whole j block) (λ i h. c.are_bytes.ensures.bytes j i block h)
    (λ i b h bit. (let lane : by_rows i < 16 = omega arith in
    ap (λ x. bit_at x b) (sym (rows i h)) ∙ sym (c.exchange.ensures j (by_rows i) b block lane bit))))
    ∙ c.vectors_of-vectors.ensures j block
