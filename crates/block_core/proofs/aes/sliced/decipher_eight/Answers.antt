use Rattle.std.proofs.Common.{◌+◌, ◌-◌, ℕ, ap, sym, ◌∙◌, arith}
use Rattle.aes_slices.specs.Slices.{block}
use Rattle.block_core.specs.Blocks.{xor_block}
use Rattle.block_core.specs.Aes.{inv_rounds, inv_sub_bytes, inv_shift_rows, inv_mix_columns, inv_cipher}
use Rattle.block_core.proofs.AesRounds.{inv_rounds_next, inv_rounds_none}
use Rattle.block_core.proofs.aes.sliced.decipher_eight.Goals as goal

pub inverse-init : goal.inverse-init
inverse-init c j eight =
    ap (inv_rounds c.args.keys.now.bytes 13) (c.add_round_key-s.ensures j eight
    ∙ (λ i. xor_block (c.pack.ensures j eight i) ((ap (λ s. block s j) c.round_slices.ensures ∙ c.requires 14 j (omega arith) eight) i)))

pub inverse-preserved : goal.inverse-preserved
inverse-preserved c j eight =
    let n : ℕ = 13 - (c.inverse.i + 1) in
    let k : ℕ = 13 - c.inverse.i in
    let added = c.add_round_key.ensures j eight
    ∙ (λ i. xor_block (c.inv_shift_and_sub.ensures j eight i) ((ap (λ s. block s j) c.round_slices-in-inverse.ensures ∙ c.requires k j (omega arith) eight) i)) in
    ap (inv_rounds c.args.keys.now.bytes n) (c.mix_back-s.ensures j eight ∙ ap inv_mix_columns added)
    ∙ sym (inv_rounds_next c.args.keys.now.bytes (block c.inverse.s j) n k (omega arith))
    ∙ c.inverse.invariant j eight

pub returns : goal.returns
unfolding inv_cipher
returns c j eight =
    let last = sym (inv_rounds_none c.args.keys.now.bytes (block c.inverse.s j) (13 - c.inverse.i) (omega arith)) ∙ c.inverse.invariant j eight in
    c.unpack.ensures j eight ∙ c.add_round_key-2.ensures j eight
    ∙ (λ i. xor_block ((c.inv_shift_and_sub-2.ensures j eight ∙ ap (λ s. inv_sub_bytes (inv_shift_rows s)) last) i) ((ap (λ s. block s j) c.round_slices-2.ensures ∙ c.requires 0 j (omega arith) eight) i))
