use Rattle.std.proofs.Common.{◌≡◌, ◌<◌, ◌-◌, ℕ, [], slice_index_or}
use Rattle.aes_slices.specs.Slices.{block}
use Rattle.block_core.specs.Blocks.{xor_block}
use Rattle.block_core.specs.Aes.{inv_rounds, round_key}
use Rattle.block_core.proofs.aes.sliced.decipher_eight.Given as goal

abbrev pub invariant-inverse : goal.invariant-inverse
invariant-inverse l = (j : ℕ) → j < 8
    → inv_rounds l.keys.bytes (13 - l.i) (block l.s j) ≡ inv_rounds l.keys.bytes 13 (xor_block (slice_index_or l.fn.blocks j []) (round_key l.keys.bytes 14))
