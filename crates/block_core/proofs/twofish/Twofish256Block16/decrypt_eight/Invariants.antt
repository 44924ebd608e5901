use Rattle.std.proofs.Common.{◌≡◌, ◌<◌, ◌≤◌, ℕ, [], length, slice_index_or}
use Rattle.block_core.specs.TwofishCipher.{twofish_deciphered}
use Rattle.block_core.proofs.twofish.Twofish256Block16.decrypt_eight.Given as goal

abbrev pub invariant-eight : goal.invariant-eight
invariant-eight l =
    (length l.blocks ≡ 8)
    × ((j : ℕ) → j < l.k → slice_index_or l.blocks j [] ≡ twofish_deciphered l.self (slice_index_or l.fn.blocks j []))
    × ((j : ℕ) → l.k ≤ j → slice_index_or l.blocks j [] ≡ slice_index_or l.fn.blocks j [])
