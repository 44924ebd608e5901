use Rattle.std.proofs.Common.{◌≡◌, ◌≤◌, ◌-◌}
use Rattle.std.specs.Fn.{iterate}
use Rattle.block_core.specs.AesCipher.{aes_enciphered}
use Rattle.key_core.proofs.transformation.encipher_often.Given as goal

abbrev pub invariant-rounds : goal.invariant-rounds
invariant-rounds l =
    (l.counter ≤ l.rounds)
    × (iterate (aes_enciphered l.cipher) (l.rounds - l.counter) l.block ≡ iterate (aes_enciphered l.cipher) l.rounds l.fn.block)
