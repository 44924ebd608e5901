use Rattle.std.proofs.Common.{◌-◌, ◌+◌, ◌∙◌, sym, ap, arith}
use Rattle.std.specs.Fn.{iterate}
use Rattle.block_core.specs.AesCipher.{aes_enciphered}
use Rattle.key_core.proofs.Turns.{next_turn}
use Rattle.key_core.proofs.transformation.encipher_often.Goals as goal

pub rounds-preserved : goal.rounds-preserved
rounds-preserved c =
    let f = aes_enciphered c.args.cipher.now in
    let step = next_turn f c.args.rounds c.rounds.counter c.rounds.block (omega arith) in (
      omega arith,
      ap (iterate f (c.args.rounds - (c.rounds.counter + 1))) c.encrypt.ensures ∙ sym step ∙ c.rounds.invariant.1,
    )
