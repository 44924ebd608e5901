use Rattle.std.proofs.Common.{◌∙◌, ap}
use Rattle.std.specs.Fn.{iterate}
use Rattle.block_core.specs.Aes.{aes256_encipher}
use Rattle.block_core.specs.AesCipher.{aes_enciphered}
use Rattle.key_core.proofs.Turns.{halves_hashed}
use Rattle.key_core.proofs.transformation.transform_by_aes.Goals as goal

pub returns : goal.returns
returns c =
    let f = aes_enciphered c.new-cipher.result in
    let turned = iterate f c.args.rounds in
    c.hash_of-transformed.ensures
    ∙ halves_hashed f _ _ _ _ c.args.rounds (c.new-cipher.ensures.enciphers ∙ ap aes256_encipher c.of-cipher_key.ensures)
    (c.encipher_often.ensures ∙ ap turned c.of-halves.ensures.first)
    (c.encipher_often-2.ensures ∙ ap turned c.of-halves.ensures.second)
