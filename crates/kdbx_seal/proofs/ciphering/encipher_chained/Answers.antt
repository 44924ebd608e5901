use Rattle.kdbx_seal.proofs.Padded.{unchained_again}
use Rattle.kdbx_seal.proofs.ciphering.encipher_chained.Goals as goal

pub returns-clause-undone : goal.returns-clause-undone
returns-clause-undone g c =
    unchained_again (g.B.Block16.deciphered c.args.cipher.now) c.args.iv.now c.encipher_blocks.result.bytes c.pad.new.text.bytes c.args.text.bytes
    c.pad.ensures c.encipher_blocks.ensures.undone c.encipher_blocks.ensures.len
