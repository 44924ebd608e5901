use Rattle.std.proofs.Common.{length, ap, arith}
use Rattle.kdbx_seal.proofs.MadeFiles.{made_is_sealed}
use Rattle.kdbx_seal.proofs.payload_sealing.seal_payload.Goals as goal

-- What the code enciphered is deciphered, and all else is a law of what is written.
pub returns-in-Ok-put_with_composite-clause-sealed : goal.returns-in-Ok-put_with_composite-clause-sealed
returns-in-Ok-put_with_composite-clause-sealed g c =
    made_is_sealed c.args.settings.now c.args.draws c.args.composite.now c.args.plain.bytes
    c.requires.in_order c.requires.drawn
    (omega (arith, c.if-end-gt-LIMIT.false, c.len.ensures, c.sums_len.ensures.value, ap length c.in-Ok.ensures)) c.in-Ok-put_with_composite.ensures.undone
