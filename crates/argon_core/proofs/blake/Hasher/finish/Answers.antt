use Rattle.std.proofs.Common.{arith}
use Rattle.argon_core.proofs.Hashing.{digest_is, last_state, zero_filled}
use Rattle.argon_core.proofs.blake.Hasher.finish.Goals as goal

pub returns : goal.returns
returns c = λ message held.
    let zeros = c.fill.ensures.after (λ y e. e) in
    let buffer = zero_filled c.args.self.filled _ c.args.self.buffer _ (omega arith) (omega arith) (omega arith) zeros in
    let state = last_state _ c.args.self message _ _ held (omega arith) (omega arith) buffer c.compress-self.ensures in
    digest_is _ message _ _ state (rw (← c.bytes_of-digest.ensures, ← c.bytes.ensures) c.copy_from_slice.ensures.after)
