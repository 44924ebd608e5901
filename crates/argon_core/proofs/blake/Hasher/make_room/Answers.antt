use Rattle.std.proofs.Common.{refl, arith}
use Rattle.argon_core.proofs.Hashing.{full_buffer}
use Rattle.argon_core.proofs.blake.Hasher.make_room.Goals as goal

pub returns-then-self-eq-BLOCK_LEN-clause-holds : goal.returns-then-self-eq-BLOCK_LEN-clause-holds
returns-then-self-eq-BLOCK_LEN-clause-holds c = λ size message held.
    full_buffer size c.args.self.now _ message held (omega arith) c.if-self-eq-BLOCK_LEN.true refl refl c.compress-self.ensures
