use Rattle.std.proofs.Common.{refl}
use Rattle.stream_core.specs.Salsa20.{quarter_round}
use Rattle.stream_core.proofs.salsa_blocks.quarter_round.Goals as goal

pub returns : goal.returns
unfolding quarter_round
returns c j h =
    rw (
      c.xor-a1.ensures j h,
      c.rotate-4.ensures j h,
      c.add-4.ensures j h,
      c.xor-d1.ensures j h,
      c.rotate-3.ensures j h,
      c.add-3.ensures j h,
      c.xor-c1.ensures j h,
      c.rotate-2.ensures j h,
      c.add-2.ensures j h,
      c.xor-b1.ensures j h,
      c.rotate.ensures j h,
      c.add.ensures j h,
    ) refl
