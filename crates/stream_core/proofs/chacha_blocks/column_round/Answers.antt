use Rattle.stream_core.specs.ChaCha20.{column_round}
use Rattle.stream_core.proofs.chacha_blocks.column_round.Goals as goal

pub returns : goal.returns
unfolding column_round
returns c j h =
    rw (
      ← c.half_rounds.ensures.one j h,
      ← c.half_rounds.ensures.two j h,
      ← c.half_rounds-2.ensures.one j h,
      ← c.half_rounds-2.ensures.two j h,
      ← c.half_rounds-3.ensures.one j h,
      ← c.half_rounds-3.ensures.two j h,
      ← c.half_rounds-4.ensures.one j h,
      ← c.half_rounds-4.ensures.two j h,
    )
