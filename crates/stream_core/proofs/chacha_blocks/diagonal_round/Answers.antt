use Rattle.stream_core.specs.ChaCha20.{diagonal_round}
use Rattle.stream_core.proofs.chacha_blocks.diagonal_round.Goals as goal

pub returns : goal.returns
unfolding diagonal_round
returns c j h =
    rw (
      ← c.half_rounds.ensures.one j h,
      ← c.half_rounds.ensures.two j h,
      ← c.half_rounds-2.ensures.one j h,
      ← c.half_rounds-2.ensures.two j h,
      ← c.half_rounds-3.ensures.one j h,
      ← c.half_rounds-3.ensures.two j h,
      ← c.half_rounds-4.ensures.one j h,
      ← c.half_rounds-4.ensures.two j h,
    )
