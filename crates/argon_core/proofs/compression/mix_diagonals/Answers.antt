use Rattle.std.proofs.Common.{arith}
use Rattle.argon_core.specs.Compression.{mixed_diagonals}
use Rattle.argon_core.proofs.compression.mix_diagonals.Goals as goal

pub returns : goal.returns
unfolding mixed_diagonals
returns c = rw (
  ← c.high_and_low.ensures.low,
  ← c.high_and_low.ensures.high,
  ← c.high_and_low-2.ensures.low,
  ← c.high_and_low-2.ensures.high,
  ← c.high_and_low-3.ensures.low,
  ← c.high_and_low-3.ensures.high,
  ← c.high_and_low-4.ensures.low,
  ← c.high_and_low-4.ensures.high,
  ← c.mix_products.ensures 0 (omega arith),
  ← c.mix_products.ensures 1 (omega arith),
  ← c.mix_products-2.ensures 0 (omega arith),
  ← c.mix_products-2.ensures 1 (omega arith),
  c.high_and_low-5.ensures.low,
  c.high_and_low-5.ensures.high,
  c.high_and_low-6.ensures.low,
  c.high_and_low-6.ensures.high,
  c.high_and_low-7.ensures.low,
  c.high_and_low-7.ensures.high,
  c.high_and_low-8.ensures.low,
  c.high_and_low-8.ensures.high,
)
