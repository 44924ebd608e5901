use Rattle.std.proofs.Common.{arith}
use Rattle.argon_core.specs.Compression.{mixed_columns}
use Rattle.argon_core.proofs.compression.mix_columns.Goals as goal

pub returns : goal.returns
unfolding mixed_columns
returns c = rw (
  ← c.mix_products.ensures 0 (omega arith),
  ← c.mix_products.ensures 1 (omega arith),
  ← c.mix_products-2.ensures 0 (omega arith),
  ← c.mix_products-2.ensures 1 (omega arith),
)
