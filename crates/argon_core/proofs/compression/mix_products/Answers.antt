use Rattle.std.proofs.Common.{refl}
use Rattle.argon_core.specs.Compression.{mix_product}
use Rattle.argon_core.proofs.compression.mix_products.Goals as goal

pub returns : goal.returns
unfolding mix_product
returns c j h = rw (
  c.turned_by_63-b2.ensures j h,
  c.xor-4.ensures j h,
  c.multiply_add-c2.ensures j h,
  c.turned-d2.ensures j h,
  c.xor-3.ensures j h,
  c.multiply_add-a2.ensures j h,
  c.turned-b1.ensures j h,
  c.xor-2.ensures j h,
  c.multiply_add-c1.ensures j h,
  c.turned-d1.ensures j h,
  c.xor.ensures j h,
  c.multiply_add-a1.ensures j h,
) refl
