-- A file that is refused, so that the law speaks of something.
use Rattle.std.specs.Prelude.{◌≡◌, [], Err}
use Rattle.kdbx_parts.specs.declared.fail.FrameFail.TheVariants.{NotKdbx}
use Rattle.kdbx_open.specs.Opening.{opening}
use Rattle.kdbx_open.specs.declared.fail.OpenFail.TheVariants.{Frame}
use Rattle.cause_laws.specs.Causes.{AreBytes}

-- A file of no bytes.
pub record ExampleRefusal : Type 0 where
  pub bytes : AreBytes []
  pub refused : opening [] [] ≡ Err (Frame NotKdbx)
