-- Refusals that a function computes.
use Rattle.std.proofs.Common.{◌≡◌, Result, Err}
use Rattle.outside_core.specs.Results.{Fails}
use Rattle.kdbx_parts.specs.declared.fail.FrameFail.{FrameFail}
use Rattle.kdbx_parts.specs.declared.fail.FrameFail.TheVariants.{NoMemory}
use Rattle.kdbx_parts.specs.Results.{meaning_of}

-- A refusal that is the defined one.
pub fails_as_computed : {Y : Type 0} (e : FrameFail) (total : Result Y FrameFail)
    → total ≡ Err e → Fails (meaning_of e) total
fails_as_computed NoMemory total h = tt
fails_as_computed e total h = h
