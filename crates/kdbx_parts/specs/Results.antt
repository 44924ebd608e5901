-- The refusals of this crate beside those of its definitions.
use Rattle.outside_core.specs.Results.{Meaning, exact, free}
use Rattle.key_core.specs.declared.kdf.KdfFail.{KdfFail}
use Rattle.key_core.specs.declared.kdf.KdfFail.TheVariants as kdf
use Rattle.kdbx_parts.specs.declared.fail.FrameFail.{FrameFail}
use Rattle.kdbx_parts.specs.declared.fail.FrameFail.TheVariants.{NoMemory, KdfLimit}

-- What a refusal says of what is defined: that this is its refusal, but running out of memory says
-- nothing.
abbrev pub meaning_of : FrameFail → Meaning FrameFail
meaning_of NoMemory = free
meaning_of fail = exact fail

-- A refusal of the key derivation, as one of the header.
abbrev pub frame_fail_of : KdfFail → FrameFail
frame_fail_of (kdf.KdfLimit field number) = KdfLimit field number
frame_fail_of kdf.NoMemory = NoMemory
