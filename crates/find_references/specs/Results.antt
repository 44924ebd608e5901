-- The refusals of a search beside those of its definitions.
use Rattle.outside_core.specs.Results.{Meaning, exact, free}
use Rattle.find_references.specs.declared.fail.FindFail.{FindFail}
use Rattle.find_references.specs.declared.fail.FindFail.TheVariants.{NoMemory}

-- What a refusal says of what is defined: that this is its refusal, but running out of memory says
-- nothing.
abbrev pub meaning_of : FindFail → Meaning FindFail
meaning_of NoMemory = free
meaning_of fail = exact fail
