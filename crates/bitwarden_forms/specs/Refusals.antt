-- Why an export is not imported.
use Rattle.std.specs.Prelude.{Result}
use Rattle.outside_core.specs.Results as results
use Rattle.outside_core.specs.Results.{Meaning, exact, free}
use Rattle.bitwarden_forms.specs.declared.fails.BitwardenFail.{BitwardenFail}
use Rattle.bitwarden_forms.specs.declared.fails.BitwardenFail.TheVariants as fail

-- What a refusal says of what is defined: that this is its refusal, but running out of memory says
-- nothing.
abbrev pub meaning_of : BitwardenFail → Meaning BitwardenFail
meaning_of fail.NoMemory = free
meaning_of refusal = exact refusal

-- what a call returns is what is defined, seen without memory
abbrev pub Returns : {X Y : Type 0} → (X → Y) → Result X BitwardenFail → Result Y BitwardenFail
    → Type 0
Returns view result defined = results.Returns meaning_of view result defined
