-- What a function of the code returns of a file of Password Safe, by its definition.
use Rattle.std.specs.Prelude.{Result}
use Rattle.outside_core.specs.Results as results
use Rattle.outside_core.specs.Results.{Meaning, exact, free}
use Rattle.psafe_file.specs.declared.fails.PsafeFail.{PsafeFail}
use Rattle.psafe_file.specs.declared.fails.PsafeFail.TheVariants.{NoMemory}

-- What a refusal says of what is defined: that this is its refusal; running out of memory says
-- nothing.
abbrev pub meaning_of : PsafeFail → Meaning PsafeFail
meaning_of NoMemory = free
meaning_of fail = exact fail

-- A function refuses as is defined.
abbrev pub Refuses : {Y : Type 0} → PsafeFail → Result Y PsafeFail → Type 0
Refuses fail defined = results.Fails (meaning_of fail) defined

-- A function returns what is defined, seen without memory, or refuses as is defined.
abbrev pub Returns : {X Y : Type 0} → (X → Y) → Result X PsafeFail → Result Y PsafeFail → Type 0
Returns seen result defined = results.Returns meaning_of seen result defined
