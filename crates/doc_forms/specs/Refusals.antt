-- Reading in steps, of which the first refusal is the answer.
use Rattle.std.specs.Prelude.{ℕ, Option, Some, None, Result, Ok, Err}
use Rattle.text_forms.specs.MarkupGrammar.Answers.{Answer, form, depth}
use Rattle.stream_core.specs.OutsideCore.Results as results
use Rattle.stream_core.specs.OutsideCore.Results.{Meaning, exact, free}
use Rattle.doc_forms.specs.declared.fails.DocFail.{DocFail}
use Rattle.doc_forms.specs.declared.fails.DocFail.TheVariants.{Form, Depth, BadValue, NoMemory}

-- a value that the element at this offset must have
abbrev pub checked_value : {A : Type 0} → ℕ → Option A → Result A DocFail
checked_value offset (Some x) = Ok x
checked_value offset None = Err (BadValue offset)

-- a refusal of the markup, as it is passed on
abbrev pub markup_refusal : {A : Type 0} → Answer → Result A DocFail
markup_refusal (form offset) = Err (Form offset)
markup_refusal (depth offset) = Err (Depth offset)
markup_refusal _ = Err NoMemory

-- What a refusal says of what is defined: that this is its refusal, but running out of memory says
-- nothing.
abbrev pub meaning_of : DocFail → Meaning DocFail
meaning_of NoMemory = free
meaning_of e = exact e

-- a refusal is the defined one; running out of memory says nothing
abbrev pub Fails : {Y : Type 0} → DocFail → Result Y DocFail → Type 0
Fails e defined = results.Fails (meaning_of e) defined

-- what a call returns is what is defined, seen without memory
abbrev pub Returns : {X Y : Type 0} → (X → Y) → Result X DocFail → Result Y DocFail → Type 0
Returns view result defined = results.Returns meaning_of view result defined
