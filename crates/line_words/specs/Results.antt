-- The answers of functions that read a line beside what is defined.
use Rattle.std.specs.Prelude.{◌≡◌, ℕ, Result, Ok, Err}
use Rattle.line_words.specs.declared.fail.LineFail.{LineFail}
use Rattle.line_words.specs.declared.fail.LineFail.TheVariants.{Quote, NoMemory}

-- A function gives what is defined, as it is seen, or the offset that is defined in its place; or
-- memory ran out, which says nothing.
abbrev pub Gives : {X Y : Type 0} → (X → Y) → Result X LineFail → Result Y ℕ → Type 0
Gives seen (Ok x) defined = defined ≡ Ok (seen x)
Gives seen (Err (Quote at)) defined = defined ≡ Err at
Gives seen (Err NoMemory) defined = Unit {0}
