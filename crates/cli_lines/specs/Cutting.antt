-- How a line is cut from the input byte by byte.
use Rattle.std.specs.Prelude.{◌≡◌, ℕ, ◌+◌, ◌*◌, Bool, true, false, List, [], ◌∷◌, ◌++◌, length, Option, None, Some, Result, Ok, Err}
use Rattle.outside_core.specs.declared.fails.SourceFail.{SourceFail}
use Rattle.secret_core.specs.Secret.{SecretBuffer}
use Rattle.cli_lines.specs.Lines.{line_from, too_long, with_byte}
use Rattle.cli_messages.specs.Phases.{StreamAnswer}

-- The next byte came, or the end. A fault says nothing.
abbrev pub ComesNext : Result (Option ℕ) SourceFail → List ℕ → Option (List ℕ) → Type 0
ComesNext (Ok (Some b)) input left = (rest : List ℕ) × ((input ≡ b ∷ rest) × (left ≡ Some rest))
ComesNext (Ok None) input left = (input ≡ []) × (left ≡ Some [])
ComesNext (Err fail) input left = Unit {0}

-- A carriage return that was read waits for what comes after it.
abbrev pub waiting : Bool → List ℕ → List ℕ
waiting true rest = 13 ∷ rest
waiting false rest = rest

-- A line with bytes before it.
abbrev pub with_bytes : List ℕ → StreamAnswer (List ℕ) → StreamAnswer (List ℕ)
with_bytes [] taken = taken
with_bytes (b ∷ bs) taken = with_byte b (with_bytes bs taken)

-- The line of which these bytes were read, and perhaps a carriage return, before the rest.
abbrev pub cut : List ℕ → Bool → List ℕ → StreamAnswer (List ℕ)
cut line returned rest = with_bytes line (line_from (length line) (waiting returned rest))

-- One byte more of the line is read, and whether a carriage return waits; or the line is too long.
abbrev pub Puts : Option Bool → List ℕ → List ℕ → StreamAnswer (List ℕ) → Type 0
Puts (Some returned) line rest before = before ≡ cut line returned rest
Puts None line rest before = before ≡ too_long rest

-- The line is this, or it is too long.
abbrev pub Ends : Bool → List ℕ → StreamAnswer (List ℕ) → List ℕ → Type 0
Ends true line taken left = taken ≡ record { answer = Ok line; left = left }
Ends false line taken left = taken ≡ too_long left

-- How much may still be read: for each byte of room two, and one more where no carriage return
-- waits.
abbrev pub weight : ℕ → Bool → ℕ
weight spare true = 2 * spare
weight spare false = 2 * spare + 1

-- The input was read to the end of the line, or as far as shows that the line is too long. A fault
-- says nothing.
abbrev pub Cuts : Result Bool SourceFail → List ℕ → Option (List ℕ) → StreamAnswer (List ℕ) → Type 0
Cuts (Ok fits) line left taken = (rest : List ℕ) × ((left ≡ Some rest) × Ends fits line taken rest)
Cuts (Err fail) line left taken = Unit {0}

-- A byte was put after a line that had room for it, or the line was full and is as it was.
abbrev pub IsPushed : Bool → ℕ → SecretBuffer → SecretBuffer → Type 0
IsPushed true b before now = (now.bytes ≡ before.bytes ++ b ∷ []) × (now.spare + 1 ≡ before.spare)
IsPushed false b before now = (before.spare ≡ 0) × (now.bytes ≡ before.bytes)
    × (now.spare ≡ before.spare)
