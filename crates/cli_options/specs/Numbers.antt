-- Numbers that values of options are.
use Rattle.std.specs.Prelude.{◌&&◌, ℕ, ◌+◌, ◌-◌, ◌*◌, nat_le, if◌then◌else◌, List, [], ◌∷◌, length, Option, None, Some}

-- The number that decimal digits write after others, whose number is this.
abbrev pub number_after : ℕ → List ℕ → Option ℕ
number_after number [] = Some number
number_after number (b ∷ text) =
    if nat_le 48 b && nat_le b 57 then number_after (number * 10 + (b - 48)) text else None

-- The number of one or more decimal digits, at most so many.
abbrev pub number_of : (most : ℕ) → List ℕ → Option ℕ
number_of most text =
    if nat_le 1 (length text) && nat_le (length text) most then number_after 0 text else None
