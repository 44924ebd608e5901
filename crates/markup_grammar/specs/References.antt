-- References: `&amp;` and its four companions, and `&#N;` and `&#xN;` for the number of a
-- character.
use Rattle.std.specs.Prelude.{ℕ, ◌+◌, ◌*◌, ◌≢◌, ◌<◌, ◌≤◌, ◌⊎◌, List, [], ◌∷◌}
use Rattle.markup_grammar.specs.Bytes.{is_digit, is_hex_digit, digit_value, AllAre}

-- a reference
pub data Reference : Type 0 where
  amp : Reference
  lt : Reference
  gt : Reference
  quot : Reference
  apos : Reference
  -- the digits of a number in base ten
  decimal : List ℕ → Reference
  -- the digits of a number in base sixteen
  hexadecimal : List ℕ → Reference

-- what is between the `&` and the `;`
abbrev pub reference_body : Reference → List ℕ
reference_body amp = 97 ∷ 109 ∷ 112 ∷ []
reference_body lt = 108 ∷ 116 ∷ []
reference_body gt = 103 ∷ 116 ∷ []
reference_body quot = 113 ∷ 117 ∷ 111 ∷ 116 ∷ []
reference_body apos = 97 ∷ 112 ∷ 111 ∷ 115 ∷ []
reference_body (decimal digits) = 35 ∷ digits
reference_body (hexadecimal digits) = 35 ∷ 120 ∷ digits

-- the number that digits spell in this base, after those that spell the first number
abbrev pub number_from : ℕ → ℕ → List ℕ → ℕ
number_from base value [] = value
number_from base value (b ∷ bs) = number_from base (value * base + digit_value b) bs

-- the number of a character: at most 0x10FFFF, and no surrogate
abbrev pub IsScalar : ℕ → Type 0
IsScalar n = (n < 0xD800) ⊎ ((0xE000 ≤ n) × (n ≤ 0x10FFFF))

-- a number has a digit or more, and is that of a character
abbrev pub IsReference : Reference → Type 0
IsReference (decimal digits) = (digits ≢ []) × AllAre is_digit digits
    × IsScalar (number_from 10 0 digits)
IsReference (hexadecimal digits) = (digits ≢ []) × AllAre is_hex_digit digits
    × IsScalar (number_from 16 0 digits)
IsReference _ = Unit {0}

-- the number of the character that a reference stands for
abbrev pub character : Reference → ℕ
character amp = 38
character lt = 60
character gt = 62
character quot = 34
character apos = 39
character (decimal digits) = number_from 10 0 digits
character (hexadecimal digits) = number_from 16 0 digits
