-- The numbers of characters in references, in their two bases.
use Rattle.std.specs.Prelude.{ℕ, nat_le, nat_lt, Bool, ◌&&◌, ◌||◌, if◌then◌else◌, List, drop}
use Rattle.markup_grammar.specs.Bytes.{is_digit, is_hex_digit}
use Rattle.markup_grammar.specs.Machine.{Ref, hash, hash_x, decimal_at, hexadecimal_at}
use Rattle.markup_scanner.specs.Left.{BeginsWithout}
use Rattle.markup_scanner.specs.declared.reference.Base.{Base}
use Rattle.markup_scanner.specs.declared.reference.Base.TheVariants.{Decimal, Hexadecimal}

-- how many digits there are
abbrev pub radix_of : Base → ℕ
radix_of Decimal = 10
radix_of Hexadecimal = 16

-- whether the byte is one of them
abbrev pub is_digit_of : Base → ℕ → Bool
is_digit_of Decimal b = is_digit b
is_digit_of Hexadecimal b = is_hex_digit b

-- the number of a character: those between D800 and DFFF are none
abbrev pub is_character : ℕ → Bool
is_character value = nat_lt value 0xD800 || (nat_le 0xE000 value && nat_le value 0x10FFFF)

-- an `x` that is there has been read
abbrev pub IsBaseGiven : Base → List ℕ → ℕ → Type 0
IsBaseGiven Decimal text at = BeginsWithout 120 (drop at text)
IsBaseGiven Hexadecimal text at = Unit {0}

-- before the first digit
abbrev pub first_of : Base → Ref
first_of Decimal = hash
first_of Hexadecimal = hash_x

-- after the digits of this number
abbrev pub digits_of : Base → ℕ → Ref
digits_of Decimal value = decimal_at value
digits_of Hexadecimal value = hexadecimal_at value

-- at a place in a number that begins at another
abbrev pub number_at : Base → ℕ → ℕ → ℕ → Ref
number_at base begin place value = if nat_lt begin place then digits_of base value else first_of
    base
