-- The bytes of markup: white space, names, text, values, digits. A byte past 127 is a part of a
-- character past ASCII.
use Rattle.std.specs.Prelude.{ℕ, ◌-◌, ◌≡◌, Bool, true, not, ◌&&◌, ◌||◌, nat_le, ◌==◌, if◌then◌else◌, List, [], ◌∷◌}

-- tab, line feed, carriage return and space
unfoldable pub is_space : ℕ → Bool
is_space b = b == 9 || b == 10 || b == 13 || b == 32

-- 0 to 9
unfoldable pub is_digit : ℕ → Bool
is_digit b = nat_le 48 b && nat_le b 57

-- 0 to 9, A to F, a to f
unfoldable pub is_hex_digit : ℕ → Bool
is_hex_digit b = is_digit b || (nat_le 65 b && nat_le b 70) || (nat_le 97 b && nat_le b 102)

-- what a digit is worth, in either base
unfoldable pub digit_value : ℕ → ℕ
digit_value b = if nat_le b 57 then b - 48 else (if nat_le b 70 then b - 55 else b - 87)

-- what a name begins with: a letter, `_`, `:` or a character past ASCII
unfoldable pub begins_name : ℕ → Bool
begins_name b = (nat_le 65 b && nat_le b 90) || (nat_le 97 b && nat_le b 122) || b == 95 || b == 58
    || nat_le 128 b

-- what a name goes on with: these, digits, `-` and `.`
unfoldable pub is_name_byte : ℕ → Bool
is_name_byte b = begins_name b || is_digit b || b == 45 || b == 46

-- what stands for itself in text: white space and all from 32 on, but `&` and `<`
unfoldable pub is_text : ℕ → Bool
is_text b = is_space b || (nat_le 32 b && not (b == 38) && not (b == 60))

-- what stands for itself in an attribute's value between two of this quote: text but the quote
unfoldable pub is_value : ℕ → ℕ → Bool
is_value quote b = is_text b && not (b == quote)

-- each byte passes the test
abbrev pub AllAre : (ℕ → Bool) → List ℕ → Type 0
AllAre test [] = Unit {0}
AllAre test (b ∷ bs) = (test b ≡ true) × AllAre test bs

-- a name
abbrev pub IsName : List ℕ → Type 0
IsName [] = ⊥
IsName (b ∷ bs) = (begins_name b ≡ true) × AllAre is_name_byte bs
