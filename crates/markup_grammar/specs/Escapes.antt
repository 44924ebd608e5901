-- Escapes: the text that raw markup stands for, and the raw markup in which a text is written.
use Rattle.std.specs.Prelude.{ℕ, ◌+◌, ◌-◌, ◌==◌, nat_lt, ◌&&◌, if◌then◌else◌, Option, Some, None, List, [], ◌∷◌, ◌++◌, length, flat_map, bytes_eq, codes, encode_utf8}
use Rattle.std.specs.Char.{is_digit}
use Rattle.std.specs.List.{list_all}
use Rattle.std.specs.Str.Parse.{digits_value}
use lib.Utf8.{scalar}

-- the character whose number these digits write, which is a Unicode scalar value
unfoldable pub character_by_number : ℕ → List ℕ → Option ℕ
character_by_number radix digits =
    if nat_lt 0 (length digits) && list_all (λ d. is_digit d radix) digits
    && scalar (digits_value radix digits)
    then Some (digits_value radix digits)
    else None

-- past `#`: hexadecimal digits after an `x`, or decimal digits
abbrev pub behind_hash : List ℕ → Option ℕ
behind_hash [] = None
behind_hash (b ∷ rest) = if b == 120 then character_by_number 16 rest else character_by_number 10
    (b ∷ rest)

-- the character of a name
abbrev pub by_name : List ℕ → Option ℕ
by_name name =
    if bytes_eq name (codes "amp") then Some 38
    else (if bytes_eq name (codes "lt") then Some 60
    else (if bytes_eq name (codes "gt") then Some 62
    else (if bytes_eq name (codes "quot") then Some 34
    else (if bytes_eq name (codes "apos") then Some 39
    else None))))

-- the character that a reference stands for, by what is between its `&` and its `;`
unfoldable pub character_of_reference : List ℕ → Option ℕ
character_of_reference [] = None
character_of_reference (b ∷ rest) = if b == 35 then behind_hash rest else by_name (b ∷ rest)

-- the bytes of that character, and none where there is no such character
abbrev pub bytes_of : Option ℕ → List ℕ
bytes_of None = []
bytes_of (Some c) = encode_utf8 c

-- Where one is in raw text: in plain text, past a carriage return, or past a `&` and these bytes.
pub data Place : Type 0 where
  plain : Place
  returned : Place
  reference : List ℕ → Place

-- in plain text: a `&` begins a reference, and a carriage return gives a line feed
abbrev pub plainly_given : ℕ → List ℕ
plainly_given b = if b == 38 then [] else (if b == 13 then 10 ∷ [] else b ∷ [])

-- where a byte of plain text leads: into a reference, after a carriage return, or on in plain text
abbrev pub place_after_text : ℕ → Place
place_after_text b = if b == 38 then reference [] else (if b == 13 then returned else plain)

-- what a byte gives: a line feed after a carriage return gives nothing, and a reference its
-- character at its `;`
abbrev pub bytes_given : Place → ℕ → List ℕ
bytes_given plain b = plainly_given b
bytes_given returned b = if b == 10 then [] else plainly_given b
bytes_given (reference name) b = if b == 59 then bytes_of (character_of_reference name) else []

-- and where one is then
abbrev pub place_after : Place → ℕ → Place
place_after plain b = place_after_text b
place_after returned b = place_after_text b
place_after (reference name) b = if b == 59 then plain else reference (name ++ b ∷ [])

-- what raw text stands for, from a place on
unfoldable pub unescaped_from : Place → List ℕ → List ℕ
unescaped_from place [] = []
unescaped_from place (b ∷ rest) = bytes_given place b ++ unescaped_from (place_after place b) rest

-- what raw text stands for: its line ends as line feeds, and its references as their characters
abbrev pub unescaped : List ℕ → List ℕ
unescaped raw = unescaped_from plain raw

-- the digit that writes a number below 16, in upper case
abbrev pub upper_digit : ℕ → ℕ
upper_digit d = if nat_lt d 10 then 48 + d else 55 + d

-- the hexadecimal digits of a number below 32, the first of them not 0 but for 0 itself
abbrev pub upper_digits : ℕ → List ℕ
upper_digits n = if nat_lt n 16 then upper_digit n ∷ [] else 49 ∷ upper_digit (n - 16) ∷ []

-- a byte below 32 by its number
abbrev pub numbered_control : ℕ → List ℕ
numbered_control b = codes "&#x" ++ (upper_digits b ++ 59 ∷ [])

-- how a byte is written: `&`, `<`, `>` and `"` by their names, the controls below the space other
-- than tab and line feed by their numbers, and every other byte as it is
unfoldable pub escaped_byte : ℕ → List ℕ
escaped_byte b =
    if b == 38 then codes "&amp;"
    else (if b == 60 then codes "&lt;"
    else (if b == 62 then codes "&gt;"
    else (if b == 34 then codes "&quot;"
    else (if b == 9 then b ∷ []
    else (if b == 10 then b ∷ []
    else (if nat_lt b 32 then numbered_control b
    else b ∷ []))))))

-- how a text is written
abbrev pub escaped : List ℕ → List ℕ
escaped text = flat_map escaped_byte text
