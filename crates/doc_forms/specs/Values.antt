-- Values: what the text of an element says, by the kind of its value.
use Rattle.std.specs.Prelude.{ℕ, ◌+◌, ◌*◌, ◌-◌, ◌==◌, nat_lt, nat_le, Bool, true, false, ◌&&◌, if◌then◌else◌, Option, Some, None, List, [], ◌∷◌, length, bytes_eq, codes, option_map, option_and_then, ℤ, pos, neg_ℤ, int_le, slice_index}
use Rattle.std.specs.Char.{is_ascii_digit}
use Rattle.std.specs.List.{list_all}
use Rattle.std.specs.Str.{is_utf8, str_eq_ignore_ascii_case}
use Rattle.std.specs.Str.Parse.{digits_value}
use Rattle.jiff_core.specs.Calendar.{days_in_month}
use Rattle.text_forms.specs.Texts.{trim, base64_bytes, bytes_of_length}
use Rattle.vault_model.specs.Db.{NodeId}
use Rattle.vault_model.specs.TimeCore.Times.{last_stamp, seconds_of, iso_text}
use Rattle.vault_model.specs.declared.contents.Tri.{Tri}
use Rattle.vault_model.specs.declared.contents.Tri.TheVariants.{Inherit, No, Yes}
use Rattle.vault_model.specs.TimeCore.declared.iso.Moment.{Moment}
use Rattle.doc_forms.specs.ElementTexts.{ElementText, plain_text, hidden_bytes, text_bytes}

-- a text is UTF-8, with the white space at its ends
abbrev pub text_in : ElementText → Option (List ℕ)
text_in said = if is_utf8 (text_bytes said) then Some (text_bytes said) else None

-- bytes are base64, except for hidden ones
abbrev pub bytes_in : ElementText → Option (List ℕ)
bytes_in (plain_text text) = base64_bytes (trim text)
bytes_in (hidden_bytes bytes) = Some bytes

-- every other value is read from its text without white space at its ends, or is the default where
-- that is empty
abbrev pub value_or : {A : Type 0} → A → (List ℕ → Option A) → ElementText → Option A
value_or default rule said =
    if length (trim (text_bytes said)) == 0 then Some default else rule (trim (text_bytes said))

-- ---- bytes and ids

-- the 16 bytes of an id, by base64
abbrev pub id : List ℕ → Option NodeId
id text = bytes_of_length 16 text

-- ---- choices

-- `True` or `False`, in any case of their letters
abbrev pub boolean : List ℕ → Option Bool
boolean text =
    if str_eq_ignore_ascii_case text (codes "True") then Some true
    else (if str_eq_ignore_ascii_case text (codes "False") then Some false else None)

-- the same, or `null`
abbrev pub choice : List ℕ → Option Tri
choice text =
    if str_eq_ignore_ascii_case text (codes "null") then Some Inherit
    else option_map (λ yes. if yes then Yes else No) (boolean text)

-- ---- numbers

-- one digit or more
abbrev pub are_digits : List ℕ → Bool
are_digits text = nat_lt 0 (length text) && list_all is_ascii_digit text

-- a whole number: digits, after a `-` or none
abbrev pub whole_number : List ℕ → Option ℤ
whole_number [] = None
whole_number (b ∷ rest) =
    if b == 45
    then (if are_digits rest then Some (neg_ℤ (pos (digits_value 10 rest))) else None)
    else (if are_digits (b ∷ rest) then Some (pos (digits_value 10 (b ∷ rest))) else None)

-- a whole number between these two, of a signed type
abbrev pub number_between : ℤ → ℤ → List ℕ → Option ℤ
number_between least most text =
    option_and_then (λ n. if int_le least n && int_le n most then Some n else None)
    (whole_number text)

-- a whole number from 0 on as such
abbrev pub natural_number : ℤ → Option ℕ
natural_number (pos n) = Some n
natural_number _ = None

-- a whole number from 0 to this one, of an unsigned type
abbrev pub number_up_to : ℕ → List ℕ → Option ℕ
number_up_to most text = option_and_then natural_number (number_between (pos 0) (pos most) text)

-- an unsigned number of 32 bits
abbrev pub number32 : List ℕ → Option ℕ
number32 text = number_up_to 4294967295 text

-- an unsigned number of 64 bits
abbrev pub number64 : List ℕ → Option ℕ
number64 text = number_up_to 18446744073709551615 text

-- a signed number of 32 bits
abbrev pub signed32 : List ℕ → Option ℤ
signed32 text = number_between (neg_ℤ (pos 2147483648)) (pos 2147483647) text

-- a signed number of 64 bits
abbrev pub signed64 : List ℕ → Option ℤ
signed64 text = number_between (neg_ℤ (pos 9223372036854775808)) (pos 9223372036854775807) text

-- the number of digits alone, if it is at most this one
abbrev pub digits_up_to : ℕ → List ℕ → Option ℕ
digits_up_to most digits =
    if are_digits digits && nat_le (digits_value 10 digits) most then Some (digits_value 10 digits)
    else None

-- ---- times

-- the number below 100 that two digits write at a position
abbrev pub digit_pair : List ℕ → ℕ → ℕ
digit_pair text at = (slice_index text at - 48) * 10 + (slice_index text (at + 1) - 48)

-- the moment whose digits are those of `YYYY-MM-DDThh:mm:ssZ`
abbrev pub moment_in : List ℕ → Moment
moment_in text = record {
  year = digit_pair text 0 * 100 + digit_pair text 2;
  month = digit_pair text 5;
  day = digit_pair text 8;
  hour = digit_pair text 11;
  minute = digit_pair text 14;
  second = digit_pair text 17;
}

-- the number whose bytes these are, the least first
abbrev pub little_endian : List ℕ → ℕ
little_endian [] = 0
little_endian (b ∷ bytes) = b + 256 * little_endian bytes

-- the seconds of a time, up to the last second of the year 9999
abbrev pub stamp_in_range : ℕ → Option ℕ
stamp_in_range n = if nat_le n last_stamp then Some n else None

-- seconds since the year 1 as a number of 64 bits, by base64
abbrev pub counted_time : List ℕ → Option ℕ
counted_time text = option_and_then (λ bytes. stamp_in_range (little_endian bytes))
    (bytes_of_length 8 text)

-- the calendar has the day in the years 1 to 9999, and the clock the time
abbrev pub is_moment : Moment → Bool
is_moment m =
    nat_le 1 m.year && nat_le m.year 9999 && nat_le 1 m.month && nat_le m.month 12
    && nat_le 1 m.day && nat_le m.day (days_in_month (pos m.year) m.month)
    && nat_lt m.hour 24 && nat_lt m.minute 60 && nat_lt m.second 60

-- the seconds since the year 1 that `YYYY-MM-DDThh:mm:ssZ` writes
unfoldable pub iso_time : List ℕ → Option ℕ
iso_time text =
    if bytes_eq text (iso_text (moment_in text)) && is_moment (moment_in text)
    then Some (seconds_of (moment_in text)) else None

-- the first of two, where there is one
abbrev pub either : {A : Type 0} → Option A → Option A → Option A
either (Some x) second = Some x
either None second = second

-- a time in either form
abbrev pub time : List ℕ → Option ℕ
time text = either (iso_time text) (counted_time text)
