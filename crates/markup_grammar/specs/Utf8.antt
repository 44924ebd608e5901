-- UTF-8 byte by byte, by the Unicode Standard's table of well-formed bytes: how much of a text
-- still begins one in UTF-8.
use Rattle.std.specs.Prelude.{ℕ, ◌+◌, ◌≤◌, ◌<◌, ◌==◌, nat_lt, nat_le, Bool, ◌&&◌, if◌then◌else◌, Option, Some, None, List, [], ◌∷◌, ◌++◌, length, take}
use Rattle.std.specs.Str.{IsUtf8}

-- Where bytes are in a character: how many must still come. A continuing byte lies in 80..BF; the
-- next one may be narrowed to a part of that.
pub data Partial : Type 0 where
  -- between two characters
  none_left : Partial
  -- one byte must come
  one : Partial
  -- two must come
  two : Partial
  -- two must come, the next in 80..9F: what lies above is a surrogate
  two_low : Partial
  -- two must come, the next in A0..BF: what lies below has a shorter form
  two_high : Partial
  -- three must come
  three : Partial
  -- three must come, the next in 80..8F: what lies above is past U+10FFFF
  three_low : Partial
  -- three must come, the next in 90..BF: what lies below has a shorter form
  three_high : Partial

-- the byte lies between these two
abbrev pub lies_in : ℕ → ℕ → ℕ → Bool
lies_in least most b = nat_le least b && nat_le b most

-- past the first byte of a character
abbrev pub utf8_first : ℕ → Option Partial
utf8_first b =
    if nat_lt b 0x80 then Some none_left
    else (if lies_in 0xC2 0xDF b then Some one
    else (if b == 0xE0 then Some two_high
    else (if b == 0xED then Some two_low
    else (if lies_in 0xE1 0xEF b then Some two
    else (if b == 0xF0 then Some three_high
    else (if lies_in 0xF1 0xF3 b then Some three
    else (if b == 0xF4 then Some three_low
    else None)))))))

-- past one byte more, where it may be there
unfoldable pub utf8_step : Partial → ℕ → Option Partial
utf8_step none_left b = utf8_first b
utf8_step one b = if lies_in 0x80 0xBF b then Some none_left else None
utf8_step two b = if lies_in 0x80 0xBF b then Some one else None
utf8_step two_low b = if lies_in 0x80 0x9F b then Some one else None
utf8_step two_high b = if lies_in 0xA0 0xBF b then Some one else None
utf8_step three b = if lies_in 0x80 0xBF b then Some two else None
utf8_step three_low b = if lies_in 0x80 0x8F b then Some two else None
utf8_step three_high b = if lies_in 0x90 0xBF b then Some two else None

-- what follows a byte that may be there, or this value where it may not
abbrev pub past_step : {A : Type 0} → Option Partial → A → (Partial → A) → A
past_step None stopped more = stopped
past_step (Some next) stopped more = more next

-- past all these bytes, where each may be there
unfoldable pub utf8_run : List ℕ → Partial → Option Partial
utf8_run [] state = Some state
utf8_run (b ∷ rest) state = past_step (utf8_step state b) None (λ next. utf8_run rest next)

-- how many of these bytes may be there
unfoldable pub utf8_front_from : Partial → List ℕ → ℕ
utf8_front_from state [] = 0
utf8_front_from state (b ∷ rest) = past_step (utf8_step state b) 0
    (λ next. utf8_front_from next rest + 1)

-- the length of the longest prefix that begins a text in UTF-8
abbrev pub utf8_front : List ℕ → ℕ
utf8_front text = utf8_front_from none_left text

-- the bytes begin some text in UTF-8
abbrev pub BeginsUtf8 : List ℕ → Type 0
BeginsUtf8 bytes = (more : List ℕ) × IsUtf8 (bytes ++ more)

-- the first n bytes are the longest prefix of the text that begins a text in UTF-8
pub record IsUtf8Front (text : List ℕ) (n : ℕ) : Type 0 where
  pub within : n ≤ length text
  pub begins : BeginsUtf8 (take n text)
  pub longest : n < length text → ¬ (BeginsUtf8 (take (n + 1) text))
