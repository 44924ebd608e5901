-- Padding to whole blocks of sixteen bytes: n bytes of value n, from 1 to 16 (RFC 5652, section
-- 6.3).
use Rattle.std.specs.Prelude.{◌≡◌, ◌+◌, ◌-◌, ◌%◌, ◌<◌, ◌≤◌, ◌++◌, ℕ, List, length, take, drop, replicate, slice_index, Option, Some, None, Result, Ok, Err, bytes_eq, nat_lt, ◌==◌, if◌then◌else◌}

-- n bytes of this text come before its padding
pub record IsPadded (text : List ℕ) (n : ℕ) : Type 0 where
  pub whole : length text % 16 ≡ 0
  pub some : n < length text
  pub short : length text ≤ n + 16
  pub filled : (i : ℕ) → n ≤ i → i < length text → slice_index text i ≡ length text - n

-- the number of bytes of padding by a text's last byte
abbrev pub padding_count : List ℕ → ℕ
padding_count text = slice_index text (length text - 1)

-- the text before a right padding, which is known by its last byte
unfoldable pub unpadded : List ℕ → Option (List ℕ)
unpadded text =
    if length text % 16 == 0
    then (if nat_lt 0 (padding_count text)
    then (if nat_lt (padding_count text) 17
    then (if bytes_eq (drop (length text - padding_count text) text)
    (replicate (padding_count text) (padding_count text))
    then Some (take (length text - padding_count text) text)
    else None)
    else None)
    else None)
    else None

-- a text with its padding
abbrev pub padded : List ℕ → List ℕ
padded text = text ++ replicate (16 - length text % 16) (16 - length text % 16)

-- what comes before the right padding of a text; or it has no right padding
abbrev pub IsBeforePadding : List ℕ → Option (List ℕ) → Type 0
IsBeforePadding text (Some front) = (n : ℕ) × (IsPadded text n × (front ≡ take n text))
IsBeforePadding text None = (n : ℕ) → IsPadded text n → ⊥

-- what comes before a padding, by its length, where there is one
abbrev pub text_before : {E : Type 0} → List ℕ → Result ℕ E → Option (List ℕ)
text_before text (Ok n) = Some (take n text)
text_before text (Err _) = None
