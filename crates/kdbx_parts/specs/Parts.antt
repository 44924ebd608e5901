-- The parts that headers, dictionaries and inner fields are made of.
use Rattle.std.specs.Prelude.{ℕ, ◌+◌, List, length, take, drop, Bool, Option, Some, None, Result, Ok, Err, nat_lt, ◌==◌, slice_index, if◌then◌else◌}
use Rattle.std.specs.Int.{Width, w16, w32, byte_len, from_le_bytes}
use Rattle.outside_core.specs.Results.{◌>>=◌}
use Rattle.kdbx_parts.specs.declared.fail.FrameFail.{FrameFail}
use Rattle.kdbx_parts.specs.declared.fail.FrameFail.TheVariants.{Truncated, TooLarge, FieldTwice, FieldLength, FieldMissing}
use Rattle.kdbx_parts.specs.declared.parts.LengthWidth.{LengthWidth}
use Rattle.kdbx_parts.specs.declared.parts.LengthWidth.TheVariants.{Two, Four}

-- The next n bytes and the bytes after them, or this refusal where there are fewer.
abbrev pub split_bytes : FrameFail → ℕ → List ℕ → Result (List ℕ × List ℕ) FrameFail
split_bytes fail n rest = if nat_lt (length rest) n then Err fail else Ok (take n rest, drop n rest)

-- The refusal of a part that ends at the offset `end` of a file of `size` bytes, and not within the
-- bytes at hand.
abbrev pub out_of_bounds : ℕ → ℕ → FrameFail
out_of_bounds size end = if nat_lt size end then Truncated size else TooLarge end

-- A field: its id, its content, and the bytes after it.
pub record Field : Type 0 where
  pub id : ℕ
  pub content : List ℕ
  pub rest : List ℕ

-- The width of a length: so many bytes.
abbrev pub width_of : LengthWidth → Width
width_of Two = w16
width_of Four = w32

-- How many bytes are before the content of a field: a byte of id, and the length.
abbrev pub field_head_len : LengthWidth → ℕ
field_head_len width = 1 + byte_len (width_of width)

-- The next field: a byte of id, a length of this width, and that many bytes. `fail n` is the
-- refusal of a part that ends n bytes from here.
unfoldable pub field_at : LengthWidth → (ℕ → FrameFail) → List ℕ → Result Field FrameFail
field_at width fail rest = do
  head ← split_bytes (fail (field_head_len width)) (field_head_len width) rest
  let n = from_le_bytes (width_of width) (drop 1 head.0)
  content ← split_bytes (fail (field_head_len width + n)) n head.1
  Ok (record { id = slice_index head.0 0; content = content.0; rest = content.1 })

-- The content of a field that may occur once; `occurred` says whether it did before.
abbrev pub unique : ℕ → Bool → List ℕ → Result (List ℕ) FrameFail
unique id occurred content = if occurred then Err (FieldTwice id) else Ok content

-- The content of a field that may occur once and has n bytes.
abbrev pub unique_of_length : ℕ → ℕ → Bool → List ℕ → Result (List ℕ) FrameFail
unique_of_length id n occurred content =
    if occurred then Err (FieldTwice id)
    else if length content == n then Ok content else Err (FieldLength id (length content))

-- The value of a field that must occur.
abbrev pub required : {A : Type 0} → ℕ → Option A → Result A FrameFail
required id None = Err (FieldMissing id)
required id (Some a) = Ok a
