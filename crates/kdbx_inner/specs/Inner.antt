-- The inner fields at the start of a deciphered text: the stream that hides values, and the
-- attached files.
use Rattle.std.specs.Prelude.{ℕ, ◌-◌, List, [], ◌∷◌, ◌++◌, length, Bool, true, false, Option, Some, None, is_some, Result, Ok, Err, ◌==◌, bit_and, if◌then◌else◌}
use Rattle.std.specs.Int.{w32, from_le_bytes}
use Rattle.outside_core.specs.Results.{◌>>=◌, repeat_steps}
use Rattle.kdbx_parts.specs.declared.fail.FrameFail.{FrameFail}
use Rattle.kdbx_parts.specs.declared.fail.FrameFail.TheVariants.{FieldLength, Truncated}
use Rattle.kdbx_parts.specs.declared.parts.LengthWidth.TheVariants.{Four}
use Rattle.kdbx_parts.specs.Parts.{Field, field_at, required, unique, unique_of_length}

-- An attached file, and whether it is hidden in memory.
pub record Binary : Type 0 where
  pub bytes : List ℕ
  pub hidden : Bool

-- The fields so far, by their ids: 1 stream, 2 the stream's key, 3 a binary, any number of them.
pub record PartialInner : Type 0 where
  pub stream_id : Option ℕ
  pub stream_key : Option (List ℕ)
  pub pool : List Binary

-- No field yet.
abbrev pub no_inner_fields : PartialInner
no_inner_fields = record { stream_id = None; stream_key = None; pool = [] }

-- A binary: a byte of flags, of which bit 0 says that it is hidden, and its bytes.
abbrev pub binary_of : List ℕ → Result Binary FrameFail
binary_of [] = Err (FieldLength 3 0)
binary_of (flags ∷ bytes) = Ok (record { bytes = bytes; hidden = bit_and flags 1 == 1 })

-- One field more; an unknown one is passed over.
unfoldable pub with_inner_field : PartialInner → Field → Result PartialInner FrameFail
with_inner_field found field =
    if field.id == 1 then (unique_of_length 1 4 (is_some found.stream_id) field.content >>= λ c.
    Ok (record found { stream_id = Some (from_le_bytes w32 c) }))
    else if field.id == 2 then (unique 2 (is_some found.stream_key) field.content >>= λ c.
    Ok (record found { stream_key = Some c }))
    else if field.id == 3 then (binary_of field.content >>= λ b.
    Ok (record found { pool = found.pool ++ b ∷ [] }))
    else Ok found

-- How far the reading of the fields has come: the fields so far, and the bytes after them.
pub record InnerRead : Type 0 where
  pub fields : PartialInner
  pub rest : List ℕ

-- One field of a text of `whole` bytes, which ends within the text; field 0 is the last.
unfoldable pub inner_step : ℕ → InnerRead → Result (Bool × InnerRead) FrameFail
inner_step whole read = do
  field ← field_at Four (λ _. Truncated whole) read.rest
  if field.id == 0
      then Ok (true, record { fields = read.fields; rest = field.rest })
      else (with_inner_field read.fields field >>= λ more.
      Ok (false, record { fields = more; rest = field.rest }))

-- The refusal where no byte is left for a field.
abbrev pub inner_end_missing : ℕ → InnerRead → FrameFail
inner_end_missing whole read = Truncated whole

-- The inner fields, seen without memory: the stream and its key, the attached files, and the length
-- of all fields.
pub record InnerFields : Type 0 where
  pub stream_id : ℕ
  pub stream_key : List ℕ
  pub pool : List Binary
  pub size : ℕ

-- All fields up to field 0.
abbrev pub inner_from : List ℕ → Result InnerRead FrameFail
inner_from text =
    repeat_steps (inner_step (length text)) (inner_end_missing (length text)) (length text)
    (record { fields = no_inner_fields; rest = text })

-- The inner fields at the start of a text: all up to field 0, among them the stream and its key.
unfoldable pub inner_of : List ℕ → Result InnerFields FrameFail
inner_of text = do
  read ← inner_from text
  id ← required 1 read.fields.stream_id
  key ← required 2 read.fields.stream_key
  Ok (record {
    stream_id = id;
    stream_key = key;
    pool = read.fields.pool;
    size = length text - length read.rest;
  })
