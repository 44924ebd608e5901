-- Bytes that are refused, so that the law speaks of something.
use Rattle.std.specs.Prelude.{◌≡◌, List, [], ◌∷◌, ◌++◌, ℕ, Err}
use Rattle.kdbx_parts.specs.declared.fail.FrameFail.TheVariants.{FieldLength, FieldMissing, FieldTwice, Truncated}
use Rattle.kdbx_inner.specs.Inner.{inner_of}

-- the number 3 of a stream
abbrev pub stream_field : List ℕ
stream_field = 1 ∷ 4 ∷ 0 ∷ 0 ∷ 0 ∷ 3 ∷ 0 ∷ 0 ∷ 0 ∷ []

-- field 0, without content
abbrev pub last_field : List ℕ
last_field = 0 ∷ 0 ∷ 0 ∷ 0 ∷ 0 ∷ []

-- No bytes; the number twice; a number of no bytes; a binary without flags; field 0 alone; and the
-- number without the key.
pub record ExampleRefusals : Type 0 where
  pub empty : inner_of [] ≡ Err (Truncated 0)
  pub twice : inner_of (stream_field ++ stream_field) ≡ Err (FieldTwice 1)
  pub bare : inner_of (1 ∷ 0 ∷ 0 ∷ 0 ∷ 0 ∷ []) ≡ Err (FieldLength 1 0)
  pub binary : inner_of (3 ∷ 0 ∷ 0 ∷ 0 ∷ 0 ∷ []) ≡ Err (FieldLength 3 0)
  pub no_number : inner_of last_field ≡ Err (FieldMissing 1)
  pub no_key : inner_of (stream_field ++ last_field) ≡ Err (FieldMissing 2)
