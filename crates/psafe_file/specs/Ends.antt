-- Where the header or the first record of some fields ends.
use Rattle.std.specs.Prelude.{◌≡◌, ℕ, ◌+◌, ◌<◌, List, [], ◌∷◌, length, take, drop}
use Rattle.psafe_file.specs.Fields.{SafeField, after_header, records_in}

-- No field ends a header or a record.
pub record AreUnended (fields : List SafeField) : Type 0 where
  pub records : records_in fields ≡ []
  pub later : after_header fields ≡ []

-- The field at this index is the first that ends a header or a record.
pub record EndsFirst (fields : List SafeField) (at : ℕ) : Type 0 where
  pub within : at < length fields
  pub records : records_in fields ≡ take at fields ∷ records_in (drop (at + 1) fields)
  pub later : after_header fields ≡ drop (at + 1) fields
