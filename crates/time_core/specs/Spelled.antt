-- What the reader of times knows of a text before it asks the calendar and the clock.
use Rattle.std.specs.Prelude.{◌≡◌, ℕ, ℤ, pos, ◌<◌, List, slice_index}
use Rattle.jiff_core.specs.Calendar.{days_from_civil}
use Rattle.time_core.specs.declared.iso.Moment.{Moment}

-- the year has four digits at most, and every other part two
pub record HasDigits (m : Moment) : Type 0 where
  pub year : m.year < 10000
  pub month : m.month < 100
  pub day : m.day < 100
  pub hour : m.hour < 100
  pub minute : m.minute < 100
  pub second : m.second < 100

-- the bytes `-`, `-`, `T`, `:`, `:` and `Z` are between and after the parts
pub record HasSeparators (text : List ℕ) : Type 0 where
  pub year_end : slice_index text 4 ≡ 45
  pub month_end : slice_index text 7 ≡ 45
  pub day_end : slice_index text 10 ≡ 84
  pub hour_end : slice_index text 13 ≡ 58
  pub minute_end : slice_index text 16 ≡ 58
  pub second_end : slice_index text 19 ≡ 90

-- the day number of 0001-01-01, counted from 1970-01-01
abbrev pub first_day_number : ℤ
first_day_number = days_from_civil (pos 1) 1 1
