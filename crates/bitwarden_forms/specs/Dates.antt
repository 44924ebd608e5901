-- Dates as an export writes them: `YYYY-MM-DDThh:mm:ssZ`, with a fraction of a second before the `Z`
-- or none.
use Rattle.std.specs.Prelude.{ℕ, Bool, ◌&&◌, ◌-◌, ◌==◌, if◌then◌else◌, nat_lt, List, ◌++◌, Option, codes, length, slice_index, slice_range, take}
use Rattle.std.specs.Char.{is_ascii_digit}
use Rattle.std.specs.List.{list_all}
use Rattle.table_reading.specs.DocForms.Values.{iso_time}

-- a `.` and digits are after the seconds, and then the `Z`
abbrev pub has_fraction : List ℕ → Bool
has_fraction text =
    nat_lt 21 (length text) && (slice_index text 19 == 46)
    && (slice_index text (length text - 1) == 90)
    && list_all is_ascii_digit (slice_range text 20 (length text - 1))

-- a date without its fraction of a second
abbrev pub whole_seconds : List ℕ → List ℕ
whole_seconds text = if has_fraction text then take 19 text ++ codes "Z" else text

-- the seconds since the year 1 of a date
abbrev pub date : List ℕ → Option ℕ
date text = iso_time (whole_seconds text)
