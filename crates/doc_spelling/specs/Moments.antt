-- The moment of so many seconds after 0001-01-01T00:00:00Z, and how a time is written.
use Rattle.std.specs.Prelude.{ℕ, zero, suc, ◌+◌, ◌-◌, ◌/◌, ◌%◌, cond, nat_lt, List, pos}
use Rattle.std.specs.Int.{to_le_bytes, w64}
use Rattle.base64.specs.Engines.{standard}
use Rattle.base64.specs.GeneralPurpose.{encode_of}
use Rattle.jiff_core.specs.Calendar.{days_in_year, days_in_month}
use Rattle.time_core.specs.Times.{iso_text}
use Rattle.time_core.specs.declared.iso.Moment.{Moment}
use Rattle.vault_model.specs.declared.forms.DocForm.{DocForm}
use Rattle.vault_model.specs.declared.forms.DocForm.TheVariants.{V4}

-- the year of the day that is so many days after the first of a year, and its place in that year,
-- from 0 on; at most so many years later
unfoldable pub year_from : ℕ → ℕ → ℕ → ℕ × ℕ
year_from zero year days = (year, days)
year_from (suc years) year days =
    let later = year_from years (suc year) (days - days_in_year (pos year)) in
    cond (nat_lt days (days_in_year (pos year))) (year, days) later

-- the month of the day that is so many days after the first of a month of the year, and its place
-- in that month, from 0 on; at most so many months later
unfoldable pub month_from : ℕ → ℕ → ℕ → ℕ → ℕ × ℕ
month_from zero year month days = (month, days)
month_from (suc months) year month days =
    let later = month_from months year (suc month) (days - days_in_month (pos year) month) in
    cond (nat_lt days (days_in_month (pos year) month)) (month, days) later

-- the moment of a number of seconds
unfoldable pub moment_at : ℕ → Moment
moment_at seconds =
    let y = year_from 9999 1 (seconds / 86400) in
    let m = month_from 12 y.0 1 y.1 in
    record {
      year = y.0;
      month = m.0;
      day = m.1 + 1;
      hour = seconds % 86400 / 3600;
      minute = seconds % 3600 / 60;
      second = seconds % 60;
    }

-- a time as ISO 8601 writes it
abbrev pub iso_at : ℕ → List ℕ
iso_at seconds = iso_text (moment_at seconds)

-- a time, in KDBX 4 the base64 of its seconds in 8 bytes, the least first, and else as ISO
abbrev pub time_text : DocForm → ℕ → List ℕ
time_text V4 seconds = encode_of standard (to_le_bytes w64 seconds)
time_text _ seconds = iso_at seconds
