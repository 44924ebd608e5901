-- Moments of UTC: as seconds from the first of the year 1, and as ISO 8601 writes them, in the form
-- of RFC 3339, section 5.6.
use Rattle.std.specs.Prelude.{◌≡◌, ℕ, ◌+◌, ◌-◌, ◌*◌, ◌/◌, ◌%◌, ◌<◌, ◌≤◌, List, [], ◌∷◌, ◌++◌, pos, codes}
use Rattle.jiff_core.specs.Calendar.{IsCivilDate, day_count}
use Rattle.time_core.specs.declared.iso.Moment.{Moment}

-- the last second of the year 9999
abbrev pub last_stamp : ℕ
last_stamp = 315_537_897_599

-- the Gregorian calendar has the day, in the years 1 to 9999
abbrev pub IsDay : ℕ → ℕ → ℕ → Type 0
IsDay year month day = (1 ≤ year) × IsCivilDate (pos year) month day

-- how many days lie between 0001-01-01 and the day
abbrev pub days_before : ℕ → ℕ → ℕ → ℕ
days_before year month day = day_count (pos year) month day - day_count (pos 1) 1 1

-- a clock shows the time; there are no leap seconds
abbrev pub IsTimeOfDay : ℕ → ℕ → ℕ → Type 0
IsTimeOfDay hour minute second = (hour < 24) × (minute < 60) × (second < 60)

-- the calendar has the day, and the clock the time
abbrev pub IsMoment : Moment → Type 0
IsMoment m = IsDay m.year m.month m.day × IsTimeOfDay m.hour m.minute m.second

-- the seconds from 0001-01-01T00:00:00Z to the moment, where each day has 86,400
abbrev pub seconds_of : Moment → ℕ
seconds_of m = days_before m.year m.month m.day * 86400 + m.hour * 3600 + m.minute * 60 + m.second

-- a number below 100 as two decimal digits
abbrev pub two_digits : ℕ → List ℕ
two_digits n = (48 + n / 10) ∷ (48 + n % 10) ∷ []

-- `YYYY-MM-DDThh:mm:ssZ`
abbrev pub iso_text : Moment → List ℕ
iso_text m =
    two_digits (m.year / 100) ++ two_digits (m.year % 100) ++ codes "-" ++ two_digits m.month
    ++ codes "-" ++ two_digits m.day ++ codes "T" ++ two_digits m.hour
    ++ codes ":" ++ two_digits m.minute ++ codes ":" ++ two_digits m.second ++ codes "Z"

-- The text spells a moment, and that moment is so many seconds after 0001-01-01T00:00:00Z.
pub record IsIso (text : List ℕ) (seconds : ℕ) : Type 0 where
  pub moment : Moment
  pub real : IsMoment moment
  pub spelling : text ≡ iso_text moment
  pub counted : seconds ≡ seconds_of moment
