-- Days counted from 0001-01-01, and how texts, moments and seconds name each other.
use Rattle.std.proofs.Common.{◌≡◌, ℕ, zero, suc, ◌+◌, ◌-◌, ◌*◌, ◌/◌, ◌%◌, ◌<◌, ◌≤◌, inl, inr, List, [], ◌∷◌, length, get_or, drop, Option, Some, None, MatchOption, refl, ap, ◌∙◌, arith, rules, ℤ, pos, negsuc, ◌+ℤ◌, ◌-ℤ◌, ◌≤ℤ◌, unsigned_abs}
use Rattle.std.proofs.Math.Seq.{drop-cons}
use Rattle.std.proofs.lemmas.Bool.{cases_order}
use Rattle.std.proofs.lemmas.Int.{by_lt_z}
use Rattle.std.proofs.lemmas.List.{drop_all}
use Rattle.jiff.proofs.SpanFacts.{date_add-days, can_add-days}
use Rattle.jiff.specs.Words.{date_add, CanAddToDate}
use Rattle.jiff_core.specs.Calendar.{IsCivilDate, IsEpochDay, day_count, days_from_civil}
use Rattle.jiff_core.specs.Date.{epoch_day, IsYmd}
use Rattle.jiff_core.specs.Span.{IsOnly}
use Rattle.jiff_core.specs.declared.civil.date.Date.{Date}
use Rattle.jiff_core.specs.declared.span.Span.{Span}
use Rattle.jiff_core.specs.declared.unit.Unit.TheVariants.{Day}
use Rattle.jiff_core.proofs.CalendarLemmas.{days_from_civil-day_count, day_count_bounds, day_count-lt_year, day_count-day_of_year}
use Rattle.jiff_core.proofs.MarchLemmas.{day_count-early}
use Rattle.jiff_core.proofs.DateLemmas.{civil, epoch_day-lt, epoch_day_injective}
use Rattle.jiff_core.proofs.SignedLemmas.{signed_arith}
use Rattle.time_core.specs.Times.{last_stamp, IsDay, days_before, IsMoment, seconds_of, two_digits, iso_text, IsIso}
use Rattle.time_core.specs.Spelled.{HasSeparators, first_day_number}
use Rattle.time_core.specs.declared.iso.Moment.{Moment}

-- the days from -10000-01-01 to 0001-01-01
pub day_count-first : day_count (pos 1) 1 1 ≡ 3_652_791
day_count-first = day_count-early (pos 1) 10000 1 1 refl (omega arith) (omega arith) (omega arith)

first_civil : IsCivilDate (pos 1) 1 1
first_civil = search rules

-- no day of the years 1 to 9999 lies outside them
pub day_count_range : (y m d : ℕ) → IsDay y m d → (3_652_791 ≤ day_count (pos y) m d) × (day_count (pos y) m d ≤ 7_304_849)
day_count_range y m d h =
    let high = day_count_bounds (pos y) m d h.1 in
    let low : 3_652_791 ≤ day_count (pos y) m d = elim (cases_order y 1) [
      | inl e ↦ rw e (omega (arith, day_count-first, day_count-day_of_year (pos 1) m d h.1.2.0))
      | inr (inl lt) ↦ absurd (omega (arith, h.0))
      | inr (inr gt) ↦ omega (arith, day_count-first, day_count-lt_year (pos 1) 1 1 (pos y) m d first_civil h.1.2.0 (omega (arith, signed_arith)))
    ] in
    (low, high.1)

pub days_before_bound : (y m d : ℕ) → IsDay y m d → days_before y m d ≤ 3_652_058
days_before_bound y m d h = let range = day_count_range y m d h in omega (arith, day_count-first)

pub seconds_of_bound : (m : Moment) → IsMoment m → seconds_of m ≤ last_stamp
seconds_of_bound m h = omega (arith, days_before_bound m.year m.month m.day h.0, h.1.0, h.1.1, h.1.2)

abbrev civil_date : (y m d : ℕ) → IsCivilDate (pos y) m d → Date
civil_date y m d h = record { year = pos y; month = m; day = d; year_in = h.0; month_in = h.1; day_in = h.2 }

same_number : (y m d y₂ m₂ d₂ : ℕ) → day_count (pos y) m d ≡ day_count (pos y₂) m₂ d₂ → days_from_civil (pos y) m d ≡ days_from_civil (pos y₂) m₂ d₂
unfolding days_from_civil
same_number y m d y₂ m₂ d₂ e = ap (λ n. pos n -ℤ pos (day_count (pos 1970) 1 1)) e

-- a day is known by how many days lie before it
pub same_day : (y m d y₂ m₂ d₂ : ℕ) → IsDay y m d → IsDay y₂ m₂ d₂ → days_before y m d ≡ days_before y₂ m₂ d₂ → (y ≡ y₂) × (m ≡ m₂) × (d ≡ d₂)
same_day y m d y₂ m₂ d₂ h k e =
    let one = day_count_range y m d h in
    let other = day_count_range y₂ m₂ d₂ k in
    let count : day_count (pos y) m d ≡ day_count (pos y₂) m₂ d₂ = omega (arith, day_count-first) in
    let same = epoch_day_injective (civil_date y m d h.1) (civil_date y₂ m₂ d₂ k.1) (same_number y m d y₂ m₂ d₂ count) in
    (ap unsigned_abs same.0, same.1, same.2)

-- whole days and what is left of one are known by their sum
whole_days : (a b r q : ℕ) → r < 86400 → q < 86400 → a * 86400 + r ≡ b * 86400 + q → a ≡ b
whole_days a b r q h k e = omega arith

-- two moments have the same parts
pub record SameParts (m n : Moment) : Type 0 where
  pub year : m.year ≡ n.year
  pub month : m.month ≡ n.month
  pub day : m.day ≡ n.day
  pub hour : m.hour ≡ n.hour
  pub minute : m.minute ≡ n.minute
  pub second : m.second ≡ n.second

-- a moment is known by its seconds
pub same_moment : (m n : Moment) → IsMoment m → IsMoment n → seconds_of m ≡ seconds_of n → SameParts m n
same_moment m n h k e =
    let a = days_before m.year m.month m.day in
    let b = days_before n.year n.month n.day in
    let r = m.hour * 3600 + m.minute * 60 + m.second in
    let q = n.hour * 3600 + n.minute * 60 + n.second in
    let low : r < 86400 = omega (arith, h.1.0, h.1.1, h.1.2) in
    let high : q < 86400 = omega (arith, k.1.0, k.1.1, k.1.2) in
    let sum : a * 86400 + r ≡ b * 86400 + q = omega arith in
    let days = whole_days a b r q low high sum in
    let day = same_day _ _ _ _ _ _ h.0 k.0 days in
    let rest : r ≡ q = omega (arith, sum, days) in
    record {
      year = day.0;
      month = day.1;
      day = day.2;
      hour = omega (arith, rest, h.1.1, h.1.2, k.1.1, k.1.2);
      minute = omega (arith, rest, h.1.1, h.1.2, k.1.1, k.1.2);
      second = omega (arith, rest, h.1.1, h.1.2, k.1.1, k.1.2);
    }

pub same_text : (m n : Moment) → SameParts m n → iso_text m ≡ iso_text n
same_text m n s = rw (s.year, s.month, s.day, s.hour, s.minute, s.second)

pub iso_in_range : (text : List ℕ) (seconds : ℕ) → IsIso text seconds → seconds ≤ last_stamp
iso_in_range text seconds h = rw h.counted (seconds_of_bound h.moment h.real)

-- a date's year is 1 or later if its day number is that of 0001-01-01 or later
pub year_from_first : (d : Date) (n : ℕ) → epoch_day d ≡ first_day_number +ℤ pos n → pos 1 ≤ℤ d.year
year_from_first d n e =
    let first = civil_date 1 1 1 first_civil in
    by_lt_z d.year (pos 1) (λ lt. absurd (omega (arith, signed_arith, e, epoch_day-lt d first (inl lt)))) (λ le. le)

-- a date's day number counts the days that lie before it
pub days_before-number : (d : Date) (n : ℕ) → epoch_day d ≡ first_day_number +ℤ pos n → day_count d.year d.month d.day - day_count (pos 1) 1 1 ≡ n
days_before-number d n e =
    omega (arith, signed_arith, e, days_from_civil-day_count d.year d.month d.day, days_from_civil-day_count (pos 1) 1 1)

-- the day number of a date with the parts of 0001-01-01
pub first_number : (first : Date) → IsYmd (pos 1) (pos 1) (pos 1) first → epoch_day first ≡ first_day_number
first_number first h =
    let month : first.month ≡ 1 = ap unsigned_abs h.1 in
    let day : first.day ≡ 1 = ap unsigned_abs h.2 in
    rw (h.0, month, day)

-- the day so many days after 0001-01-01 is one that the library has
pub can_add-first : (first : Date) (n : ℕ) (s : Span) → IsYmd (pos 1) (pos 1) (pos 1) first → n ≤ 3_652_058 → IsOnly Day (pos n) s → CanAddToDate first s
can_add-first first n s h low only =
    let number = first_number first h in
    let range : IsEpochDay (first_day_number +ℤ pos n) = (
      omega (arith, signed_arith, day_count-first, days_from_civil-day_count (pos 1) 1 1),
      omega (arith, signed_arith, day_count-first, days_from_civil-day_count (pos 1) 1 1),
    ) in
    (can_add-days first (pos n) s only).1 (rw number range)

-- and has that day number
pub date_add-first : (first : Date) (n : ℕ) (s : Span) → IsYmd (pos 1) (pos 1) (pos 1) first → IsOnly Day (pos n) s → date_add first s ≡ first_day_number +ℤ pos n
date_add-first first n s h only =
    date_add-days first (pos n) s only ∙ ap (λ z. z +ℤ pos n) (first_number first h)

-- a date that the library has is a day of the calendar, and the distance from 0001-01-01 the days before it
pub until_date : (first date : Date) (y m d : ℕ) → IsYmd (pos 1) (pos 1) (pos 1) first → IsYmd (pos y) (pos m) (pos d) date → 1 ≤ y → IsDay y m d × (epoch_day date -ℤ epoch_day first ≡ pos (days_before y m d))
until_date first date y m d f h low =
    let month : date.month ≡ m = ap unsigned_abs h.1 in
    let day : date.day ≡ d = ap unsigned_abs h.2 in
    let calendar : IsCivilDate (pos y) m d = rw (h.0, month, day) at (civil date) in
    let number : epoch_day date ≡ days_from_civil (pos y) m d = rw (h.0, month, day) refl in
    let first_is = first_number first f in
    let range = day_count_range y m d (low, calendar) in
    let apart : days_from_civil (pos y) m d -ℤ first_day_number ≡ pos (days_before y m d) = omega (arith, signed_arith, range.0, day_count-first, days_from_civil-day_count (pos y) m d, days_from_civil-day_count (pos 1) 1 1) in
    ((low, calendar), rw (number, first_is) apart)

-- a number from 1 on is its magnitude
back_abs : (z : ℤ) → pos 1 ≤ℤ z → pos (unsigned_abs z) ≡ z
back_abs (pos n) h = refl
back_abs (negsuc n) h = absurd (omega (arith, signed_arith, h))

-- the parts of a date, as signed numbers, have its day number's days before them
pub days_before-parts : (date : Date) (n : ℕ) (year month day : ℤ) → epoch_day date ≡ first_day_number +ℤ pos n → pos 1 ≤ℤ date.year → year ≡ date.year → month ≡ pos date.month → day ≡ pos date.day → days_before (unsigned_abs year) (unsigned_abs month) (unsigned_abs day) ≡ n
days_before-parts date n year month day e low y m d =
    rw (y, m, d, back_abs date.year low) (days_before-number date n e)

-- the bytes of a text from the ith on
abbrev bytes_from : ℕ → ℕ → List ℕ → List ℕ
bytes_from i zero t = []
bytes_from i (suc n) t = get_or t i 0 ∷ bytes_from (suc i) n t

drop-bytes_from : (n i : ℕ) (t : List ℕ) → length t ≡ i + n → drop i t ≡ bytes_from i n t
drop-bytes_from zero i t h = drop_all i t (omega arith)
drop-bytes_from (suc n) i t h =
    let here : i < length t = omega arith in
    rw (drop-cons t i 0) (ap (λ l. get_or t i 0 ∷ l) (drop-bytes_from n (suc i) t (omega arith)))

-- a text of 20 bytes whose separators stand, and whose digits spell a moment's parts, spells the moment
pub spelled_text : (t : List ℕ) (m : Moment) → length t ≡ 20 → HasSeparators t
    → two_digits (m.year / 100) ≡ get_or t 0 0 ∷ get_or t 1 0 ∷ []
    → two_digits (m.year % 100) ≡ get_or t 2 0 ∷ get_or t 3 0 ∷ []
    → two_digits m.month ≡ get_or t 5 0 ∷ get_or t 6 0 ∷ []
    → two_digits m.day ≡ get_or t 8 0 ∷ get_or t 9 0 ∷ []
    → two_digits m.hour ≡ get_or t 11 0 ∷ get_or t 12 0 ∷ []
    → two_digits m.minute ≡ get_or t 14 0 ∷ get_or t 15 0 ∷ []
    → two_digits m.second ≡ get_or t 17 0 ∷ get_or t 18 0 ∷ []
    → t ≡ iso_text m
spelled_text t m n s century year month day hour minute second =
    let whole : t ≡ bytes_from 0 20 t = drop-bytes_from 20 0 t n in
    whole ∙ cc

-- a call that gives the seconds of a text, or nothing after the last stamp, gives its stamp
pub stamp_found : (r : Option ℕ) (text : List ℕ) (seconds : ℕ) → MatchOption r (last_stamp < seconds) (λ s. (seconds ≤ last_stamp) × (s ≡ seconds)) → IsIso text seconds → MatchOption r ((s : ℕ) → ¬ (IsIso text s)) (IsIso text)
stamp_found None text seconds h iso = absurd (omega (arith, h, iso_in_range text seconds iso))
stamp_found (Some s) text seconds h iso = rw h.1 iso
