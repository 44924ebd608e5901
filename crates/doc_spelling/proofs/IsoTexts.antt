-- The moment of a number of seconds is a moment, and that many seconds after the first.
use Rattle.std.proofs.Common.{◌≡◌, ℕ, zero, suc, ◌+◌, ◌-◌, ◌*◌, ◌/◌, ◌%◌, ◌<◌, ◌≤◌, Bool, true, false, cond, ltb, List, refl, ap, sym, ◌∙◌, arith, pos, ltb-true, ltb-false}
use Rattle.std.proofs.lemmas.Int.{ints}
use Rattle.jiff_core.proofs.CalendarLemmas.{day_count-next_year, day_count-next_month, day_count-last_of_year, day_count-end, day_count-day}
use Rattle.jiff_core.specs.Calendar.{IsYear, days_in_month, days_in_year, day_count}
use Rattle.time_core.proofs.Moments.{day_count-first, iso_in_range, same_moment, same_text}
use Rattle.time_core.specs.Times.{last_stamp, IsIso, IsMoment, seconds_of}
use Rattle.doc_spelling.specs.Moments.{iso_at, moment_at, month_from, year_from}

year_in : (y : ℕ) → y ≤ 9999 → IsYear (pos y)
year_in y h = (omega (arith, ints), omega (arith, ints))

next_year : (y : ℕ) → day_count (pos (suc y)) 1 1 ≡ day_count (pos y) 1 1 + days_in_year (pos y)
next_year y = day_count-next_year (pos y) (pos (suc y)) (omega (arith, ints)) (ap pos (omega arith))

pub record InYear (y left : ℕ) (r : ℕ × ℕ) : Type 0 where
  pub low : y ≤ r.0
  pub high : r.0 ≤ 9999
  pub within : r.1 < days_in_year (pos r.0)
  pub same : day_count (pos r.0) 1 1 + r.1 ≡ day_count (pos y) 1 1 + left

either_way : {A : Type 0} (P : A → Type 0) (b : Bool) (x y : A) → (b ≡ true → P x) → (b ≡ false → P y) → P (cond b x y)
either_way P true x y f g = f refl
either_way P false x y f g = g refl

later_year : (y left : ℕ) (r : ℕ × ℕ) → days_in_year (pos y) ≤ left → InYear (suc y) (left - days_in_year (pos y)) r → InYear y left r
later_year y left r past h = record { low = omega (arith, h.low); high = h.high; within = h.within; same = omega (arith, h.same, next_year y) }

year_found : (fuel y left : ℕ) → fuel + y ≡ 10000 → day_count (pos y) 1 1 + left < 7_304_850 → InYear y left (year_from fuel y left)
unfolding year_from
year_found zero y left e h =
    let last : day_count (pos y) 1 1 ≡ 7_304_850 = ap (λ n. day_count (pos n) 1 1) (let same : y ≡ 10000 = omega arith in same) ∙ day_count-end in
    absurd (omega arith)
year_found (suc fuel) y left e h =
    either_way (InYear y left) (ltb left (days_in_year (pos y))) (y, left) (year_from fuel (suc y) (left - days_in_year (pos y)))
    (λ b. record { low = omega arith; high = omega arith; within = ltb-true left (days_in_year (pos y)) b; same = refl })
    (λ b. let past : days_in_year (pos y) ≤ left = ltb-false left (days_in_year (pos y)) b in
    later_year y left (year_from fuel (suc y) (left - days_in_year (pos y))) past (year_found fuel (suc y) (left - days_in_year (pos y)) (omega arith) (omega (arith, next_year y))))

pub record InMonth (y m left : ℕ) (r : ℕ × ℕ) : Type 0 where
  pub low : m ≤ r.0
  pub high : r.0 ≤ 12
  pub within : r.1 < days_in_month (pos y) r.0
  pub same : day_count (pos y) r.0 1 + r.1 ≡ day_count (pos y) m 1 + left

next_month : (y m : ℕ) → 1 ≤ m → day_count (pos y) (suc m) 1 ≡ day_count (pos y) m 1 + days_in_month (pos y) m
next_month y m h = ap (λ n. day_count (pos y) n 1) (let e : suc m ≡ m + 1 = omega arith in e) ∙ day_count-next_month (pos y) m h

later_month : (y m left : ℕ) (r : ℕ × ℕ) → 1 ≤ m → days_in_month (pos y) m ≤ left → InMonth y (suc m) (left - days_in_month (pos y) m) r → InMonth y m left r
later_month y m left r some past h = record { low = omega (arith, h.low); high = h.high; within = h.within; same = omega (arith, h.same, next_month y m some) }

month_found : (fuel y m left : ℕ) → 1 ≤ m → fuel + m ≡ 13 → day_count (pos y) m 1 + left < day_count (pos y) 1 1 + days_in_year (pos y) → InMonth y m left (month_from fuel y m left)
unfolding month_from
month_found zero y m left some e h =
    let last : day_count (pos y) m 1 ≡ day_count (pos y) 13 1 = ap (λ n. day_count (pos y) n 1) (let same : m ≡ 13 = omega arith in same) in
    absurd (omega (arith, next_month y 12 (omega arith), day_count-day (pos y) 12 1 31 (omega arith) (omega arith), day_count-last_of_year (pos y)))
month_found (suc fuel) y m left some e h =
    either_way (InMonth y m left) (ltb left (days_in_month (pos y) m)) (m, left) (month_from fuel y (suc m) (left - days_in_month (pos y) m))
    (λ b. record { low = omega arith; high = omega arith; within = ltb-true left (days_in_month (pos y) m) b; same = refl })
    (λ b. let past : days_in_month (pos y) m ≤ left = ltb-false left (days_in_month (pos y) m) b in
    later_month y m left (month_from fuel y (suc m) (left - days_in_month (pos y) m)) some past (month_found fuel y (suc m) (left - days_in_month (pos y) m) (omega arith) (omega arith) (omega (arith, next_month y m some))))

pub moment_is : (n : ℕ) → n ≤ last_stamp → IsMoment (moment_at n) × (seconds_of (moment_at n) ≡ n)
unfolding moment_at
moment_is n h =
    let days = n / 86400 in
    let y = year_from 9999 1 days in
    let in_year = year_found 9999 1 days refl (omega (arith, day_count-first)) in
    let m = month_from 12 y.0 1 y.1 in
    let in_month = month_found 12 y.0 1 y.1 (omega arith) refl (omega (arith, in_year.within)) in
    let count = day_count-day (pos y.0) m.0 1 (m.1 + 1) (omega arith) (omega arith) in
    let d : day_count (pos y.0) m.0 (m.1 + 1) ≡ 3_652_791 + days = omega (arith, count, in_month.same, in_year.same, day_count-first) in
    let before : day_count (pos y.0) m.0 (m.1 + 1) - day_count (pos 1) 1 1 ≡ days = omega (arith, d, day_count-first) in (
      ((in_year.low, (year_in y.0 in_year.high, (in_month.low, in_month.high), (omega arith, omega (arith, in_month.within)))), (omega arith, omega arith, omega arith)),
      seconds (day_count (pos y.0) m.0 (m.1 + 1) - day_count (pos 1) 1 1) n before,
    )
  where
    seconds : (d n : ℕ) → d ≡ n / 86400 → d * 86400 + n % 86400 / 3600 * 3600 + n % 3600 / 60 * 60 + n % 60 ≡ n
    seconds d n e = omega arith

-- ---- its text

-- a text of the moment
pub iso_is : (n : ℕ) → n ≤ last_stamp → IsIso (iso_at n) n
iso_is n h =
    let real = moment_is n h in
    record { moment = moment_at n; real = real.0; spelling = refl; counted = sym real.1 }

-- and the only one
pub iso_same : (text : List ℕ) (n : ℕ) → IsIso text n → text ≡ iso_at n
iso_same text n h =
    let k = iso_is n (iso_in_range text n h) in
    h.spelling ∙ same_text _ _ (same_moment h.moment k.moment h.real k.real (sym h.counted ∙ k.counted)) ∙ sym k.spelling
