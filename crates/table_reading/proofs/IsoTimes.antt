-- Times as texts write them in the calendar's form.
use Rattle.std.proofs.Common.{◌≡◌, ℕ, ◌+◌, ◌-◌, ◌*◌, ◌/◌, ◌%◌, ◌<◌, ◌≤◌, Bool, true, false, ◌&&◌, ◌||◌, ◌==◌, cond, leb, ltb, Option, Some, None, MatchOption, List, [], ◌∷◌, length, refl, ap, sym, ◌∙◌, arith, ℤ, pos, Decides}
use Rattle.std.proofs.lemmas.Int.{ints}
use Rattle.std.proofs.lemmas.Bool.Decides.{nat_tests, Decides-and, Decides-ltb}
use Rattle.std.proofs.lemmas.Bool.{false_from_ne_true}
use Rattle.std.proofs.lemmas.Slice.Eq.{bytes_eq-Decides}
use Rattle.std.specs.Str.{bytes_eq}
use Rattle.jiff_core.specs.Calendar.{IsYear, days_in_month, is_leap_year}
use Rattle.time_core.specs.Times.{IsMoment, seconds_of, iso_text, IsIso}
use Rattle.time_core.specs.declared.iso.Moment.{Moment}
use Rattle.table_reading.specs.Cells.{time_of}
use Rattle.import_tree.specs.DocForms.Values.{moment_in, is_moment, iso_time}

-- ---- the calendar's form

-- the moment that a moment's text writes
pair_back : (n : ℕ) → n < 100 → (48 + n / 10 - 48) * 10 + (48 + n % 10 - 48) ≡ n
pair_back n h = omega arith

year_back : (n : ℕ) → n < 10000 → ((48 + n / 100 / 10 - 48) * 10 + (48 + n / 100 % 10 - 48)) * 100 + ((48 + n % 100 / 10 - 48) * 10 + (48 + n % 100 % 10 - 48)) ≡ n
year_back n h = omega (arith, pair_back (n / 100) (omega arith), pair_back (n % 100) (omega arith))

-- a moment's parts have two digits, and its year has four
record Small (m : Moment) : Type 0 where
  year : m.year < 10000
  month : m.month < 100
  day : m.day < 100
  hour : m.hour < 100
  minute : m.minute < 100
  second : m.second < 100

read_back : (m : Moment) → Small m → moment_in (iso_text m) ≡ m
read_back m h = rw (year_back m.year h.year, pair_back m.month h.month, pair_back m.day h.day, pair_back m.hour h.hour, pair_back m.minute h.minute, pair_back m.second h.second) refl

months : (b l q : Bool) → cond b (cond l 29 28) (cond q 30 31) ≤ 31
months true true q = omega arith
months true false q = omega arith
months false l true = omega arith
months false l false = omega arith

month_bound : (y : ℤ) (m : ℕ) → days_in_month y m ≤ 31
month_bound y m = months (m == 2) (is_leap_year y) ((m == 4) || (m == 6) || (m == 9) || (m == 11))

is_small : (m : Moment) → IsMoment m → Small m
is_small m h = record {
  year = omega (arith, ints, h.0.1.0.1);
  month = omega (arith, h.0.1.1.1);
  day = omega (arith, h.0.1.2.1, month_bound (pos m.year) m.month);
  hour = omega (arith, h.1.0);
  minute = omega (arith, h.1.1);
  second = omega (arith, h.1.2);
}

decides_le : (a b : ℕ) → Decides (leb a b) (a ≤ b)
decides_le a b = (λ e. grind (arith, nat_tests), λ h. grind (arith, nat_tests))

leb_no : (a b : ℕ) → b < a → leb a b ≡ false
leb_no a b h = grind (arith, nat_tests)

decides_lt : (a b : ℕ) → Decides (ltb a b) (a < b)
decides_lt a b = Decides-ltb a b

year_in : (y : ℕ) → y ≤ 9999 → IsYear (pos y)
year_in y h = (omega (arith, ints), omega (arith, ints))

moment_decides : (m : Moment) → Decides (is_moment m) (IsMoment m)
moment_decides m =
    let days = days_in_month (pos m.year) m.month in
    let t1 = Decides-and _ _ (decides_le 1 m.year) (decides_le m.year 9999) in
    let t2 = Decides-and _ _ t1 (decides_le 1 m.month) in
    let t3 = Decides-and _ _ t2 (decides_le m.month 12) in
    let t4 = Decides-and _ _ t3 (decides_le 1 m.day) in
    let t5 = Decides-and _ _ t4 (decides_le m.day days) in
    let t6 = Decides-and _ _ t5 (decides_lt m.hour 24) in
    let t7 = Decides-and _ _ t6 (decides_lt m.minute 60) in
    let t8 = Decides-and _ _ t7 (decides_lt m.second 60) in (
      λ e. let p = t8.0 e in (
        (p.0.0.0.0.0.0.0.0, (year_in m.year p.0.0.0.0.0.0.0.1, (p.0.0.0.0.0.0.1, p.0.0.0.0.0.1), (p.0.0.0.0.1, p.0.0.0.1))),
        (p.0.0.1, p.0.1, p.1),
      ),
      λ h. t8.1 ((((((((h.0.0, omega (arith, ints, h.0.1.0.1)), h.0.1.1.0), h.0.1.1.1), h.0.1.2.0), h.0.1.2.1), h.1.0), h.1.1), h.1.2),
    )

-- what a text says whose digits are those of a moment
abbrev said_of : List ℕ → Moment → Option ℕ
said_of text m = cond (bytes_eq text (iso_text m) && is_moment m) (Some (seconds_of m)) None

chosen : (b : Bool) (n : ℕ) → b ≡ true → cond b (Some n) None ≡ Some n
chosen b n e = rw e refl

not_chosen : (b : Bool) (n : ℕ) → b ≡ false → cond b (Some n) None ≡ None
not_chosen b n e = rw e refl

iso_is : (text : List ℕ) → iso_time text ≡ said_of text (moment_in text)
unfolding iso_time
iso_is text = refl

iso_yes : (text : List ℕ) (m : Moment) → text ≡ iso_text m → IsMoment m → iso_time text ≡ Some (seconds_of m)
iso_yes text m e h =
    let back : moment_in text ≡ m = ap moment_in e ∙ read_back m (is_small m h) in
    let both = Decides-and (bytes_eq text (iso_text m)) (is_moment m) (bytes_eq-Decides text (iso_text m)) (moment_decides m) in
    iso_is text ∙ (ap (said_of text) back ∙ chosen _ (seconds_of m) (both.1 (e, h)))

iso_no : (text : List ℕ) → ((seconds : ℕ) → ¬ (IsIso text seconds)) → iso_time text ≡ None
iso_no text h =
    let m = moment_in text in
    let both = Decides-and (bytes_eq text (iso_text m)) (is_moment m) (bytes_eq-Decides text (iso_text m)) (moment_decides m) in
    iso_is text ∙ not_chosen _ (seconds_of m) (false_from_ne_true _ (λ yes. h (seconds_of m) (record { moment = m; real = (both.0 yes).1; spelling = (both.0 yes).0; counted = refl })))

pub iso_found : (r : Option ℕ) (text : List ℕ) → MatchOption r ((seconds : ℕ) → ¬ (IsIso text seconds)) (IsIso text) → r ≡ iso_time text
iso_found None text h = sym (iso_no text h)
iso_found (Some s) text h = ap Some h.counted ∙ sym (iso_yes text h.moment h.spelling h.real)

-- a time that is given
pub time_given : (now : ℕ) (text : List ℕ) (r : Option ℕ) → (length text == 0) ≡ false → r ≡ iso_time text → r ≡ time_of now text
time_given now [] r some is = absurd (cc some)
time_given now (byte ∷ bytes) r some is = is
