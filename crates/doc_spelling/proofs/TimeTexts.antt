-- The text of a time says that time.
use Rattle.std.proofs.Common.{◌≡◌, ℕ, ◌+◌, ◌-◌, ◌*◌, ◌/◌, ◌%◌, ◌<◌, ◌≤◌, Bool, true, false, ◌&&◌, ◌||◌, ◌==◌, cond, leb, ltb, Option, Some, None, List, [], ◌∷◌, refl, ap, ◌∙◌, arith, ℤ, pos, Decides}
use Rattle.std.proofs.lemmas.Int.{ints}
use Rattle.std.proofs.lemmas.Bool.Decides.{nat_tests, Decides-and, Decides-ltb}
use Rattle.std.proofs.lemmas.Slice.Eq.{bytes_eq-Decides}
use Rattle.std.proofs.lemmas.Str.{IsUtf8-from_ascii}
use Rattle.std.proofs.lemmas.Str.Ascii.{IsAscii-cons, IsAscii-nil}
use Rattle.std.specs.Str.{bytes_eq, IsUtf8, IsAscii}
use Rattle.jiff_core.specs.Calendar.{IsYear, days_in_month, is_leap_year}
use Rattle.time_core.specs.Times.{last_stamp, IsMoment, seconds_of, iso_text}
use Rattle.vault_model.specs.declared.forms.DocForm.{DocForm}
use Rattle.vault_model.specs.declared.forms.DocForm.TheVariants.{Plain, V3, V4}
use Rattle.time_core.specs.declared.iso.Moment.{Moment}
use Rattle.doc_forms.specs.Values.{moment_in, is_moment, iso_time, value_or, time, either, counted_time}
use Rattle.doc_spelling.specs.Moments.{moment_at, time_text}
use Rattle.doc_spelling.proofs.IsoTexts.{moment_is}
use Rattle.doc_spelling.proofs.Goods.{Each}
use Rattle.doc_spelling.proofs.ValueTexts.{Says, IsVisible, says, time_says}

-- ---- the calendar's form

-- two digits are read as the number that they were written for
pair_back : (n : ℕ) → n < 100 → (48 + n / 10 - 48) * 10 + (48 + n % 10 - 48) ≡ n
pair_back n h = omega arith

year_back : (n : ℕ) → n < 10000 → ((48 + n / 100 / 10 - 48) * 10 + (48 + n / 100 % 10 - 48)) * 100 + ((48 + n % 100 / 10 - 48) * 10 + (48 + n % 100 % 10 - 48)) ≡ n
year_back n h = omega (arith, pair_back (n / 100) (omega arith), pair_back (n % 100) (omega arith))

-- a moment's parts have two digits, and its year has four
pub record Small (m : Moment) : Type 0 where
  pub year : m.year < 10000
  pub month : m.month < 100
  pub day : m.day < 100
  pub hour : m.hour < 100
  pub minute : m.minute < 100
  pub second : m.second < 100

read_back : (m : Moment) → Small m → moment_in (iso_text m) ≡ m
read_back m h = rw (year_back m.year h.year, pair_back m.month h.month, pair_back m.day h.day, pair_back m.hour h.hour, pair_back m.minute h.minute, pair_back m.second h.second) refl

months : (b l q : Bool) → cond b (cond l 29 28) (cond q 30 31) ≤ 31
months true true q = omega arith
months true false q = omega arith
months false l true = omega arith
months false l false = omega arith

month_bound : (y : ℤ) (m : ℕ) → days_in_month y m ≤ 31
month_bound y m = months (m == 2) (is_leap_year y) ((m == 4) || (m == 6) || (m == 9) || (m == 11))

is_small : (m : Moment) → IsMoment m → Small m
is_small m h = record {
  year = omega (arith, ints, h.0.1.0.1);
  month = omega (arith, h.0.1.1.1);
  day = omega (arith, h.0.1.2.1, month_bound (pos m.year) m.month);
  hour = omega (arith, h.1.0);
  minute = omega (arith, h.1.1);
  second = omega (arith, h.1.2);
}

decides_le : (a b : ℕ) → Decides (leb a b) (a ≤ b)
decides_le a b = (λ e. grind (arith, nat_tests), λ h. grind (arith, nat_tests))

leb_no : (a b : ℕ) → b < a → leb a b ≡ false
leb_no a b h = grind (arith, nat_tests)

decides_lt : (a b : ℕ) → Decides (ltb a b) (a < b)
decides_lt a b = Decides-ltb a b

year_in : (y : ℕ) → y ≤ 9999 → IsYear (pos y)
year_in y h = (omega (arith, ints), omega (arith, ints))

moment_decides : (m : Moment) → Decides (is_moment m) (IsMoment m)
moment_decides m =
    let days = days_in_month (pos m.year) m.month in
    let t1 = Decides-and _ _ (decides_le 1 m.year) (decides_le m.year 9999) in
    let t2 = Decides-and _ _ t1 (decides_le 1 m.month) in
    let t3 = Decides-and _ _ t2 (decides_le m.month 12) in
    let t4 = Decides-and _ _ t3 (decides_le 1 m.day) in
    let t5 = Decides-and _ _ t4 (decides_le m.day days) in
    let t6 = Decides-and _ _ t5 (decides_lt m.hour 24) in
    let t7 = Decides-and _ _ t6 (decides_lt m.minute 60) in
    let t8 = Decides-and _ _ t7 (decides_lt m.second 60) in (
      λ e. let p = t8.0 e in (
        (p.0.0.0.0.0.0.0.0, (year_in m.year p.0.0.0.0.0.0.0.1, (p.0.0.0.0.0.0.1, p.0.0.0.0.0.1), (p.0.0.0.0.1, p.0.0.0.1))),
        (p.0.0.1, p.0.1, p.1),
      ),
      λ h. t8.1 ((((((((h.0.0, omega (arith, ints, h.0.1.0.1)), h.0.1.1.0), h.0.1.1.1), h.0.1.2.0), h.0.1.2.1), h.1.0), h.1.1), h.1.2),
    )

-- the seconds that a text says, whose digits are those of a moment
abbrev said_of : List ℕ → Moment → Option ℕ
said_of text m = cond (bytes_eq text (iso_text m) && is_moment m) (Some (seconds_of m)) None

chosen : (b : Bool) (n : ℕ) → b ≡ true → cond b (Some n) None ≡ Some n
chosen b n e = rw e refl

not_chosen : (b : Bool) (n : ℕ) → b ≡ false → cond b (Some n) None ≡ None
not_chosen b n e = rw e refl

iso_is : (text : List ℕ) → iso_time text ≡ said_of text (moment_in text)
unfolding iso_time
iso_is text = refl

iso_yes : (text : List ℕ) (m : Moment) → text ≡ iso_text m → IsMoment m → iso_time text ≡ Some (seconds_of m)
iso_yes text m e h =
    let back : moment_in text ≡ m = ap moment_in e ∙ read_back m (is_small m h) in
    let both = Decides-and (bytes_eq text (iso_text m)) (is_moment m) (bytes_eq-Decides text (iso_text m)) (moment_decides m) in
    iso_is text ∙ (ap (said_of text) back ∙ chosen _ (seconds_of m) (both.1 (e, h)))

-- ---- the text

ascii_text : (text : List ℕ) → Each (λ b. b < 128) text → IsAscii text
ascii_text [] h = IsAscii-nil
ascii_text (b ∷ bs) h = IsAscii-cons b bs h.0 (ascii_text bs h.1)

iso_is_plain : (m : Moment) → Small m → IsVisible (iso_text m) × IsUtf8 (iso_text m)
iso_is_plain m h =
    let small : Each (λ b. b < 128) (iso_text m) = (omega arith, (omega arith, (omega arith, (omega arith, (omega arith, (omega arith, (omega arith, (omega arith, (omega arith, (omega arith, (omega arith, (omega arith, (omega arith, (omega arith, (omega arith, (omega arith, (omega arith, (omega arith, (omega arith, (omega arith, tt)))))))))))))))))))) in
    ((omega arith, (omega arith, (omega arith, (omega arith, (omega arith, (omega arith, (omega arith, (omega arith, (omega arith, (omega arith, (omega arith, (omega arith, (omega arith, (omega arith, (omega arith, (omega arith, (omega arith, (omega arith, (omega arith, (omega arith, tt)))))))))))))))))))), IsUtf8-from_ascii (iso_text m) (ascii_text (iso_text m) small))

pub iso_says : (n : ℕ) → n ≤ last_stamp → Says (value_or 0 time) (iso_text (moment_at n)) n
iso_says n h =
    let m = moment_at n in
    let real = moment_is n h in
    let plain = iso_is_plain m (is_small m real.0) in
    (plain.1, says 0 n time (iso_text m) plain.0 (omega arith) (ap (λ o. either o (counted_time (iso_text m))) (iso_yes (iso_text m) m refl real.0) ∙ ap (λ s. Some s) real.1))

pub stamp_says : (form : DocForm) → (n : ℕ) → n ≤ last_stamp → Says (value_or 0 time) (time_text form n) n
stamp_says Plain n h = iso_says n h
stamp_says V3 n h = iso_says n h
stamp_says V4 n h = time_says 0 n h
