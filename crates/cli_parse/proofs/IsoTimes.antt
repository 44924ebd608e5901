-- A time is read where a text spells a moment of the calendar.
use Rattle.std.proofs.Common.{◌≡◌, ℕ, ◌+◌, ◌-◌, ◌*◌, ◌/◌, ◌%◌, ◌<◌, ◌≤◌, Bool, true, false, ◌&&◌, ◌||◌, ◌==◌, cond, leb, Option, Some, None, MatchOption, List, refl, ap, sym, ◌∙◌, arith, ℤ, pos, Decides}
use Rattle.std.proofs.lemmas.Int.{ints}
use Rattle.std.proofs.lemmas.Bool.Decides.{nat_tests, Decides-and, Decides-ltb}
use Rattle.std.proofs.lemmas.Bool.{false_from_ne_true}
use Rattle.std.proofs.lemmas.Slice.Eq.{bytes_eq-Decides}
use Rattle.std.specs.Str.{bytes_eq}
use Rattle.jiff_core.specs.Calendar.{IsYear, days_in_month, is_leap_year}
use Rattle.time_core.specs.Times.{IsIso, IsMoment, iso_text, seconds_of}
use Rattle.time_core.specs.declared.iso.Moment.{Moment}
use Rattle.doc_forms.specs.Values.{is_moment, iso_time, moment_in}

-- Two digits are the number that they write.
two_back : (n : ℕ) → n < 100 → (48 + n / 10 - 48) * 10 + (48 + n % 10 - 48) ≡ n
two_back n h = omega arith

-- And so are four.
four_back : (n : ℕ) → n < 10000
    → ((48 + n / 100 / 10 - 48) * 10 + (48 + n / 100 % 10 - 48)) * 100 + ((48 + n % 100 / 10 - 48) * 10 + (48 + n % 100 % 10 - 48)) ≡ n
four_back n h = omega (arith, two_back (n / 100) (omega arith), two_back (n % 100) (omega arith))

-- A month has at most 31 days.
most_days : (y : ℤ) (m : ℕ) → days_in_month y m ≤ 31
most_days y m = by (m == 2) (is_leap_year y) ((m == 4) || (m == 6) || (m == 9) || (m == 11))
  where
    by : (second leap short : Bool) → cond second (cond leap 29 28) (cond short 30 31) ≤ 31
    by true true short = omega arith
    by true false short = omega arith
    by false leap true = omega arith
    by false leap false = omega arith

-- The text of a moment writes it.
read_back : (m : Moment) → IsMoment m → moment_in (iso_text m) ≡ m
read_back m h =
    rw (
      four_back m.year (omega (arith, ints, h.0.1.0.1)),
      two_back m.month (omega (arith, h.0.1.1.1)),
      two_back m.day (omega (arith, h.0.1.2.1, most_days (pos m.year) m.month)),
      two_back m.hour (omega (arith, h.1.0)),
      two_back m.minute (omega (arith, h.1.1)),
      two_back m.second (omega (arith, h.1.2)),
    ) refl

at_most : (a b : ℕ) → Decides (leb a b) (a ≤ b)
at_most a b = (λ e. grind (arith, nat_tests), λ h. grind (arith, nat_tests))

known_year : (y : ℕ) → y ≤ 9999 → IsYear (pos y)
known_year y h = (omega (arith, ints), omega (arith, ints))

-- The test of a moment tells whether it is one.
told : (m : Moment) → Decides (is_moment m) (IsMoment m)
told m =
    let year = Decides-and _ _ (at_most 1 m.year) (at_most m.year 9999) in
    let month = Decides-and _ _ (Decides-and _ _ year (at_most 1 m.month)) (at_most m.month 12) in
    let day = Decides-and _ _ (Decides-and _ _ month (at_most 1 m.day)) (at_most m.day (days_in_month (pos m.year) m.month)) in
    let minute = Decides-and _ _ (Decides-and _ _ day (Decides-ltb m.hour 24)) (Decides-ltb m.minute 60) in
    let all = Decides-and _ _ minute (Decides-ltb m.second 60) in (
      λ e. let p = all.0 e in (
        (p.0.0.0.0.0.0.0.0, (known_year m.year p.0.0.0.0.0.0.0.1, (p.0.0.0.0.0.0.1, p.0.0.0.0.0.1), (p.0.0.0.0.1, p.0.0.0.1))),
        (p.0.0.1, p.0.1, p.1),
      ),
      λ h. all.1 ((((((((h.0.0, omega (arith, ints, h.0.1.0.1)), h.0.1.1.0), h.0.1.1.1), h.0.1.2.0), h.0.1.2.1), h.1.0), h.1.1), h.1.2),
    )

-- What a text says whose digits are those of a moment.
abbrev said_by : List ℕ → Moment → Option ℕ
said_by text m = cond (bytes_eq text (iso_text m) && is_moment m) (Some (seconds_of m)) None

-- The test of a text and a moment.
spells : (text : List ℕ) (m : Moment) → Decides (bytes_eq text (iso_text m) && is_moment m) ((text ≡ iso_text m) × IsMoment m)
spells text m = Decides-and (bytes_eq text (iso_text m)) (is_moment m) (bytes_eq-Decides text (iso_text m)) (told m)

read_so : (text : List ℕ) → iso_time text ≡ said_by text (moment_in text)
unfolding iso_time
read_so text = refl

pub iso_found : (r : Option ℕ) (text : List ℕ) → MatchOption r ((seconds : ℕ) → ¬ (IsIso text seconds)) (IsIso text) → r ≡ iso_time text
iso_found None text h =
    let m = moment_in text in
    let no = false_from_ne_true _ (λ yes. (let is = (spells text m).0 yes in h (seconds_of m) (record { moment = m; real = is.1; spelling = is.0; counted = refl }))) in
    sym (read_so text ∙ ap (λ (b : Bool). cond b (Some (seconds_of m)) None) no)
iso_found (Some seconds) text h =
    let back : moment_in text ≡ h.moment = ap moment_in h.spelling ∙ read_back h.moment h.real in
    ap Some h.counted
    ∙ sym (read_so text ∙ ap (said_by text) back ∙ ap (λ (b : Bool). cond b (Some (seconds_of h.moment)) None) ((spells text h.moment).1 (h.spelling, h.real)))
