-- The distance from 0001-01-01 is the days before the day, and a date that the library has is in the calendar.
use Rattle.std.proofs.Common.{◌≡◌, ℕ, ◌<◌, ◌≤◌, ℤ, pos, ◌-ℤ◌, refl, ◌∙◌, arith, w8, w32, of_z, to_z}
use Rattle.std.proofs.lemmas.Int.{to_z_pos}
use Rattle.jiff_core.proofs.SignedLemmas.{back_small}
use Rattle.jiff_core.specs.Date.{epoch_day, IsYmd}
use Rattle.jiff_core.specs.declared.civil.date.Date.{Date}
use Rattle.time_core.specs.Times.{IsDay, days_before}
use Rattle.time_core.proofs.Moments.{days_before_bound, until_date}
use Rattle.time_core.proofs.iso.days_to.Goals as goal
use mir.Syntax.{w16}

-- what the distance of a date from 0001-01-01 is, as it is returned
distance : (first date : Date) (y m d : ℕ) (until : ℤ) → IsYmd (pos 1) (pos 1) (pos 1) first → IsYmd (to_z w16 y) (to_z w8 m) (to_z w8 d) date → 1 ≤ y → y < 10000 → m < 100 → d < 100 → until ≡ epoch_day date -ℤ epoch_day first → IsDay y m d × (days_before y m d ≤ 3_652_058) × (to_z w32 (of_z w32 until) ≡ pos (days_before y m d))
distance first date y m d until f h low years months days e =
    let parts : IsYmd (pos y) (pos m) (pos d) date = (
      h.0 ∙ to_z_pos w16 y (omega arith),
      h.1 ∙ to_z_pos w8 m (omega arith),
      h.2 ∙ to_z_pos w8 d (omega arith),
    ) in
    let found = until_date first date y m d f parts low in
    let bound = days_before_bound y m d found.0 in
    let number : until ≡ pos (days_before y m d) = e ∙ found.1 in
    (found.0, bound, rw number (back_small w32 (pos (days_before y m d)) (omega (arith, bound))))

pub overflow_cast-result : goal.overflow_cast-result
overflow_cast-result c =
    let apart = rw (c.to_plain-2.ensures, c.to_plain.ensures) at c.until.ensures.value in
    let found = distance c.first_day.result c.in-Ok.date c.args.year c.args.month c.args.day c.until.result c.first_day.ensures c.in-Ok.ensures.value (omega arith) c.requires.year c.requires.month c.requires.day apart in
    rw found.2 (tt, omega (arith, found.1))

pub returns : goal.returns
returns c =
    let apart = rw (c.to_plain-2.ensures, c.to_plain.ensures) at c.until.ensures.value in
    let found = distance c.first_day.result c.in-Ok.date c.args.year c.args.month c.args.day c.until.result c.first_day.ensures c.in-Ok.ensures.value (omega arith) c.requires.year c.requires.month c.requires.day apart in
    (found.0, rw found.2 refl)
