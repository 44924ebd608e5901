-- Each day up to the last of the year 9999 is one that the library has, and no such day lies before the year 1.
use Rattle.std.proofs.Common.{w64, ◌∙◌, arith}
use Rattle.std.proofs.lemmas.Int.{to_z_pos}
use Rattle.time_core.proofs.Moments.{can_add-first, date_add-first, year_from_first}
use Rattle.time_core.proofs.iso.day_after.Goals as goal

pub unwrap-requires : goal.unwrap-requires
unwrap-requires c =
    let only = rw (to_z_pos w64 c.args.days (omega arith)) at c.days.ensures in
    c.checked_add.ensures.succeeds.1 (can_add-first c.first_day.result c.args.days c.days.result c.first_day.ensures c.requires only)

pub returns-clause-number : goal.returns-clause-number
returns-clause-number c =
    let only = rw (to_z_pos w64 c.args.days (omega arith)) at c.days.ensures in
    let value = rw c.unwrap.ensures at c.checked_add.ensures.value in
    value ∙ date_add-first c.first_day.result c.args.days c.days.result c.first_day.ensures only

pub returns-clause-year : goal.returns-clause-year
returns-clause-year c = year_from_first c.unwrap.result c.args.days (returns-clause-number c)
