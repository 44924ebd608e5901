-- The day's number counts the days before it, and the time of day the rest.
use Rattle.std.proofs.Common.{FitsSigned, arith, rules, ◌∙◌, w8}
use Rattle.std.proofs.lemmas.Int.{to_z-of_z}
use Rattle.time_core.proofs.Moments.{days_before-parts}
use Rattle.time_core.proofs.iso.moment_of.Goals as goal
use mir.Syntax.{w16}

pub returns-clause-counted : goal.returns-clause-counted
returns-clause-counted c =
    let day = c.day_after-day in
    let year_fits : FitsSigned w16 c.year.result = search rules in
    let month_fits : FitsSigned w8 c.month.result = search rules in
    let day_fits : FitsSigned w8 c.day.result = search rules in
    let year = to_z-of_z w16 c.year.result year_fits ∙ c.year.ensures in
    let month = to_z-of_z w8 c.month.result month_fits ∙ c.month.ensures in
    let number = to_z-of_z w8 c.day.result day_fits ∙ c.day.ensures in
    let days = days_before-parts day.result _ _ _ _ day.ensures.number day.ensures.year year month number in
    omega (arith, days, c.seconds-seconds.ensures.value)
