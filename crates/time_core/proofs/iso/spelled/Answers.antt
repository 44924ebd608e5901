-- The bytes that were read, with the separators between them, are the whole text.
use Rattle.std.proofs.Common.{◌≡◌, ◌+◌, ◌*◌, ◌/◌, ◌%◌, refl, arith}
use Rattle.time_core.proofs.Moments.{spelled_text}
use Rattle.time_core.proofs.iso.spelled.Goals as goal

pub returns : goal.returns
returns c =
    let century = c.in_ok-century.ensures in
    let year = c.in_ok-year.ensures in
    let a = c.in_ok-century.century in
    let b = c.in_ok-year.year in
    let first : (a * 100 + b) / 100 ≡ a = omega (arith, year.0) in
    let last : (a * 100 + b) % 100 ≡ b = omega (arith, year.0) in (
      record {
        year = omega (arith, century.0, year.0);
        month = c.in_ok-month.ensures.0;
        day = c.in_ok-day.ensures.0;
        hour = c.in_ok-hour.ensures.0;
        minute = c.in_ok-minute.ensures.0;
        second = c.in_ok-second.ensures.0;
      },
      spelled_text c.args.text.now _ c.if-text-ne20.false (c.if-not-has_separators.ensures.0 refl)
          (rw first century.1) (rw last year.1) c.in_ok-month.ensures.1 c.in_ok-day.ensures.1
          c.in_ok-hour.ensures.1 c.in_ok-minute.ensures.1 c.in_ok-second.ensures.1,
    )
