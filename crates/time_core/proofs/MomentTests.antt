-- The definition of a written time, tried on dates whose seconds python's datetime gives.
use Rattle.std.proofs.Common.{pos, refl, arith, rules, codes}
use Rattle.jiff_core.proofs.MarchLemmas.{day_count-early, day_count-late}
use Rattle.time_core.specs.Times.{IsIso}
use Rattle.time_core.proofs.Moments.{day_count-first}

first_second : IsIso (codes "0001-01-01T00:00:00Z") 0
first_second = record {
  moment = record { year = 1; month = 1; day = 1; hour = 0; minute = 0; second = 0 };
  real = search rules;
  spelling = refl;
  counted = omega (arith, day_count-first);
}

new_year_2024 : IsIso (codes "2024-01-01T00:00:00Z") 63_839_664_000
new_year_2024 = record {
  moment = record { year = 2024; month = 1; day = 1; hour = 0; minute = 0; second = 0 };
  real = search rules;
  spelling = refl;
  counted = omega (arith, day_count-first, day_count-early (pos 2024) 12023 1 1 refl (omega arith) (omega arith) (omega arith));
}

leap_day_2000 : IsIso (codes "2000-02-29T00:00:00Z") 63_087_379_200
leap_day_2000 = record {
  moment = record { year = 2000; month = 2; day = 29; hour = 0; minute = 0; second = 0 };
  real = search rules;
  spelling = refl;
  counted = omega (arith, day_count-first, day_count-early (pos 2000) 11999 2 29 refl (omega arith) (omega arith) (omega arith));
}

last_second : IsIso (codes "9999-12-31T23:59:59Z") 315_537_897_599
last_second = record {
  moment = record { year = 9999; month = 12; day = 31; hour = 23; minute = 59; second = 59 };
  real = search rules;
  spelling = refl;
  counted = omega (arith, day_count-first, day_count-late (pos 9999) 19999 12 31 refl (omega arith) (omega arith) (omega arith));
}
