-- Codes of conflicts: each is coded as the parts that it is made of.
use Rattle.std.specs.Prelude.{ℕ, List, refl}
use Rattle.std.specs.Coded.{Coded, code_by, coded×, coded_ℕ}
use Rattle.std.specs.FinMap.{FinMap, code}
use Rattle.merge_tables.specs.Codes.{bytes_code}
use Rattle.merge_details.specs.Conflicts.{key_cmp}
use Rattle.merge_details.specs.declared.conflict_tables.ConflictTimes.{ConflictTimes}

-- the times of a conflict
abbrev pub times_code : Coded ConflictTimes
times_code = code_by (ℕ × ℕ) (coded× coded_ℕ coded_ℕ) (λ t. (t.current, t.older))
    (λ p. record { current = p.0; older = p.1 }) (λ _. refl)

-- the conflicts of a merge
abbrev pub conflicts_code : Coded (FinMap key_cmp ConflictTimes)
conflicts_code = code (coded× bytes_code bytes_code) times_code
