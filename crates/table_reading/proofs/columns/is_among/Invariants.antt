use Rattle.std.proofs.Common.{◌≡◌, Bor, List, ℕ, drop, map}
use Rattle.table_reading.specs.Columns.{is_among}
use Rattle.table_reading.proofs.columns.is_among.Given as goal

-- none of the names so far is the column's
abbrev pub invariant-loop-name : goal.invariant-loop-name
invariant-loop-name l = is_among (map (λ (name : Bor (List ℕ)). name.now) (drop l.name-index l.names)) l.column ≡ is_among (map (λ (name : Bor (List ℕ)). name.now) l.names) l.column
