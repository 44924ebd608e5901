use Rattle.std.proofs.Common.{◌≡◌, Bor, List, ℕ, map, take}
use Rattle.csv.specs.Records.{fields_of}
use Rattle.table_reading.specs.Columns.{place_of}
use Rattle.table_reading.proofs.columns.place_of.Given as goal

-- the place of the last of the columns so far
abbrev pub invariant-loop-at : goal.invariant-loop-at
invariant-loop-at l = l.place ≡ place_of (map (λ (name : Bor (List ℕ)). name.now) l.names) (take l.at (fields_of l.row))
