use Rattle.std.proofs.Common.{◌≡◌, ◌++◌, map, List, ℕ}
use Rattle.std.specs.FinMap.{keys}
use Rattle.merge_tables.proofs.ids.push_ids.Given as goal

abbrev pub invariant-loop-id : goal.invariant-loop-id
invariant-loop-id g l = l.fn.ids.items ++ keys l.fn.from ≡ l.ids.items ++ map (λ (e : List ℕ × g.row.X.Denot). e.0) l.id-iterator
