use Rattle.std.proofs.Common.{◌≡◌, drop}
use Rattle.std.specs.FinMap.{empty, get, keys}
use Rattle.merge_tables.proofs.FillTables.{fill}
use Rattle.merge_arranging.proofs.laying.fill_tombs.Given as goal

abbrev pub invariant-loop-id : goal.invariant-loop-id
invariant-loop-id l = fill (get l.tombs) empty (keys l.tombs) ≡ fill (get l.tombs) l.same (drop l.id-index l.ids)
