use Rattle.std.proofs.Common.{◌≡◌, max, map, drop}
use Rattle.std.specs.FinMap.{keys}
use Rattle.vault_model.specs.declared.contents.Stats.{Stats}
use Rattle.vault_model.specs.Db.{Mark, greatest}
use Rattle.merge_tables.proofs.versions.VersionTable.newest.Given as goal

abbrev pub invariant-loop-mark : goal.invariant-loop-mark
invariant-loop-mark l =
    greatest (map (λ (m : Mark). m.modified) (keys l.self))
    ≡ max l.newest (greatest (map (λ (m : Mark). m.modified) (map (λ (e : Mark × Stats). e.0) (drop l.mark-index l.mark-items))))
