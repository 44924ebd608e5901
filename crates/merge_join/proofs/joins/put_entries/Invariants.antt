use Rattle.std.proofs.Common.{◌≡◌, drop}
use Rattle.std.specs.FinMap.{empty, get}
use Rattle.vault_model.specs.Join.{join}
use Rattle.merge_tables.specs.Databases.{databases}
use Rattle.merge_tables.proofs.FillTables.{fill}
use Rattle.merge_join.proofs.joins.put_entries.Given as goal

abbrev pub invariant-loop-id : goal.invariant-loop-id
invariant-loop-id l =
    let J = (join (databases l.members)).entries in fill (get J) empty l.known ≡ fill (get J) l.entries (drop l.id-index l.known)
