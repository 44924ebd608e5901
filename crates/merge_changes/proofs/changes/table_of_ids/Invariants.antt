use Rattle.std.proofs.Common.{◌≡◌, Bool, true, Option, Some, drop}
use Rattle.std.specs.FinMap.{empty}
use Rattle.vault_model.specs.Db.{NodeId}
use Rattle.merge_tables.proofs.FillTables.{fill}
use Rattle.merge_changes.proofs.changes.table_of_ids.Given as goal

abbrev pub invariant-loop-id : goal.invariant-loop-id
invariant-loop-id l =
    let value : NodeId → Option Bool = λ u. Some true in fill value empty l.ids ≡ fill value l.table (drop l.id-index l.ids)
