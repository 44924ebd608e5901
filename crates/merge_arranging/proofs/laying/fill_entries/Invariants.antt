use Rattle.std.proofs.Common.{◌≡◌, Option, drop}
use Rattle.std.specs.FinMap.{empty, get, keys}
use Rattle.vault_model.specs.Db.{NodeId}
use Rattle.vault_model.specs.Shape.{EntryRecord, stay_in, record_of, versions_in}
use Rattle.merge_tables.specs.Databases.{database}
use Rattle.merge_tables.proofs.FillTables.{fill}
use Rattle.merge_arranging.proofs.laying.fill_entries.Given as goal

abbrev pub invariant-loop-id : goal.invariant-loop-id
invariant-loop-id l =
    let value : NodeId → Option EntryRecord = λ u. record_of (stay_in (database l.laid) u) (versions_in (get l.laid.entries u)) in
    fill value empty (keys l.laid.entries) ≡ fill value l.entries (drop l.id-index l.ids)
