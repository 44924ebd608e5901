use Rattle.std.proofs.Common.{◌≡◌, Option, drop}
use Rattle.std.specs.FinMap.{empty, get, keys}
use Rattle.std.specs.Option.{option_map}
use Rattle.vault_model.specs.Db.{NodeId}
use Rattle.vault_model.specs.Shape.{GroupRecord, laid_group}
use Rattle.merge_tables.specs.Databases.{database}
use Rattle.merge_nodes.specs.Shapes.{shape}
use Rattle.merge_tables.proofs.FillTables.{fill}
use Rattle.merge_arranging.proofs.laying.fill_groups.Given as goal

abbrev pub invariant-loop-id : goal.invariant-loop-id
invariant-loop-id l =
    let value : NodeId → Option GroupRecord = λ u. option_map (laid_group (database l.laid) (shape l.older) u) (get l.laid.groups u) in
    fill value empty (keys l.laid.groups) ≡ fill value l.groups (drop l.id-index l.ids)
