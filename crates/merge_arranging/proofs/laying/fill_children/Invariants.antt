use Rattle.std.proofs.Common.{◌≡◌, Option, Some, drop}
use Rattle.std.specs.FinMap.{empty, keys}
use Rattle.vault_model.specs.Db.{NodeId}
use Rattle.vault_model.specs.Shape.{Children, laid_children}
use Rattle.merge_tables.specs.Databases.{database}
use Rattle.merge_nodes.specs.Shapes.{shape}
use Rattle.merge_tables.proofs.FillTables.{fill}
use Rattle.merge_arranging.proofs.laying.fill_children.Given as goal

abbrev pub invariant-loop-id : goal.invariant-loop-id
invariant-loop-id l =
    let value : NodeId → Option Children = λ g. Some (laid_children (database l.laid) (shape l.older) g) in
    fill value empty (keys l.laid.groups) ≡ fill value l.children (drop l.id-index l.ids)
