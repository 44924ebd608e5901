-- Filled at each id, the table has at each what is said for it.
use Rattle.std.proofs.Common.{◌<◌, ◌≤◌, Option, length, arith, ap, sym, ◌∙◌}
use Rattle.std.specs.FinMap.{get, keys}
use Rattle.std.specs.Option.{option_map}
use Rattle.vault_model.specs.Db.{NodeId}
use Rattle.vault_model.specs.Shape.{GroupRecord, laid_group}
use Rattle.merge_tables.specs.Databases.{database}
use Rattle.merge_nodes.specs.Shapes.{shape}
use Rattle.merge_tables.proofs.FillTables.{fill_tabulate, fill, fill_next}
use Rattle.merge_tables.proofs.ListSteps.{drop_end}
use Rattle.merge_arranging.proofs.laying.fill_groups.Goals as goal

pub loop-id-preserved : goal.loop-id-preserved
loop-id-preserved c =
    let ids = c.args.ids.now in
    let lt : c.loop-id.id-index < length ids = omega arith in
    c.loop-id.invariant
    ∙ fill_next (λ u. option_map (laid_group (database c.args.laid.now) (shape c.args.older.now) u) (get c.args.laid.now.groups u)) c.loop-id.groups c.put_some.new.filled ids c.loop-id.id-index c.id-item.result _ lt c.id-item.is c.in_ok-put_some.ensures c.laid_group_at-group.ensures

pub returns : goal.returns
returns c =
    let m = database c.args.laid.now in
    let value : NodeId → Option GroupRecord = λ u. option_map (laid_group m (shape c.args.older.now) u) (get m.groups u) in
    let ids = c.args.ids.now in
    let end : length ids ≤ c.loop-id.id-index = omega arith in
    sym (ap (fill value c.loop-id.groups) (drop_end ids c.loop-id.id-index end))
    ∙ sym c.loop-id.invariant
    ∙ fill_tabulate value (keys m.groups)
