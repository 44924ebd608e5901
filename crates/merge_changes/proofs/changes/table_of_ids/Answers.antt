-- Filled at each id, the table has just these.
use Rattle.std.proofs.Common.{◌≤◌, Bool, true, Option, Some, length, arith, ap, sym, ◌∙◌}
use Rattle.vault_model.specs.Db.{NodeId}
use Rattle.merge_tables.proofs.FillTables.{fill, fill_tabulate}
use Rattle.merge_tables.proofs.ListSteps.{drop_end}
use Rattle.merge_changes.proofs.changes.table_of_ids.Goals as goal

pub returns : goal.returns
returns c =
    let value : NodeId → Option Bool = λ u. Some true in
    let ids = c.args.ids.now in
    let end : length ids ≤ c.loop-id.id-index = omega arith in
    sym (ap (fill value c.loop-id.table) (drop_end ids c.loop-id.id-index end))
    ∙ sym c.loop-id.invariant
    ∙ fill_tabulate value ids
