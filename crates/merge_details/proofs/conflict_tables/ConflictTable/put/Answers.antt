use Rattle.std.proofs.Common.{ap, ◌∙◌}
use Rattle.std.specs.FinMap.{FinMap, insert}
use Rattle.vault_model.proofs.Orders.{bytes_order, id_order, pairs_order}
use Rattle.merge_details.specs.Conflicts.{key_cmp}
use Rattle.merge_details.specs.declared.conflict_tables.ConflictTimes.{ConflictTimes}
use Rattle.merge_details.proofs.KeyMaps.{one_put}
use Rattle.merge_details.proofs.conflict_tables.ConflictTable.put.Goals as goal

pub returns : goal.returns
returns c =
    one_put (pairs_order bytes_order id_order) c.self.inside.rows.entries c.insert.new.self.entries c.args.key c.args.times c.in_ok-insert.ensures.updates.0
    ∙ ap (λ (m : FinMap key_cmp ConflictTimes). insert m c.args.key c.args.times) c.self.view_is
