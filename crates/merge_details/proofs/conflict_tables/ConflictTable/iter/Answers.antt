use Rattle.std.proofs.Common.{ap, sym, ◌∙◌}
use Rattle.std.specs.FinMap.{FinMap, entries}
use Rattle.vault_model.proofs.Orders.{bytes_order, id_order, pairs_order}
use Rattle.merge_details.specs.Conflicts.{key_cmp}
use Rattle.merge_details.specs.declared.conflict_tables.ConflictTimes.{ConflictTimes}
use Rattle.merge_details.proofs.KeyMaps.{entries_of}
use Rattle.merge_details.proofs.conflict_tables.ConflictTable.iter.Goals as goal

pub returns : goal.returns
returns c =
    c.iter.ensures.rest ∙ sym (entries_of (pairs_order bytes_order id_order) c.self.inside.rows.entries c.iter.ensures.ordered)
    ∙ ap (λ (m : FinMap key_cmp ConflictTimes). entries m) c.self.view_is
