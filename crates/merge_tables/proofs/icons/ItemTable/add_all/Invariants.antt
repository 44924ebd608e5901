use Rattle.std.proofs.Common.{◌≡◌, drop}
use Rattle.vault_model.specs.Orders.{later_item_cmp}
use Rattle.vault_model.specs.Unite.{greater, unite}
use Rattle.vault_model.proofs.Orders.{bytes_order}
use Rattle.merge_tables.proofs.UniteMaps.{unite_rows}
use Rattle.merge_tables.proofs.icons.ItemTable.add_all.Given as goal

abbrev pub invariant-loop-key : goal.invariant-loop-key
invariant-loop-key l =
    unite (greater later_item_cmp) (unite_rows bytes_order.total bytes_order.same (greater later_item_cmp) (drop l.key-index l.key-items)) l.self ≡ unite (greater later_item_cmp) l.more l.fn.self
