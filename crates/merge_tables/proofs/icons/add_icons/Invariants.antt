use Rattle.std.proofs.Common.{◌≡◌}
use Rattle.vault_model.specs.Orders.{icon_cmp}
use Rattle.vault_model.specs.Unite.{greater, unite}
use Rattle.vault_model.proofs.Orders.{id_order}
use Rattle.merge_tables.proofs.UniteMaps.{unite_rows}
use Rattle.merge_tables.proofs.icons.add_icons.Given as goal

abbrev pub invariant-loop-id : goal.invariant-loop-id
invariant-loop-id l =
    unite (greater icon_cmp) (unite_rows id_order.total id_order.same (greater icon_cmp) l.id-iterator) l.icons ≡ unite (greater icon_cmp) l.more l.fn.icons
