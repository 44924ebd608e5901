use Rattle.std.proofs.Common.{◌≡◌, drop}
use Rattle.vault_model.specs.Join.{stats_join}
use Rattle.vault_model.specs.Unite.{unite}
use Rattle.vault_model.proofs.Orders.{mark_order}
use Rattle.merge_tables.proofs.UniteMaps.{unite_rows}
use Rattle.merge_tables.proofs.versions.VersionTable.add_all.Given as goal

abbrev pub invariant-loop-mark : goal.invariant-loop-mark
invariant-loop-mark l =
    unite stats_join (unite_rows mark_order.total mark_order.same stats_join (drop l.mark-index l.mark-items)) l.self ≡ unite stats_join l.more l.fn.self
