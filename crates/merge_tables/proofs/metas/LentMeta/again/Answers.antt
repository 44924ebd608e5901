-- Everything is added to nothing.
use Rattle.std.proofs.Common.{ap, ◌∙◌}
use Rattle.vault_model.specs.Orders.{icon_cmp, later_item_cmp}
use Rattle.vault_model.specs.Unite.{greater, unite}
use Rattle.vault_model.proofs.Orders.{bytes_order, id_order}
use Rattle.merge_tables.specs.Databases.{shared_meta}
use Rattle.merge_tables.proofs.UniteMaps.{unite_with_none}
use Rattle.merge_tables.proofs.metas.LentMeta.again.Goals as goal

pub returns : goal.returns
returns c =
    let icons =
    c.in_ok-add_icons.ensures
    ∙ ap (unite (greater icon_cmp) c.args.self.now.icons) c.new-icons.ensures
    ∙ unite_with_none id_order.total id_order.same (greater icon_cmp) c.args.self.now.icons
    in
    let items =
    c.in_ok-add_all.ensures
    ∙ ap (unite (greater later_item_cmp) c.args.self.now.items) c.new-items.ensures
    ∙ unite_with_none bytes_order.total bytes_order.same (greater later_item_cmp) c.args.self.now.items
    in
    λ i. record (shared_meta c.args.self.now) { icons = icons i; items = items i }
