-- What is put is the later of the value and of what stood at its key.
use Rattle.std.proofs.Common.{List, ℕ, ap, ◌∙◌}
use Rattle.std.specs.FinMap.{insert}
use Rattle.vault_model.specs.Orders.{later_item_cmp}
use Rattle.vault_model.specs.Unite.{greater}
use Rattle.vault_model.proofs.Orders.{bytes_order}
use Rattle.merge_tables.proofs.UniteMaps.{join_with, add_one}
use Rattle.merge_tables.proofs.icons.ItemTable.add.Goals as goal
use Rattle.merge_tables.proofs.icons.ItemTable.add.Goals.{in-Some, in-None}

pub returns : goal.returns
returns c =
    c.in_ok-put.ensures.ok
    ∙ ap (λ (k : List ℕ). insert c.args.self.now k c.match-get.joined) c.again-name.ensures
    ∙ ap (insert c.args.self.now c.args.key.now) (elim c.match-get.branch [
      | in-Some w ↦ w.joined-is ∙ w.later-joined.ensures ∙ ap (join_with (greater later_item_cmp) c.args.item.now) w.in-Some.ensures
      | in-None w ↦ w.joined-is ∙ w.again-joined.ensures ∙ ap (join_with (greater later_item_cmp) c.args.item.now) w.in-None.ensures
    ])
    ∙ add_one bytes_order.total bytes_order.same (greater later_item_cmp) c.args.self.now c.args.key.now c.args.item.now
