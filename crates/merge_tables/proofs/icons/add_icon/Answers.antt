-- What is put is the later of the value and of what stood at its key.
use Rattle.std.proofs.Common.{ap, ◌∙◌}
use Rattle.std.specs.FinMap.{insert}
use Rattle.vault_model.specs.Orders.{icon_cmp}
use Rattle.vault_model.specs.Unite.{greater}
use Rattle.vault_model.proofs.Orders.{id_order}
use Rattle.merge_tables.proofs.UniteMaps.{join_with, add_one}
use Rattle.merge_tables.proofs.icons.add_icon.Goals as goal
use Rattle.merge_tables.proofs.icons.add_icon.Goals.{in-Some, in-None}

pub returns : goal.returns
returns c =
    c.in_ok-put.ensures.ok
    ∙ ap (insert c.args.icons.now c.args.id) (elim c.match-get.branch [
      | in-Some w ↦ w.joined-is ∙ w.later-joined.ensures ∙ ap (join_with (greater icon_cmp) c.args.icon.now) w.in-Some.ensures
      | in-None w ↦ w.joined-is ∙ w.again-joined.ensures ∙ ap (join_with (greater icon_cmp) c.args.icon.now) w.in-None.ensures
    ])
    ∙ add_one id_order.total id_order.same (greater icon_cmp) c.args.icons.now c.args.id c.args.icon.now
