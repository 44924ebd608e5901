use Rattle.std.proofs.Common.{ap, ◌∙◌}
use Rattle.vault_model.specs.declared.contents.Item.{Item}
use Rattle.std.specs.FinMap.{FinMap, from_sorted, insert}
use Rattle.vault_model.specs.Orders.{bytes_cmp}
use Rattle.vault_model.proofs.Orders.{bytes_order}
use Rattle.merge_tables.proofs.PutRows.{sorted_put}
use Rattle.merge_tables.proofs.icons.ItemTable.put.Goals as goal

pub invariant_of-self : goal.invariant_of-self
invariant_of-self c = c.put.ensures.sorted c.self.invariant

pub returns-clause-ok : goal.returns-clause-ok
returns-clause-ok c =
    ap from_sorted c.in_ok-put.ensures.ok
    ∙ sorted_put bytes_order.total c.args.key c.args.item c.self.inside.rows.items c.self.invariant
    ∙ ap (λ (m : FinMap bytes_cmp Item). insert m c.args.key c.args.item) c.self.view_is
