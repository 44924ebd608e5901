use Rattle.std.proofs.Common.{ap, sym, ◌∙◌}
use Rattle.vault_model.specs.declared.contents.Item.{Item}
use Rattle.std.specs.FinMap.{FinMap, get, find, get-from_sorted}
use Rattle.vault_model.specs.Orders.{bytes_cmp}
use Rattle.merge_tables.proofs.icons.ItemTable.get.Goals as goal

pub returns : goal.returns
returns c =
    c.find.ensures ∙ ap (find bytes_cmp c.args.key.now) c.as_slice.ensures.value
    ∙ sym (get-from_sorted bytes_cmp c.self.inside.rows.items c.args.key.now c.self.invariant)
    ∙ ap (λ (m : FinMap bytes_cmp Item). get m c.args.key.now) c.self.view_is
