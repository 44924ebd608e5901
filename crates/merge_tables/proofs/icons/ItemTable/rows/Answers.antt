use Rattle.std.proofs.Common.{ap, sym, ◌∙◌}
use Rattle.std.specs.FinMap.{entries, entries-from_sorted}
use Rattle.vault_model.specs.Orders.{bytes_cmp}
use Rattle.merge_tables.proofs.icons.ItemTable.rows.Goals as goal

pub returns : goal.returns
returns c = c.as_slice.ensures.value ∙ sym (entries-from_sorted bytes_cmp c.self.inside.rows.items c.self.invariant) ∙ ap entries c.self.view_is
