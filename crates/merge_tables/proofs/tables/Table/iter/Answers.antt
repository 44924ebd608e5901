use Rattle.std.proofs.Common.{ap, sym, ◌∙◌}
use Rattle.std.specs.FinMap.{FinMap, entries}
use Rattle.vault_model.specs.Db.{id_cmp}
use Rattle.merge_tables.proofs.TreeMaps.{entries_of}
use Rattle.merge_tables.proofs.tables.Table.iter.Goals as goal

pub returns : goal.returns
returns g c =
    c.iter.ensures.rest ∙ sym (entries_of c.self.inside.rows.entries c.iter.ensures.ordered)
    ∙ ap (λ (m : FinMap id_cmp g.row.X.Denot). entries m) c.self.view_is
