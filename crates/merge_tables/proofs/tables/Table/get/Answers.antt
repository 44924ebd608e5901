use Rattle.std.proofs.Common.{ap, sym, ◌∙◌}
use Rattle.std.specs.FinMap.{FinMap, get}
use Rattle.vault_model.specs.Db.{id_cmp}
use Rattle.merge_tables.proofs.TreeMaps.{get_id}
use Rattle.merge_tables.proofs.tables.Table.get.Goals as goal

pub returns : goal.returns
returns g c =
    c.get.ensures.value ∙ sym (get_id c.self.inside.rows.entries c.args.id.now)
    ∙ ap (λ (m : FinMap id_cmp g.row.X.Denot). get m c.args.id.now) c.self.view_is
