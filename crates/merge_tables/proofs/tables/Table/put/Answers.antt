use Rattle.std.proofs.Common.{ap, ◌∙◌}
use Rattle.std.specs.FinMap.{FinMap, insert}
use Rattle.vault_model.specs.Db.{id_cmp}
use Rattle.merge_tables.proofs.TreeMaps.{one_put}
use Rattle.merge_tables.proofs.tables.Table.put.Goals as goal

pub returns-clause-ok : goal.returns-clause-ok
returns-clause-ok g c =
    one_put c.self.inside.rows.entries c.insert.new.self.entries c.args.id c.args.value c.in_ok-insert.ensures.updates.0
    ∙ ap (λ (m : FinMap id_cmp g.row.X.Denot). insert m c.args.id c.args.value) c.self.view_is
