use Rattle.std.proofs.Common.{ap, sym, ◌∙◌}
use Rattle.std.specs.FinMap.{FinMap, get, remove}
use Rattle.vault_model.specs.Db.{id_cmp}
use Rattle.merge_tables.proofs.TreeMaps.{get_id, one_gone}
use Rattle.merge_tables.proofs.tables.Table.remove.Goals as goal

pub returns-clause-removed : goal.returns-clause-removed
returns-clause-removed g c =
    one_gone c.self.inside.rows.entries c.remove.new.self.entries c.args.id.now c.remove.ensures.updates.0
    ∙ ap (λ (m : FinMap id_cmp g.row.X.Denot). remove m c.args.id.now) c.self.view_is

pub returns-clause-taken : goal.returns-clause-taken
returns-clause-taken g c =
    c.remove.ensures.value ∙ sym (get_id c.self.inside.rows.entries c.args.id.now)
    ∙ ap (λ (m : FinMap id_cmp g.row.X.Denot). get m c.args.id.now) c.self.view_is
