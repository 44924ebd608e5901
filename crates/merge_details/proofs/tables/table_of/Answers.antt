use Rattle.std.proofs.Common.{ap, sym, ◌∙◌}
use Rattle.std.specs.FinMap.{FinMap}
use Rattle.vault_model.specs.Db.{id_cmp}
use Rattle.merge_details.proofs.Rows.{onto, onto_last, onto_none}
use Rattle.merge_details.proofs.tables.table_of.Goals as goal

pub loop-id-init : goal.loop-id-init
loop-id-init g c =
    ap (λ (m : FinMap id_cmp g.row.X.Denot). onto c.args.rows.items m) c.new-table.ensures ∙ onto_none c.args.rows.items

pub loop-id-preserved : goal.loop-id-preserved
loop-id-preserved g c =
    sym (onto_last c.loop-id.rows.items c.pop.new.self.items _ _ c.loop-id.table c.put.new.self c.in-Some.ensures.items c.in_ok-put.ensures.ok)
    ∙ c.loop-id.invariant
