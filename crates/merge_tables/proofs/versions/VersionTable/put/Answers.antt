use Rattle.std.proofs.Common.{ap, ◌∙◌}
use Rattle.std.specs.FinMap.{from_sorted, insert}
use Rattle.vault_model.specs.Db.{Versions}
use Rattle.vault_model.proofs.Orders.{mark_order}
use Rattle.merge_tables.proofs.PutRows.{sorted_put}
use Rattle.merge_tables.proofs.versions.VersionTable.put.Goals as goal

pub invariant_of-self : goal.invariant_of-self
invariant_of-self c = c.put.ensures.sorted c.self.invariant

pub returns-clause-ok : goal.returns-clause-ok
returns-clause-ok c =
    ap from_sorted c.in_ok-put.ensures.ok
    ∙ sorted_put mark_order.total c.args.mark c.args.stats c.self.inside.rows.items c.self.invariant
    ∙ ap (λ (m : Versions). insert m c.args.mark c.args.stats) c.self.view_is
