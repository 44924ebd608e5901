-- What is put is the version joined with what stood at its mark.
use Rattle.std.proofs.Common.{ap, ◌∙◌}
use Rattle.std.specs.FinMap.{insert}
use Rattle.vault_model.specs.Join.{stats_join}
use Rattle.vault_model.proofs.Orders.{mark_order}
use Rattle.merge_tables.proofs.UniteMaps.{join_with, add_one}
use Rattle.merge_tables.proofs.versions.VersionTable.add.Goals as goal
use Rattle.merge_tables.proofs.versions.VersionTable.add.Goals.{in-Some, in-None}

pub returns-clause-ok : goal.returns-clause-ok
returns-clause-ok c =
    c.in_ok-put.ensures.ok
    ∙ ap (insert c.args.self.now c.args.mark) (elim c.match-get.branch [
      | in-Some w ↦ w.joined-is ∙ w.join_stats-joined.ensures ∙ ap (join_with stats_join c.args.stats) w.in-Some.ensures
      | in-None w ↦ w.joined-is ∙ ap (join_with stats_join c.args.stats) w.in-None.ensures
    ])
    ∙ add_one mark_order.total mark_order.same stats_join c.args.self.now c.args.mark c.args.stats
