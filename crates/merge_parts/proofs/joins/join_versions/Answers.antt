-- The versions of one more member, added to those so far or to none.
use Rattle.std.proofs.Common.{Some, ap, sym, ◌∙◌}
use Rattle.std.specs.Option.{option_copied}
use Rattle.vault_model.specs.Join.{stats_join}
use Rattle.vault_model.specs.Unite.{join_options, unite}
use Rattle.vault_model.proofs.Orders.{mark_order}
use Rattle.merge_parts.proofs.GatherMembers.{merge_in, merge_first}
use Rattle.merge_parts.proofs.joins.join_versions.Goals as goal
use Rattle.merge_parts.proofs.joins.join_versions.Goals.{in-Some-so_far, in-None}

pub returns-in-Ok : goal.returns-in-Ok
returns-in-Ok c =
    (elim c.match-so_far.branch [
      | in-Some-so_far w ↦
          merge_in mark_order.total mark_order.same stats_join c.in-Some.more.now c.match-so_far.all c.add_all.new.self c.args.so_far
          c.in-Ok.ensures (w.in-Some-so_far.is ∙ ap Some (sym w.all-is))
      | in-None w ↦
          merge_first mark_order.total mark_order.same stats_join c.in-Some.more.now c.match-so_far.all c.add_all.new.self c.args.so_far
          c.in-Ok.ensures w.in-None.is (w.all-is ∙ w.new-all.ensures)
    ])
    ∙ ap (λ o. join_options (unite stats_join) (option_copied o) c.args.so_far) (sym c.in-Some.is)
