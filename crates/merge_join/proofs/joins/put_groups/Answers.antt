-- Filled at each known id, the table is that of the join.
use Rattle.std.proofs.Common.{◌≤◌, length, arith, ap, sym, ◌∙◌}
use Rattle.std.specs.FinMap.{get}
use Rattle.vault_model.specs.Join.{join}
use Rattle.merge_tables.specs.Databases.{databases}
use Rattle.merge_tables.proofs.FillTables.{fill, fill_whole}
use Rattle.merge_tables.proofs.ListSteps.{drop_end}
use Rattle.merge_parts.proofs.JoinKnown.{groups_known}
use Rattle.merge_join.proofs.joins.put_groups.Goals as goal

pub returns : goal.returns
returns c =
    let S = databases c.args.members.now in
    let J = (join S).groups in
    let known = c.args.known.now in
    let end : length known ≤ c.loop-id.id-index = omega arith in
    sym (ap (fill (get J) c.loop-id.groups) (drop_end known c.loop-id.id-index end))
    ∙ sym c.loop-id.invariant
    ∙ fill_whole J known (λ q h. groups_known S q (sym (c.requires.known q) ∙ h))
