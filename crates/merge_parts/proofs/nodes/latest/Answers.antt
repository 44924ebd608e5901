-- The greatest so far takes in the next.
use Rattle.std.proofs.Common.{◌<◌, ◌+◌, List, length, drop, arith, ap, sym, ◌∙◌}
use Rattle.std.specs.FinMap.{get}
use Rattle.vault_model.specs.Db.{place_cmp}
use Rattle.vault_model.specs.Join.{latest}
use Rattle.vault_model.specs.Unite.{greater, join_options}
use Rattle.merge_core.proofs.Joins.{places_joins}
use Rattle.merge_tables.specs.declared.databases.Database.{Database}
use Rattle.merge_tables.specs.Databases.{databases}
use Rattle.merge_parts.proofs.GatherMembers.{gather_next}
use Rattle.merge_tables.proofs.ListSteps.{drop_next}
use Rattle.merge_parts.proofs.nodes.latest.Goals as goal

pub loop-member-preserved : goal.loop-member-preserved
loop-member-preserved c =
    let members = c.args.members.now in
    let id = c.args.id.now in
    let i = c.loop-member.member-index in
    let m = c.member-item.result in
    let best = c.loop-member.best in
    let lt : i < length members = omega arith in
    let rest = latest (databases (drop (i + 1) members)) id in
    c.loop-member.invariant
    ∙ ap (λ (ms : List Database). join_options (greater place_cmp) best (latest (databases ms) id)) (drop_next members i m lt c.member-item.is)
    ∙ gather_next places_joins best (get m.places id) rest
    ∙ ap (λ b. join_options (greater place_cmp) b rest) (sym (c.later_placement-best.ensures ∙ ap (λ b. join_options (greater place_cmp) b best) (c.copied.ensures ∙ c.get.ensures)))
