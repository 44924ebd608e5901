-- What was joined so far takes in the next.
use Rattle.std.proofs.Common.{◌<◌, ◌+◌, List, length, drop, map, arith, ap, sym, ◌∙◌}
use Rattle.std.specs.FinMap.{get}
use Rattle.vault_model.specs.Db.{Db}
use Rattle.vault_model.specs.Join.{state_join}
use Rattle.vault_model.specs.Unite.{gather, join_options}
use Rattle.merge_core.proofs.Joins.{state_joins}
use Rattle.merge_tables.specs.declared.databases.Database.{Database}
use Rattle.merge_tables.specs.Databases.{databases}
use Rattle.merge_parts.proofs.GatherMembers.{gather_next}
use Rattle.merge_tables.proofs.ListSteps.{drop_next}
use Rattle.merge_parts.proofs.joins.joined_state.Goals as goal

pub loop-member-preserved : goal.loop-member-preserved
loop-member-preserved c =
    let members = c.args.members.now in
    let id = c.args.id.now in
    let i = c.loop-member.member-index in
    let m = c.member-item.result in
    let joined = c.loop-member.joined in
    let lt : i < length members = omega arith in
    let rest = gather (state_join) (map (λ (n : Db). get n.groups id) (databases (drop (i + 1) members))) in
    c.loop-member.invariant
    ∙ ap (λ (ms : List Database). join_options (state_join) joined (gather (state_join) (map (λ (n : Db). get n.groups id) (databases ms)))) (drop_next members i m lt c.member-item.is)
    ∙ gather_next state_joins joined (get m.groups id) rest
    ∙ ap (λ b. join_options (state_join) b rest) (sym (c.join_state-joined.ensures ∙ ap (λ b. join_options (state_join) b joined) c.get.ensures))
