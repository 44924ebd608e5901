-- What was joined so far takes in the next.
use Rattle.std.proofs.Common.{◌<◌, ◌≤◌, ◌+◌, List, Some, length, drop, map, arith, ap, sym, ◌∙◌}
use Rattle.vault_model.specs.Db.{Db, SharedMeta}
use Rattle.vault_model.specs.Join.{meta_join}
use Rattle.vault_model.specs.Unite.{gather, join_options}
use Rattle.merge_core.proofs.Joins.{meta_joins}
use Rattle.merge_tables.specs.declared.databases.Database.{Database}
use Rattle.merge_tables.specs.Databases.{databases, shared_meta}
use Rattle.merge_parts.proofs.GatherMembers.{gather_next}
use Rattle.merge_tables.proofs.ListSteps.{drop_next, drop_end}
use Rattle.merge_parts.proofs.joins.absorb_all.Goals as goal

pub loop-member-preserved : goal.loop-member-preserved
loop-member-preserved c =
    let members = c.args.members.now in
    let i = c.loop-member.member-index in
    let m = c.member-item.result in
    let joined = shared_meta c.loop-member.joined in
    let lt : i < length members = omega arith in
    let rest = gather meta_join (map (λ (n : Db). Some n.meta) (databases (drop (i + 1) members))) in
    c.loop-member.invariant
    ∙ ap (λ (ms : List Database). join_options meta_join (Some joined) (gather meta_join (map (λ (n : Db). Some n.meta) (databases ms)))) (drop_next members i m lt c.member-item.is)
    ∙ gather_next meta_joins (Some joined) (Some (shared_meta m.meta)) rest
    ∙ ap (λ (s : SharedMeta). join_options meta_join (Some s) rest) (sym c.in_ok-absorb.ensures)

pub returns : goal.returns
returns c =
    let members = c.args.members.now in
    let joined = shared_meta c.loop-member.joined in
    let end : length members ≤ c.loop-member.member-index = omega arith in
    sym (c.loop-member.invariant
    ∙ ap (λ (ms : List Database). join_options meta_join (Some joined) (gather meta_join (map (λ (n : Db). Some n.meta) (databases ms)))) (drop_end members c.loop-member.member-index end))
