-- What was put so far takes in the next member's.
use Rattle.std.proofs.Common.{◌<◌, ◌+◌, ◌++◌, List, length, drop, append_assoc, arith, ap, sym, ◌∙◌}
use Rattle.std.specs.FinMap.{keys}
use Rattle.vault_model.specs.Db.{NodeId}
use Rattle.vault_model.specs.Join.{ids}
use Rattle.merge_tables.specs.declared.databases.Database.{Database}
use Rattle.merge_tables.specs.Databases.{databases}
use Rattle.merge_tables.proofs.ListSteps.{drop_next}
use Rattle.merge_parts.proofs.nodes.push_held.Goals as goal

pub loop-member-preserved : goal.loop-member-preserved
loop-member-preserved c =
    let members = c.args.members.now in
    let i = c.loop-member.member-index in
    let m = c.member-item.result in
    let so_far = c.loop-member.held.items in
    let lt : i < length members = omega arith in
    let rest = ids (databases (drop (i + 1) members)) in
    c.loop-member.invariant
    ∙ ap (λ (ms : List Database). so_far ++ ids (databases ms)) (drop_next members i m lt c.member-item.is)
    ∙ sym (append_assoc so_far (keys m.entries ++ keys m.groups) rest)
    ∙ ap (λ (us : List NodeId). us ++ rest) (sym c.in_ok-push_both.ensures)
