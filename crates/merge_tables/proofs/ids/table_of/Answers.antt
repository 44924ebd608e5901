-- The ids that are put so far, and those that are left.
use Rattle.std.proofs.Common.{◌<◌, ◌+◌, ◌||◌, List, length, drop, is_some, arith, ap, sym, ◌∙◌}
use Rattle.std.specs.FinMap.{contains_key, get-empty}
use Rattle.std.specs.List.{list_any}
use Rattle.vault_model.specs.Db.{NodeId, id_cmp}
use Rattle.vault_model.specs.Join.{is_id}
use Rattle.merge_tables.proofs.IdSets.{has_put, one_more}
use Rattle.merge_tables.proofs.ListSteps.{drop_next}
use Rattle.merge_tables.proofs.ids.table_of.Goals as goal

pub loop-id-init : goal.loop-id-init
loop-id-init c u = ap (λ b. b || list_any (is_id u) c.args.ids.now) (ap (λ t. contains_key t u) c.new-has.ensures ∙ ap is_some (get-empty id_cmp u))

pub loop-id-preserved : goal.loop-id-preserved
loop-id-preserved c u =
    let ids = c.args.ids.now in
    let i = c.loop-id.id-index in
    let id = c.id-item.result in
    let t = c.loop-id.has in
    let rest = list_any (is_id u) (drop (i + 1) ids) in
    let lt : i < length ids = omega arith in
    ap (λ b. b || rest) (ap (λ t. contains_key t u) c.in_ok-put.ensures.ok ∙ has_put t id _ u)
    ∙ one_more (is_id u id) (contains_key t u) rest (list_any (is_id u) ids)
    (sym (ap (λ (us : List NodeId). contains_key t u || list_any (is_id u) us) (drop_next ids i id lt c.id-item.is)) ∙ c.loop-id.invariant u)
