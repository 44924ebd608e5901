-- One more node of the trail.
use Rattle.std.proofs.Common.{◌-◌, ◌∷◌, [], ◌++◌, List, append_assoc, sym, ap, ◌∙◌}
use Rattle.vault_model.specs.Db.{NodeId}
use Rattle.vault_model.specs.Join.{above, trail}
use Rattle.merge_tables.specs.Databases.{databases}
use Rattle.merge_join.proofs.MergeParts.Trails.{trail_more}
use Rattle.merge_checks.proofs.cycles.push_trail.Goals as goal

pub loop-left-preserved : goal.loop-left-preserved
loop-left-preserved c =
    let S = databases c.args.copies.now in
    let n = c.loop-left.left in
    let at = c.loop-left.at in
    let so_far = c.loop-left.nodes.items in
    c.loop-left.invariant
    ∙ ap (λ (us : List NodeId). so_far ++ us) (trail_more S n at c.loop-left-test.true)
    ∙ sym (append_assoc so_far (at ∷ []) (trail S (n - 1) (above S at)))
    ∙ (λ i. (sym c.in_ok-push.ensures.items) i ++ trail S (n - 1) ((sym c.above-at.ensures) i))
