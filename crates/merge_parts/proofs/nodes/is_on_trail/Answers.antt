-- A step up takes one off what is left of the trail.
use Rattle.std.proofs.Common.{◌-◌, arith, sym, ap, ◌∙◌}
use Rattle.std.specs.List.{list_any}
use Rattle.vault_model.specs.Db.{NodeId}
use Rattle.vault_model.specs.Join.{is_id, trail}
use Rattle.merge_tables.specs.Databases.{databases}
use Rattle.merge_parts.proofs.Trails.{trail_here, trail_on, trail_end}
use Rattle.merge_parts.proofs.nodes.is_on_trail.Goals as goal

pub returns-then-is_same : goal.returns-then-is_same
returns-then-is_same c =
    sym (c.loop-left.invariant ∙ trail_here (databases c.args.members.now) c.loop-left.left c.loop-left.at c.args.id.now (sym c.if-is_same.ensures))

pub loop-left-preserved : goal.loop-left-preserved
loop-left-preserved c =
    let S = databases c.args.members.now in
    c.loop-left.invariant
    ∙ trail_on S c.loop-left.left c.loop-left.at c.args.id.now c.loop-left-test.true (sym c.if-is_same.ensures)
    ∙ ap (λ (u : NodeId). list_any (is_id c.args.id.now) (trail S (c.loop-left.left - 1) u)) (sym c.above-at.ensures)

pub returns : goal.returns
returns c =
    c.is_same-2.ensures
    ∙ sym (c.loop-left.invariant ∙ trail_end (databases c.args.members.now) c.loop-left.left c.loop-left.at c.args.id.now (omega arith))
