-- One child more is built, and what is built is the tree.
use Rattle.std.proofs.Common.{◌<◌, ◌≤◌, ◌+◌, ◌-◌, ◌++◌, List, map, length, drop, arith, ap, sym, ◌∙◌}
use Rattle.vault_model.specs.Db.{NodeId}
use Rattle.vault_model.specs.SeenNodes.{tree_seen}
use Rattle.vault_model.specs.Tree.{with_records}
use Rattle.merge_nodes.specs.Shapes.{shape}
use Rattle.merge_tables.proofs.ListSteps.{drop_next}
use Rattle.merge_building.proofs.BuiltTrees.{built, built_last, child_absent, child_built, children_built, trees}
use Rattle.merge_building.proofs.building.+group_at.Goals as goal
use Rattle.merge_building.proofs.building.+group_at.Goals.{in-Some+in_ok-made+in_ok-put_last, in_default, then-levels-gt0+else-loop-child-test, else-levels-gt0}

pub loop-child-preserved : goal.loop-child-preserved
loop-child-preserved t c =
    let s = shape c.args.from.now in
    let n = c.args.levels - 1 in
    let items = c.groups_of-child-items.result.now in
    let i = c.loop-child.child-index in
    let u = c.child-item.result in
    let lt : i < length items = omega arith in
    let before = ap (λ (us : List NodeId). map tree_seen c.loop-child.groups ++ trees s n us) (sym (drop_next items i u lt c.child-item.is)) ∙ c.loop-child.invariant in
    elim c.match-get.branch [
      | in-Some+in_ok-made+in_ok-put_last w ↦
          child_built s n c.loop-child.groups c.match-get.groups w.in_ok-made.made u w.in-Some.below.now (drop (i + 1) items) items
          (w.groups-is ∙ w.in_ok-put_last.ensures) w.in_ok-made.ensures (sym w.in-Some.ensures) before
      | in_default w ↦
          child_absent s n c.loop-child.groups c.match-get.groups u (drop (i + 1) items) items w.groups-is (sym w.in_default.ensures) before
    ]

pub returns : goal.returns
returns t c =
    let s = shape c.args.from.now in
    let es = c.in_ok-entries.ensures ∙ ap (with_records s.entries) c.entries_of.ensures in
    elim c.if-levels-gt0.branch [
      | then-levels-gt0+else-loop-child-test w ↦
          let items = w.groups_of-child-items.result.now in
          let end : length items ≤ w.loop-child.child-index = omega arith in
          built s c.args.levels _ c.args.row.now w.if-levels-gt0.true
          (λ i. record { placed = ((c.stay.view_is ∙ c.stay-stay.ensures) i).placed; previous = ((c.stay.view_is ∙ c.stay-stay.ensures) i).previous; state = (c.in_ok-state.ensures ∙ c.state.ensures) i; view = c.view.ensures i }) es
          (ap (map tree_seen) w.groups-is
          ∙ children_built s (c.args.levels - 1) w.loop-child.child-index w.loop-child.groups items end w.loop-child.invariant
          ∙ ap (trees s (c.args.levels - 1)) w.groups_of-child-items.ensures)
      | else-levels-gt0 w ↦
          built_last s c.args.levels _ c.args.row.now w.if-levels-gt0.false
          (λ i. record { placed = ((c.stay.view_is ∙ c.stay-stay.ensures) i).placed; previous = ((c.stay.view_is ∙ c.stay-stay.ensures) i).previous; state = (c.in_ok-state.ensures ∙ c.state.ensures) i; view = c.view.ensures i }) es
          (w.groups-is ∙ c.new-groups.ensures)
    ]
