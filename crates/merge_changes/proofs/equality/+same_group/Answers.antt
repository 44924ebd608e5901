-- The groups in two groups, side by side.
use Rattle.std.proofs.Common.{◌<◌, ◌≤◌, ◌+◌, ◌&&◌, map, length, drop, arith, ap, sym, ◌∙◌}
use Rattle.vault_model.specs.SeenNodes.{tree_seen}
use Rattle.merge_changes.specs.Equality.{same_all, same_tree}
use Rattle.merge_changes.proofs.SeenGroups.{groups_from}
use Rattle.merge_changes.proofs.Pairs.{done, next}
use Rattle.merge_changes.proofs.equality.+same_group.Goals as goal

pub returns-then-not-same_group : goal.returns-then-not-same_group
returns-then-not-same_group t c =
    let g = c.args.first.now in
    let h = c.args.second.now in
    let xs = c.as_slice-groups.result.now in
    let ys = c.as_slice-others.result.now in
    let i = c.loop-at.at in
    let x = c.index-groups-at.result in
    let y = c.index-others-at.result in
    let one : i < length xs = omega arith in
    let two : i < length ys = omega arith in
    let rest = same_all same_tree (map tree_seen (drop (i + 1) xs)) (map tree_seen (drop (i + 1) ys)) in
    sym
    (groups_from g h c.same_parts.result xs ys (drop i xs) (drop i ys) c.if-not-same_parts.false c.same_parts.ensures c.as_slice-groups.ensures c.as_slice-others.ensures c.loop-at.invariant
    ∙ next same_tree tree_seen xs ys i x y one c.index-groups-at.is two c.index-others-at.is
    ∙ ap (λ b. b && rest) (sym c.same_group.ensures ∙ c.if-not-same_group.true))

pub returns : goal.returns
returns t c =
    let g = c.args.first.now in
    let h = c.args.second.now in
    let xs = c.as_slice-groups.result.now in
    let ys = c.as_slice-others.result.now in
    let i = c.loop-at.at in
    let one : length xs ≤ i = omega arith in
    let two : length ys ≤ i = omega arith in
    sym
    (groups_from g h c.same_parts.result xs ys (drop i xs) (drop i ys) c.if-not-same_parts.false c.same_parts.ensures c.as_slice-groups.ensures c.as_slice-others.ensures c.loop-at.invariant
    ∙ done same_tree tree_seen xs ys i one two)
