-- The id that is put comes before those of the rest.
use Rattle.std.proofs.Common.{◌<◌, ◌+◌, ◌++◌, ◌∷◌, [], List, append_assoc, length, drop, map, arith, ap, sym, ◌∙◌}
use Rattle.vault_model.specs.declared.nodes.Group.{Group, out-Group}
use Rattle.vault_model.specs.Db.{NodeId}
use Rattle.vault_model.specs.SeenNodes.{tree_seen}
use Rattle.vault_model.specs.Tree.{all_trees, ids_of}
use Rattle.merge_tables.proofs.ListSteps.{drop_next}
use Rattle.merge_shapes.proofs.SeenNodes.{seen_id}
use Rattle.merge_shapes.proofs.nodes.push_group_ids.Goals as goal

pub loop-group-preserved : goal.loop-group-preserved
loop-group-preserved c =
    let groups = c.args.groups.now in
    let i = c.loop-group.group-index in
    let g = c.group-item.result in
    let before = c.loop-group.ids.items in
    let rest = ids_of (all_trees (map tree_seen (drop (i + 1) groups))) in
    let lt : i < length groups = omega arith in
    ap (λ (us : List NodeId). us ++ rest) c.in_ok-push.ensures.items
    ∙ append_assoc before ((out-Group g).id ∷ []) rest
    ∙ ap (λ (u : NodeId). before ++ u ∷ rest) (sym (seen_id g))
    ∙ ap (λ (gs : List Group). before ++ ids_of (all_trees (map tree_seen gs))) (sym (drop_next groups i g lt c.group-item.is))
    ∙ c.loop-group.invariant
