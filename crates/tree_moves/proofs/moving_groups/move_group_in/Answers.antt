use Rattle.std.proofs.Common.{◌∙◌, [], ap, Some}
use Rattle.vault_model.specs.SeenNodes.{tree_seen}
use Rattle.tree_core.specs.NewNodes.{empty_group}
use Rattle.tree_moves.proofs.GroupChildren.{hole_nil, hole_off, moved_some, place_some}
use Rattle.tree_moves.proofs.moving_groups.move_group_in.Goals as goal

pub move_group_to_place-requires : goal.move_group_to_place-requires
move_group_to_place-requires c =
    let put = rw (c.in-Some-Ok.is ∙ ap Some c.in-Some-Ok.field-0-is) at c.put_group.ensures in
    let hole = c.in_ok-place.ensures ∙ ap (λ v. empty_group v [] c.args.time) c.nil.ensures in
    let off = hole_off c.args.from c.args.id (tree_seen c.args.root.now) (tree_seen c.in_ok-place.place) [] c.args.time c.requires.there c.requires.no_nil hole in
    record {
      there = place_some c.args.from c.args.to c.args.id (tree_seen c.args.root.now) (tree_seen c.in_ok-place.place) (tree_seen c.put_group.new.root) c.requires.other off c.requires.there
          c.requires.outside put;
    }

pub returns-in-Some-Ok : goal.returns-in-Some-Ok
returns-in-Some-Ok c =
    let put = rw (c.in-Some-Ok.is ∙ ap Some c.in-Some-Ok.field-0-is) at c.put_group.ensures in
    let hole = c.in_ok-place.ensures ∙ ap (λ v. empty_group v [] c.args.time) c.nil.ensures in
    let off = hole_off c.args.from c.args.id (tree_seen c.args.root.now) (tree_seen c.in_ok-place.place) [] c.args.time c.requires.there c.requires.no_nil hole in
    moved_some c.args.from c.args.to c.args.id c.args.time (tree_seen c.args.root.now) (tree_seen c.in_ok-place.place) (tree_seen c.put_group.new.root) (tree_seen c.move_group_to_place.new.root)
    c.requires.other off (hole_nil (tree_seen c.in_ok-place.place) [] c.args.time hole) c.requires.goal c.requires.no_nil c.requires.there c.requires.outside put
    c.move_group_to_place.ensures
