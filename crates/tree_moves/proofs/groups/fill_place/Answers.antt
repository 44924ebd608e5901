use Rattle.std.proofs.Common.{sym, ap, ◌∙◌}
use Rattle.std.specs.List.{position, slice_set}
use Rattle.std.specs.Option.{option_copied_mut}
use Rattle.vault_model.specs.Join.{is_id}
use Rattle.vault_model.specs.declared.nodes.Group.{Group, out-Group}
use Rattle.tree_steps.proofs.InPlace.{trees}
use Rattle.tree_moves.proofs.GroupsTaken.{fills_none, fills_place, place_there}
use Rattle.tree_moves.proofs.groups.fill_place.Goals as goal

pub returns-in-Some-get_mut : goal.returns-in-Some-get_mut
returns-in-Some-get_mut c =
    let way = ap (position (λ (g : Group). is_id (out-Group g).id c.nil.result)) (sym c.as_slice.ensures) ∙ sym c.place_in.ensures ∙ c.in-Some.is in
    ap (λ (g : Group). trees (slice_set c.args.groups.now c.in-Some.at g)) c.swap.ensures.x_after
    ∙ fills_place c.nil.result c.args.groups.now c.in-Some.at c.args.group.now c.nil.ensures way

pub returns-in_default : goal.returns-in_default
returns-in_default c =
    let way = ap (position (λ (g : Group). is_id (out-Group g).id c.nil.result)) (sym c.as_slice.ensures) ∙ sym c.place_in.ensures ∙ c.in-Some.is in
    place_there c.nil.result c.args.groups.now c.in-Some.at way (sym c.get_mut.ensures.item ∙ ap option_copied_mut c.in_default.is)

pub returns-in-None : goal.returns-in-None
returns-in-None c =
    let way = ap (position (λ (g : Group). is_id (out-Group g).id c.nil.result)) (sym c.as_slice.ensures) ∙ sym c.place_in.ensures ∙ c.in-None.is in
    fills_none c.nil.result c.args.groups.now c.args.group.now c.nil.ensures way
