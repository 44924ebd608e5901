use Rattle.std.proofs.Common.{map, sym, ap, ◌∙◌}
use Rattle.std.specs.List.{position, slice_set}
use Rattle.std.specs.Option.{option_copied_mut}
use Rattle.vault_model.specs.Join.{is_id}
use Rattle.vault_model.specs.SeenNodes.{entry_row}
use Rattle.vault_model.specs.declared.nodes.Entry.{Entry}
use Rattle.tree_moves.proofs.Taken.{fills_none, fills_place}
use Rattle.tree_steps.proofs.InPlace.{place_there}
use Rattle.tree_moves.proofs.entries.fill_place.Goals as goal

pub returns-in-Some-get_mut : goal.returns-in-Some-get_mut
returns-in-Some-get_mut c =
    let way = ap (position (λ (e : Entry). is_id e.id c.nil.result)) (sym c.as_slice.ensures) ∙ sym c.place_in.ensures ∙ c.in-Some.is in
    ap (λ (e : Entry). map entry_row (slice_set c.args.entries.now c.in-Some.at e)) c.swap.ensures.x_after
    ∙ fills_place c.nil.result c.args.entries.now c.in-Some.at c.args.entry.now c.nil.ensures way

pub returns-in_default : goal.returns-in_default
returns-in_default c =
    let way = ap (position (λ (e : Entry). is_id e.id c.nil.result)) (sym c.as_slice.ensures) ∙ sym c.place_in.ensures ∙ c.in-Some.is in
    place_there c.nil.result c.args.entries.now c.in-Some.at way (sym c.get_mut.ensures.item ∙ ap option_copied_mut c.in_default.is)

pub returns-in-None : goal.returns-in-None
returns-in-None c =
    let way = ap (position (λ (e : Entry). is_id e.id c.nil.result)) (sym c.as_slice.ensures) ∙ sym c.place_in.ensures ∙ c.in-None.is in
    fills_none c.nil.result c.args.entries.now c.args.entry.now c.nil.ensures way
