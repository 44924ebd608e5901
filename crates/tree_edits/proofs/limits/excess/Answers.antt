use Rattle.std.proofs.Common.{length, sym, ap, ◌∙◌, arith, w32, w64}
use Rattle.std.proofs.lemmas.Int.{to_z-of_z}
use Rattle.std.proofs.lemmas.List.{length-map}
use Rattle.vault_model.specs.SeenNodes.{bare_version}
use Rattle.tree_edits.specs.Rooms.{limit_of, surplus_over}
use Rattle.tree_edits.proofs.Suffixes.{surplus_within, with_limit, without_limit}
use Rattle.tree_edits.proofs.limits.excess.Goals as goal

pub start_with_room-requires : goal.start_with_room-requires
start_with_room-requires c =
    let items = to_z-of_z w32 c.args.items c.ranges.items in
    let is = c.surplus-least.ensures ∙ ap (λ z. surplus_over z (length c.args.history.now)) (c.item_limit.ensures ∙ ap limit_of items) in
    surplus_within c.args.items c.args.size c.args.history.now c.surplus-least.result is

pub returns-in-Some-clause-within : goal.returns-in-Some-clause-within
returns-in-Some-clause-within c =
    let len = length-map c.args.history.now bare_version in
    let within = c.start_with_room.ensures.within in
    omega (arith, len, within)

pub returns-in-Some-clause-drops : goal.returns-in-Some-clause-drops
returns-in-Some-clause-drops c =
    let items = to_z-of_z w32 c.args.items c.ranges.items in
    let size = to_z-of_z w64 c.args.size c.ranges.size in
    let is = c.surplus-least.ensures ∙ ap (λ z. surplus_over z (length c.args.history.now)) (c.item_limit.ensures ∙ ap limit_of items) in
    with_limit c.args.items c.args.size c.args.history.now c.surplus-least.result c.in-Some.limit c.start_with_room.result is
    (sym (c.size_limit.ensures ∙ ap limit_of size) ∙ c.in-Some.is) c.start_with_room.ensures

pub returns-in-None-clause-within : goal.returns-in-None-clause-within
returns-in-None-clause-within c =
    let items = to_z-of_z w32 c.args.items c.ranges.items in
    let is = c.surplus-least.ensures ∙ ap (λ z. surplus_over z (length c.args.history.now)) (c.item_limit.ensures ∙ ap limit_of items) in
    surplus_within c.args.items c.args.size c.args.history.now c.surplus-least.result is

pub returns-in-None-clause-drops : goal.returns-in-None-clause-drops
returns-in-None-clause-drops c =
    let items = to_z-of_z w32 c.args.items c.ranges.items in
    let size = to_z-of_z w64 c.args.size c.ranges.size in
    let is = c.surplus-least.ensures ∙ ap (λ z. surplus_over z (length c.args.history.now)) (c.item_limit.ensures ∙ ap limit_of items) in
    without_limit c.args.items c.args.size c.args.history.now c.surplus-least.result is (surplus_within c.args.items c.args.size c.args.history.now c.surplus-least.result is)
    (sym (c.size_limit.ensures ∙ ap limit_of size) ∙ c.in-None.is)
