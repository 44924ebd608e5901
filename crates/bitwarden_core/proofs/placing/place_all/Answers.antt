use Rattle.std.proofs.Common.{◌<◌, ◌+◌, ◌^◌, List, [], drop, length, map, subst, arith}
use Rattle.std.proofs.lemmas.List.{drop_all}
use Rattle.bitwarden_core.specs.Placing.{placed_items, with_places}
use Rattle.bitwarden_core.specs.Steps.{all_seen}
use Rattle.serde_json.specs.Data.{Data}
use Rattle.serde_json.specs.View.{view}
use Rattle.serde_json.specs.declared.value.Value.{Value}
use Rattle.bitwarden_core.proofs.OneByOne.{Placing, item_at, placing_done, placing_more, placing_refused}
use Rattle.bitwarden_core.proofs.NotNil.{not_nil_at}
use Rattle.bitwarden_core.proofs.placing.place_all.Goals as goal

pub loop-item-preserved : goal.loop-item-preserved
loop-item-preserved c = λ none.
    let now = c.args.now in
    let folders = map view c.args.folders.now in
    let items = c.args.items.now in
    let total = with_places (all_seen c.args.places.now.items) (placed_items now folders [] (map view items)) in
    let at = c.loop-item.item-index in
    let so_far = subst (λ (ds : List Data). Placing now folders total (length items) (all_seen c.loop-item.places.items) ds c.loop-item.counts)
    (item_at items at c.item-item.result c.loop-item-test.true c.item-item.is) (c.loop-item.invariant none) in
    let fits : length c.args.items.now < 2 ^ 64 = omega (arith, c.loop-item.auto.item-index-end) in
    placing_more now folders total (length items) (all_seen c.loop-item.places.items) (view c.item-item.result) (map view (drop (at + 1) items)) c.loop-item.counts
    fits so_far (all_seen c.place_item.new.places.items) c.place_item.new.counts tt c.in_default.ensures

pub returns-in-Err : goal.returns-in-Err
returns-in-Err c = λ none.
    let now = c.args.now in
    let folders = map view c.args.folders.now in
    let items = c.args.items.now in
    let total = with_places (all_seen c.args.places.now.items) (placed_items now folders [] (map view items)) in
    let at = c.loop-item.item-index in
    let so_far = subst (λ (ds : List Data). Placing now folders total (length items) (all_seen c.loop-item.places.items) ds c.loop-item.counts)
    (item_at items at c.item-item.result c.loop-item-test.true c.item-item.is) (c.loop-item.invariant none) in
    let fits : length c.args.items.now < 2 ^ 64 = omega (arith, c.loop-item.auto.item-index-end) in
    placing_refused now folders total (length items) (all_seen c.loop-item.places.items) (view c.item-item.result) (map view (drop (at + 1) items)) c.loop-item.counts
    fits so_far (all_seen c.place_item.new.places.items) c.place_item.new.counts c.in-Err.fail c.in-Err.ensures

pub returns : goal.returns
returns c = λ none.
    let now = c.args.now in
    let folders = map view c.args.folders.now in
    let items = c.args.items.now in
    let total = with_places (all_seen c.args.places.now.items) (placed_items now folders [] (map view items)) in
    let at = c.loop-item.item-index in
    placing_done now folders total (length items) (all_seen c.loop-item.places.items) c.loop-item.counts
    (subst (λ (vs : List Value). Placing now folders total (length items) (all_seen c.loop-item.places.items) (map view vs) c.loop-item.counts) (drop_all at items c.loop-item-test.false) (c.loop-item.invariant none))

pub place_item-requires : goal.place_item-requires
place_item-requires c = not_nil_at c.args.items.now c.loop-item.item-index c.item-item.result c.requires c.loop-item-test.true c.item-item.is
