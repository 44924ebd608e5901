use Rattle.std.proofs.Common.{map}
use Rattle.serde_json.specs.View.{view}
use Rattle.bitwarden_core.proofs.OneByOne.{item_placed}
use Rattle.bitwarden_core.proofs.placing.place_item.Goals as goal

pub returns : goal.returns
returns c = λ before was few.
    item_placed c.args.now (map view c.args.folders.now) before (view c.args.item.now) c.args.places.now.items c.put_last.new.places.items _ _ c.in_ok-id.id c.next_id.new.counts
    (c.in_ok-id.ensures.gives before was few) c.in_ok-put_last.ensures c.in_ok-names.ensures c.in_ok-place.ensures

pub entry_place-requires : goal.entry_place-requires
entry_place-requires c = c.in_ok-id.ensures.not_nil c.requires
