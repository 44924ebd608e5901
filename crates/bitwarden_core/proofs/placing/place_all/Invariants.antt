use Rattle.std.proofs.Common.{[], drop, length, map}
use Rattle.bitwarden_core.specs.Placing.{placed_items, with_places}
use Rattle.bitwarden_core.specs.Steps.{all_seen}
use Rattle.import_ids.specs.Counts.{HasCounted}
use Rattle.serde_json.specs.View.{view}
use Rattle.bitwarden_core.proofs.OneByOne.{Placing}
use Rattle.bitwarden_core.proofs.placing.place_all.Given as goal

-- those that are placed, with the items that are left, are all
abbrev pub invariant-loop-item : goal.invariant-loop-item
invariant-loop-item l = HasCounted l.initial.counts [] → Placing l.fn.now (map view l.fn.folders)
    (with_places (all_seen l.initial.places.items) (placed_items l.fn.now (map view l.fn.folders) [] (map view l.fn.items)))
    (length l.fn.items) (all_seen l.places.items) (map view (drop l.item-index l.fn.items)) l.counts
