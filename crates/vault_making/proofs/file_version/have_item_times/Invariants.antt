use Rattle.std.proofs.Common.{◌≡◌, drop}
use Rattle.std.specs.List.{list_any}
use Rattle.vault_making.specs.NeededVersion as spec
use Rattle.vault_making.proofs.file_version.have_item_times.Given as goal

abbrev pub invariant-loop-item : goal.invariant-loop-item
invariant-loop-item l =
    list_any spec.has_item_time (drop l.item-index l.items) ≡ list_any spec.has_item_time l.items
