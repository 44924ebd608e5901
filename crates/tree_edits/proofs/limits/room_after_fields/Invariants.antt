use Rattle.std.proofs.Common.{◌≡◌, drop, map, sum}
use Rattle.vault_model.specs.Seen.{bare_field}
use Rattle.tree_core.specs.Histories.{field_size}
use Rattle.tree_edits.specs.Rooms.{room_left}
use Rattle.tree_edits.proofs.limits.room_after_fields.Given as goal

abbrev pub invariant-loop-field : goal.invariant-loop-field
invariant-loop-field l = room_left l.room (sum (map field_size (map bare_field (drop l.field-index l.fields)))) ≡ room_left l.limit (sum (map field_size (map bare_field l.fields)))
