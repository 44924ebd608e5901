use Rattle.std.proofs.Common.{◌≡◌, drop, map, sum}
use Rattle.vault_model.specs.Seen.{bare_attachment}
use Rattle.tree_core.specs.Histories.{attachment_size}
use Rattle.tree_edits.specs.Rooms.{room_left}
use Rattle.tree_edits.proofs.limits.room_after_attachments.Given as goal

abbrev pub invariant-loop-attachment : goal.invariant-loop-attachment
invariant-loop-attachment l = room_left l.room (sum (map attachment_size (map bare_attachment (drop l.attachment-index l.attachments)))) ≡ room_left l.limit (sum (map attachment_size (map bare_attachment l.attachments)))
