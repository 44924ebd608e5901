use Rattle.std.proofs.Common.{◌≡◌, drop}
use Rattle.vault_model.specs.Orders.{bytes_cmp}
use Rattle.vault_model.specs.declared.contents.Attachment.{Attachment}
use Rattle.tree_contents.specs.Spots.{further, spot}
use Rattle.tree_contents.proofs.attachments.attachment_spot.Given as goal

abbrev pub invariant-loop-at : goal.invariant-loop-at
invariant-loop-at l = spot (λ (a : Attachment). bytes_cmp l.name a.name) l.attachments ≡ further l.at (spot (λ (a : Attachment). bytes_cmp l.name a.name) (drop l.at l.attachments))
