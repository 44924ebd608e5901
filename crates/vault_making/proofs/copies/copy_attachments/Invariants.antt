use Rattle.std.proofs.Common.{◌≡◌, ◌++◌, drop, map}
use Rattle.vault_model.specs.Seen.{bare_attachment}
use Rattle.vault_making.proofs.copies.copy_attachments.Given as goal

abbrev pub invariant-loop-attachment : goal.invariant-loop-attachment
invariant-loop-attachment l = map bare_attachment l.copy ++ map bare_attachment (drop l.attachment-index l.attachments) ≡ map bare_attachment l.attachments
