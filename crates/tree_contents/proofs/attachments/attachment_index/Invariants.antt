use Rattle.std.proofs.Common.{◌≡◌, drop}
use Rattle.std.specs.List.{position_from}
use Rattle.std.specs.Str.{bytes_eq}
use Rattle.vault_model.specs.declared.contents.Attachment.{Attachment}
use Rattle.tree_contents.proofs.attachments.attachment_index.Given as goal

abbrev pub invariant-loop-at : goal.invariant-loop-at
invariant-loop-at l =
    position_from (λ (a : Attachment). bytes_eq l.name a.name) 0 l.attachments
    ≡ position_from (λ (a : Attachment). bytes_eq l.name a.name) l.at (drop l.at l.attachments)
