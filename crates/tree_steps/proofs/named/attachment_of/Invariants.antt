use Rattle.std.proofs.Common.{◌≡◌, drop}
use Rattle.std.specs.Prelude.{find, map}
use Rattle.std.specs.Str.{bytes_eq}
use Rattle.vault_model.specs.Bare.{BareAttachment}
use Rattle.vault_model.specs.Seen.{bare_attachment}
use Rattle.tree_steps.proofs.named.attachment_of.Given as goal

abbrev pub invariant-loop-attachment : goal.invariant-loop-attachment
invariant-loop-attachment l =
    find (λ (a : BareAttachment). bytes_eq l.name a.name) (map bare_attachment (drop l.attachment-index l.attachment-items))
    ≡ find (λ (a : BareAttachment). bytes_eq l.name a.name) (map bare_attachment l.attachment-items)
