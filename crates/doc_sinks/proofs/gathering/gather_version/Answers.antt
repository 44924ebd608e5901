use Rattle.doc_sinks.proofs.GatheredPairs.{gathers_next, gathers_none}
use Rattle.vault_model.specs.Bare.{BareAttachment}
use Rattle.vault_model.specs.Seen.{bare_attachment}
use Rattle.doc_sinks.proofs.gathering.gather_version.Goals as goal

pub loop-file-init : goal.loop-file-init
loop-file-init c = gathers_none _ _

pub loop-file-preserved : goal.loop-file-preserved
loop-file-preserved c =
    gathers_next _ _ _ _ _ _ bare_attachment _ _ c.file-item.result c.loop-file-test.true c.file-item.is
    (λ (a : BareAttachment). (a.bytes, a.hidden)) c.loop-file.invariant c.in_ok-gather_attachment.ensures
