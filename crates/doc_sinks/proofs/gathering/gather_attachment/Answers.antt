use Rattle.std.proofs.Common.{ap, sym, is_some}
use Rattle.doc_sinks.proofs.GatheredPairs.{gathers_known, gathers_new}
use Rattle.secret_core.specs.Secret.{SecretBuffer}
use Rattle.doc_sinks.proofs.gathering.gather_attachment.Goals as goal

pub returns-in-Some : goal.returns-in-Some
returns-in-Some c = gathers_known _ _ c.of-pair.result _ c.of-pair.ensures.pair (ap is_some (sym c.in-Some.ensures.value))

pub returns-in_ok-push-in-None : goal.returns-in_ok-push-in-None
returns-in_ok-push-in-None c =
    gathers_new _ _ _ _ _ c.of-pair.result _ _ c.of-pair.ensures.pair (ap is_some (sym c.in-None.ensures.value)) c.len.ensures
    c.in_ok-insert-in-None.ensures.updates.0
    (ap (λ (secret : SecretBuffer). (secret.bytes, c.args.file.now.hidden)) c.in_ok-clone-in-None.ensures.cases) c.in_ok-push-in-None.ensures
