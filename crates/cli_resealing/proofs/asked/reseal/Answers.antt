use Rattle.std.proofs.Common.{◌≡◌, ◌∙◌, ap, subst, sym, Ok, Err}
use Rattle.vault_model.specs.SeenDoc.{doc_seen}
use Rattle.vault_model.specs.declared.forms.FileVersion.{FileVersion}
use Rattle.kdbx_settings.specs.Changed.{changed_settings}
use Rattle.cli_messages.specs.Messages.{refusal_of}
use Rattle.cli_messages.specs.declared.answers.Reason.{Reason}
use Rattle.cli_resealing.specs.Asked.{asked_settings}
use Rattle.cli_resealing.proofs.Costs.{refused_as, refused_so, settled_as}
use Rattle.cli_resealing.proofs.asked.reseal.Goals as goal

pub returns-in-Ok-clause-told : goal.returns-in-Ok-clause-told
returns-in-Ok-clause-told c =
    settled_as c.args.file.now c.in_ok-change.change (asked_settings c.args.asked.cipher c.args.asked.kdf c.args.asked.version) (doc_seen c.args.doc.now) c.args.sealing.now
    c.change_settings.new.settings c.in_ok-change.ensures
    (subst (λ (v : FileVersion). changed_settings c.in_ok-change.change c.args.sealing.now.settings v ≡ Ok c.change_settings.new.settings) c.needed.ensures c.in-Ok.ensures.told)

pub returns-in-Err-clause-told : goal.returns-in-Err-clause-told
returns-in-Err-clause-told c =
    refused_so c.refused.result (refusal_of c.settings_answer.result c.args.file.now) _ c.refused.ensures
    (refused_as c.args.file.now c.in_ok-change.change (asked_settings c.args.asked.cipher c.args.asked.kdf c.args.asked.version) (doc_seen c.args.doc.now) c.args.sealing.now
    c.in-Err.fail c.in_ok-change.ensures
    (subst (λ (v : FileVersion). changed_settings c.in_ok-change.change c.args.sealing.now.settings v ≡ Err c.in-Err.fail) c.needed.ensures c.in-Err.ensures.told)
    ∙ ap (λ (r : Reason). Err (refusal_of r c.args.file.now)) (sym c.settings_answer.ensures))
