use Rattle.std.proofs.Common.{ap, ◌∙◌, List}
use Rattle.vault_model.specs.Bare.{BareAttachment}
use Rattle.vault_model.specs.Proper.{is_proper_content}
use Rattle.vault_model.specs.Seen.{bare_content}
use Rattle.tree_contents.proofs.ProperContents.{attached_proper, ok_then}
use Rattle.tree_contents.proofs.attachments.put_attachment.Goals as goal

pub returns-clause-proper : goal.returns-clause-proper
returns-clause-proper c =
    let old = bare_content c.args.content.now in
    let attached = c.args.attached.now in
    ok_then c.put_bytes.result c.put_bytes.ensures (λ same proper.
    ap (λ (list : List BareAttachment). is_proper_content (record old { attachments = list })) same
    ∙ attached_proper attached.name.now attached.bytes.now.value.bytes old c.text_is_utf8.ensures proper)
