use Rattle.std.proofs.Common.{ap, ◌∙◌, List}
use Rattle.vault_model.specs.Bare.{BareAttachment}
use Rattle.vault_model.specs.Proper.{is_proper_content}
use Rattle.vault_model.specs.Seen.{bare_content}
use Rattle.tree_contents.proofs.ProperContents.{detached_proper}
use Rattle.tree_contents.proofs.attachments.remove_attachment.Goals as goal

pub returns-clause-proper : goal.returns-clause-proper
returns-clause-proper c proper =
    let old = bare_content c.args.content.now in
    ap (λ (list : List BareAttachment). is_proper_content (record old { attachments = list })) c.remove_named.ensures
    ∙ detached_proper c.args.name.now old proper
