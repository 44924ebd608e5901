use Rattle.std.proofs.Common.{ap, ◌∙◌}
use Rattle.vault_model.specs.Seen.{bare_content}
use Rattle.vault_model.specs.SeenNodes.{entry_record}
use Rattle.vault_model.specs.Tree.{is_proper_entry}
use Rattle.tree_core.specs.NewNodes.{new_version}
use Rattle.tree_edits.proofs.Proper.{changed_content_proper}
use Rattle.tree_edits.proofs.changing.versions_saying.Goals as goal

pub returns-in-Ok-clause-proper : goal.returns-in-Ok-clause-proper
returns-in-Ok-clause-proper c good proper =
    let content = bare_content c.args.content in
    let entry = entry_record c.args.entry.now in
    ap is_proper_entry (c.in-Ok.ensures (new_version content c.args.time entry.current))
    ∙ changed_content_proper c.args.meta.now (λ _. content) c.args.time entry good proper
