-- The nodes are those of the join, and the root and the shared values too.
use Rattle.std.proofs.Common.{sym, ◌∙◌}
use Rattle.merge_core.proofs.Facts.{join_root}
use Rattle.vault_model.specs.Join.{join}
use Rattle.merge_tables.specs.Databases.{databases}
use Rattle.merge_parts.proofs.Members.{root_first}
use Rattle.merge_join.proofs.joins.join_marked.Goals as goal

pub returns-in-Ok : goal.returns-in-Ok
returns-in-Ok c =
    let members = c.args.members.now in
    let root = root_first members c.index-members-0.result c.requires.some ∙ sym (join_root (databases members)) in
    c.in-Ok.ensures ∙ (λ i. record (join (databases members)) { root = root i; meta = c.in_ok-meta.ensures i })
