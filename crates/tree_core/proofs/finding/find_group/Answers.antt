use Rattle.std.proofs.Common.{sym, ap, ◌∙◌}
use Rattle.vault_model.specs.SeenDoc.{doc_seen}
use Rattle.tree_core.specs.ById.{group_with_name}
use Rattle.tree_core.specs.Finding.{group_at_path, without_slashes}
use Rattle.tree_core.proofs.ByIds.{group_by_name, group_by_path}
use Rattle.tree_core.proofs.finding.find_group.Goals as goal

pub returns-in-Some : goal.returns-in-Some
returns-in-Some c =
    let d = doc_seen c.args.doc.now in
    let same = ap without_slashes (sym c.as_bytes-path.ensures.value) ∙ sym c.without_slashes.ensures in
    group_by_name d c.args.path.now c.in-Some.id (ap (λ t. group_with_name t d.tree) same ∙ sym c.group_with_name.ensures ∙ c.in-Some.is)

pub returns : goal.returns
returns c =
    let d = doc_seen c.args.doc.now in
    let same = ap without_slashes (sym c.as_bytes-path.ensures.value) ∙ sym c.without_slashes.ensures in
    c.find_group_at.ensures
    ∙ ap (group_at_path d) c.as_bytes-path.ensures.value
    ∙ group_by_path d c.args.path.now (ap (λ t. group_with_name t d.tree) same ∙ sym c.group_with_name.ensures ∙ c.in_default.is)
