use Rattle.std.proofs.Common.{◌≡◌, None, sym, ap, ◌∙◌}
use Rattle.vault_model.specs.SeenDoc.{doc_seen}
use Rattle.tree_core.specs.ById.{entry_with_name}
use Rattle.tree_core.proofs.ByIds.{entry_by_name, entry_by_path}
use Rattle.tree_core.proofs.Walks.{entry_by_groups}
use Rattle.tree_core.proofs.finding.find_entry.Goals as goal

pub returns-in-Some : goal.returns-in-Some
returns-in-Some c =
    let d = doc_seen c.args.doc.now in
    entry_by_name d c.args.path.now c.in-Some.id (ap (λ t. entry_with_name t d.tree) (sym c.as_bytes-path.ensures.value) ∙ sym c.entry_with_name.ensures ∙ c.in-Some.is)

pub returns : goal.returns
returns c =
    let d = doc_seen c.args.doc.now in
    let path = c.args.path.now in
    let other : entry_with_name path d.tree ≡ None = ap (λ t. entry_with_name t d.tree) (sym c.as_bytes-path.ensures.value) ∙ sym c.entry_with_name.ensures ∙ c.in_default.is in
    cc (c.entry_in.ensures, c.strip_prefix.ensures, c.as_bytes-path.ensures.value, entry_by_groups d path, entry_by_path d path other)
