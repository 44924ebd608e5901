use Rattle.std.proofs.Common.{Some, sym, ◌∙◌, ap}
use Rattle.vault_model.specs.SeenDoc.{doc_seen}
use Rattle.vault_model.specs.Tree.{id_of}
use Rattle.vault_model.proofs.SeenGroups.{seen_group}
use Rattle.tree_core.proofs.Walks.{below_found, is_empty, is_not_empty, root_found}
use Rattle.tree_core.proofs.finding.find_group_at.Goals as goal

pub returns-then-is_empty : goal.returns-then-is_empty
returns-then-is_empty c =
    let path = c.without_slashes-path.result.now in
    ap (λ t. Some (id_of t)) (sym (seen_group c.args.doc.now.root))
    ∙ root_found (doc_seen c.args.doc.now) c.args.path.now path c.without_slashes-path.ensures
    (is_empty path c.is_empty.result c.is_empty.ensures c.if-is_empty.true)

pub returns : goal.returns
returns c =
    let path = c.without_slashes-path.result.now in
    c.group_in.ensures
    ∙ below_found (doc_seen c.args.doc.now) c.args.path.now path c.without_slashes-path.ensures
    (is_not_empty path c.is_empty.result c.is_empty.ensures c.if-is_empty.false)
