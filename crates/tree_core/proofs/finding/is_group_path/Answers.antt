use Rattle.std.proofs.Common.{◌∙◌}
use Rattle.vault_model.specs.SeenDoc.{doc_seen}
use Rattle.tree_core.proofs.Walks.{is_empty, is_not_empty, path_below_root, root_path}
use Rattle.tree_core.proofs.finding.is_group_path.Goals as goal

pub returns-then-is_empty : goal.returns-then-is_empty
returns-then-is_empty c =
    let path = c.args.path.now in
    c.if-is_empty.true ∙ root_path (doc_seen c.args.doc.now) path (is_empty path c.is_empty.result c.is_empty.ensures c.if-is_empty.true)

pub returns-else-is_empty : goal.returns-else-is_empty
returns-else-is_empty c =
    let path = c.args.path.now in
    let below = path_below_root (doc_seen c.args.doc.now) path (is_not_empty path c.is_empty.result c.is_empty.ensures c.if-is_empty.false) in
    cc (c.is_some.ensures, c.group_in.ensures, below)
