use Rattle.doc_resolving.proofs.ResolvedDocuments.{tree_is_kept}
use Rattle.doc_resolving.proofs.resolving.resolved_root.Goals as goal

pub resolved_tree-requires-clause-tree : goal.resolved_tree-requires-clause-tree
resolved_tree-requires-clause-tree c = tree_is_kept c.args.root c.in-Some.draft c.requires.root c.in-Some.is

pub returns-in-Some : goal.returns-in-Some
returns-in-Some c = rw c.in-Some.is c.resolved_tree.ensures
