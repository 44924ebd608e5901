use Rattle.vault_model.specs.SeenNodes.{tree_seen}
use Rattle.import_tree.proofs.Deep.{fine}
use Rattle.import_tree.proofs.importing.sound_with.Goals as goal

pub document_with-requires-clause-distinct : goal.document_with-requires-clause-distinct
document_with-requires-clause-distinct c = (fine (tree_seen c.args.tree.root) _ c.in-Ok.ensures).distinct

pub document_with-requires-clause-levels : goal.document_with-requires-clause-levels
document_with-requires-clause-levels c = (fine (tree_seen c.args.tree.root) _ c.in-Ok.ensures).levels
