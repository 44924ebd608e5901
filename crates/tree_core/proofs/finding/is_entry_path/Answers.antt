use Rattle.vault_model.specs.SeenDoc.{doc_seen}
use Rattle.tree_core.proofs.Walks.{entry_path_by_groups}
use Rattle.tree_core.proofs.finding.is_entry_path.Goals as goal

pub returns : goal.returns
returns c = cc (c.is_some.ensures, c.entry_in.ensures, entry_path_by_groups (doc_seen c.args.doc.now) c.args.path.now)
