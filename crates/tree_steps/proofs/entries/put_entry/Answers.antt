use Rattle.vault_model.specs.SeenNodes.{entry_row, tree_seen}
use Rattle.tree_core.specs.Changes.{with_entry}
use Rattle.tree_steps.proofs.InPlace.{put_of}
use Rattle.tree_steps.proofs.entries.put_entry.Goals as goal

pub returns : goal.returns
returns c = put_of c.args.group (with_entry (entry_row c.args.entry)) (tree_seen c.args.root.now) (tree_seen c.change_at.new.group) c.change_at.result c.change_at.ensures.none
