use Rattle.vault_model.specs.SeenNodes.{entry_row, tree_seen}
use Rattle.tree_core.specs.Changes.{on_entries}
use Rattle.tree_moves.specs.Places.{entries_filled}
use Rattle.tree_steps.proofs.InPlace.{always_of}
use Rattle.tree_moves.proofs.entries.fill_entry.Goals as goal

pub returns : goal.returns
returns c = always_of c.args.group (on_entries (entries_filled (entry_row c.args.entry))) (tree_seen c.args.root.now) (tree_seen c.change_at.new.group) c.change_at.result c.change_at.ensures.none
