use Rattle.vault_model.specs.SeenNodes.{tree_seen}
use Rattle.vault_model.specs.Tree.{height}
use Rattle.tree_steps.proofs.changes.+change_at.Given as goal

abbrev pub decreases-change_at : goal.decreases-change_at
decreases-change_at g l = height (tree_seen l.group.now)
