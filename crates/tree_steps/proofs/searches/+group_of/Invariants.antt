use Rattle.vault_model.specs.SeenNodes.{tree_seen}
use Rattle.vault_model.specs.Tree.{height}
use Rattle.tree_steps.proofs.searches.+group_of.Given as goal

abbrev pub decreases-group_of : goal.decreases-group_of
decreases-group_of l = height (tree_seen l.group.now)
