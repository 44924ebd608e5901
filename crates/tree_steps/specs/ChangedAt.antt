-- What a change of one group makes of a tree.
use Rattle.std.specs.Prelude.{◌≡◌, Some}
use Rattle.vault_model.specs.Db.{NodeId}
use Rattle.vault_model.specs.Tree.{Tree}
use Rattle.tree_core.specs.Changes.{changed_at, group_with}

-- One tree is another in which the first group of an id was changed in this way.
pub record ChangedAt (u : NodeId) (makes : Tree → Tree → Type 0) (old new : Tree) : Type 0 where
  pub before : Tree
  pub after : Tree
  pub there : group_with u old ≡ Some before
  pub made : makes before after
  pub is : new ≡ changed_at u (λ t. after) old
