-- Why the tree of imported entries is refused, as what is so of it.
use Rattle.std.specs.Prelude.{◌≡◌, List, ◌∷◌, ◌++◌}
use Rattle.import_tree.specs.Outcome.{groups_below}
use Rattle.vault_model.specs.Db.{NodeId}
use Rattle.vault_model.specs.Join.{IsIn}
use Rattle.vault_model.specs.Tree.{LEVELS, Tree, node_ids}

-- An id is among these twice.
abbrev pub IsTwice : NodeId → List NodeId → Type 0
IsTwice id ids = (before : List NodeId) × (between : List NodeId) × (after : List NodeId)
    × (ids ≡ before ++ id ∷ (between ++ id ∷ after))

-- Two nodes of a tree have this id.
abbrev pub HasTwo : NodeId → Tree → Type 0
HasTwo id tree = IsTwice id (node_ids tree)

-- A group of this id is below the last level of a tree.
abbrev pub HasTooDeep : NodeId → Tree → Type 0
HasTooDeep id tree = IsIn id (groups_below LEVELS tree)
