-- What is seen of the branches of a draft that are still to be taken apart.
use Rattle.std.specs.Prelude.{ℕ, ◌≡◌, ◌+◌, ◌*◌, ◌<◌, List, [], ◌∷◌, ◌++◌, length, map}
use Rattle.import_tree.specs.Branches.{deep_in, ids_in}
use Rattle.import_tree.specs.SeenDrafts.{rows_seen}
use Rattle.import_tree.specs.Trees.{Placed}
use Rattle.import_tree.specs.declared.branches.Branch.{Branch}
use Rattle.import_tree.specs.declared.branches.Way.{Way}
use Rattle.import_tree.specs.declared.depths.TreeIds.{TreeIds}
use Rattle.vault_model.specs.Db.{NodeId}

-- A place with the names that still lead to it.
abbrev pub way_seen : Way → Placed
way_seen way = record {
  now = way.place.now.moment;
  names = way.names.now;
  rows = rows_seen way.place.now.entry;
}

-- Such places.
abbrev pub ways_seen : List Way → List Placed
ways_seen ways = map way_seen ways

-- The ids of all nodes in the group of a branch.
abbrev pub branch_ids : Branch → List NodeId
branch_ids branch = ids_in branch.id (ways_seen branch.ways.items)

-- The ids of the groups in it that are too deep.
abbrev pub branch_deep : Branch → List NodeId
branch_deep branch = deep_in branch.levels branch.id (ways_seen branch.ways.items)

-- The ids of the nodes of branches, the last of which comes first.
abbrev pub all_ids : List Branch → List NodeId
all_ids [] = []
all_ids (branch ∷ rest) = all_ids rest ++ branch_ids branch

-- The ids of their groups that are too deep, in the same order.
abbrev pub all_deep : List Branch → List NodeId
all_deep [] = []
all_deep (branch ∷ rest) = all_deep rest ++ branch_deep branch

-- How many names lead to places.
abbrev pub names_in : List Placed → ℕ
names_in [] = 0
names_in (placed ∷ rest) = length placed.names + names_in rest

-- No fewer than the steps that a branch takes.
abbrev pub branch_steps : Branch → ℕ
branch_steps branch = 1 + 2 * names_in (ways_seen branch.ways.items)

-- The same of branches.
abbrev pub all_steps : List Branch → ℕ
all_steps [] = 0
all_steps (branch ∷ rest) = all_steps rest + branch_steps branch

-- A branch is taken apart: its own entries and its first group are found, and what is in this group
-- and the rest of the branch are left, which takes fewer steps.
pub record TakesApart (branch : Branch) (old new : TreeIds) : Type 0 where
  pub ids : new.ids.items ++ all_ids new.branches.items
      ≡ old.ids.items ++ (branch_ids branch ++ all_ids old.branches.items)
  pub deep : new.deep.items ++ all_deep new.branches.items
      ≡ old.deep.items ++ (branch_deep branch ++ all_deep old.branches.items)
  pub fewer : all_steps new.branches.items < all_steps old.branches.items + branch_steps branch
