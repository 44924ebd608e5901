-- Groups moved to places that are kept for them.
use Rattle.std.specs.Prelude.{ℕ, ◌+◌, cond, nat_lt, Option, Result}
use Rattle.std.specs.Option.{option_and_then}
use Rattle.outside_core.specs.Results.{◌>>=◌}
use Rattle.vault_model.specs.Db.{NodeId, nil_id}
use Rattle.vault_model.specs.Join.{is_id}
use Rattle.vault_model.specs.Tree.{LEVELS, Tree, Trees, beside, height, id_of, none}
use Rattle.tree_core.specs.declared.fails.TreeFail.{TreeFail}
use Rattle.tree_core.specs.declared.fails.TreeFail.TheVariants.{IntoItself, TooDeep}
use Rattle.tree_core.specs.After.{refuse_if, time_after}
use Rattle.tree_core.specs.Changes.{changed_at, child_with, group_with, has_group, level_of, moved_group, on_groups, placed_of, without_group}

-- the group of this id in the group of another
abbrev pub group_at : NodeId → NodeId → Tree → Option Tree
group_at g u t = option_and_then (child_with u) (group_with g t)

-- groups side by side with one in the place of the first without an id, which was kept for it
abbrev pub groups_filled : Tree → Trees → Trees
groups_filled w none = none
groups_filled w (beside t ts) =
    cond (is_id (id_of t) nil_id) (beside w ts) (beside t (groups_filled w ts))

-- a tree whose group is moved from one group to the place that is kept for it in another
abbrev pub group_placed : NodeId → NodeId → ℕ → Tree → Tree → Tree
group_placed from to time g t =
    changed_at to (on_groups (groups_filled (moved_group from time g)))
    (changed_at from (without_group (id_of g)) t)

-- Since when a group is in a group that it is moved to; or why it is not moved there.
abbrev pub time_of_move : NodeId → Tree → ℕ → Tree → Result ℕ TreeFail
time_of_move to moving now t = do
  _ ← refuse_if (has_group to moving) (IntoItself (id_of moving))
  _ ← refuse_if (nat_lt LEVELS (level_of to t + height moving)) TooDeep
  time_after now (placed_of moving)
