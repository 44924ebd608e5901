-- Conditions that hold of a small database, so that each law speaks of something.
use Rattle.std.specs.Prelude.{false, [], ◌∷◌, codes, None, Some}
use Rattle.tree_core.specs.FurtherChanges.{FurtherChange, no_further_change}
use Rattle.merge_core.specs.Example.{as_it_was, edited, home}
use Rattle.frame_laws.specs.Example.{with_key, without_bin}
use Rattle.condition_laws.specs.Conditions.{CanAdd, CanAttach, CanDetach, CanEdit, CanMakeGroup, CanMoveEntry, CanMoveGroup, CanRemoveEntry, CanRemoveGroup, CanRestore}

-- the field with the notes is taken away
abbrev pub no_notes : FurtherChange
no_notes = record no_further_change { unset = codes "Notes" ∷ [] }

-- Entries and groups can be edited, moved, added, deleted, and put into a bin that is made, a file
-- can be attached to an entry and taken away, and a version of an entry can be restored.
pub record ExampleConditions : Type 0 where
  pub edit : CanEdit (codes "Bank") no_notes 50 as_it_was
  pub attach : CanAttach (codes "Bank") (codes "key") false 50 as_it_was
  pub detach : CanDetach (codes "Bank") (codes "key") 50 with_key
  pub restore : CanRestore (codes "Bank") 1 50 edited
  pub move_entry : CanMoveEntry (codes "Bank") (codes "Work") 50 as_it_was
  pub move_group : CanMoveGroup (codes "Work") (codes "Home") 50 edited
  pub add : CanAdd (codes "Work/Chat") home as_it_was
  pub make_group : CanMakeGroup (codes "Home") home as_it_was
  pub delete_entry : CanRemoveEntry (codes "Mail") None 50 as_it_was
  pub recycle_entry : CanRemoveEntry (codes "Mail") (Some home) 50 without_bin
  pub delete_group : CanRemoveGroup (codes "Work") None 50 as_it_was
  pub recycle_group : CanRemoveGroup (codes "Work") (Some home) 50 without_bin
