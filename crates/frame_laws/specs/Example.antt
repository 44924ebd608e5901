-- Commands on a small database of two entries and a group, so that each law speaks of something.
use Rattle.std.specs.Prelude.{◌≡◌, true, false, codes, None, Some, Result, Ok}
use Rattle.vault_model.specs.Shape.{EntryRecord}
use Rattle.vault_model.specs.Tree.{BareDoc, IsDoc}
use Rattle.tree_core.specs.declared.fails.Removed.{Removed}
use Rattle.tree_core.specs.declared.fails.Removed.TheVariants.{Deleted, Recycled}
use Rattle.tree_core.specs.declared.fails.TreeFail.{TreeFail}
use Rattle.tree_core.specs.After.{AfterRemoval, after_add, after_attach, after_detach, after_edit, after_make_group, after_move_entry, after_move_group, after_remove_entry, after_remove_group, after_restore, needs_bin}
use Rattle.tree_core.specs.Attachments.{with_attachment}
use Rattle.tree_core.specs.Changes.{changed_at, changed_entry}
use Rattle.tree_core.specs.FurtherChanges.{no_further_change}
use Rattle.tree_core.specs.NewNodes.{GivenValues}
use Rattle.merge_core.specs.Example.{as_it_was, bank, edited, home, root}

-- no value is given
abbrev pub no_values : GivenValues
no_values = record {
  title = None;
  user = None;
  password = None;
  url = None;
  notes = None;
  otp = None;
}

-- only the notes are given
abbrev pub new_notes : GivenValues
new_notes = record no_values { notes = Some (codes "b") }

-- the database with a bin that has to be made
abbrev pub without_bin : BareDoc
without_bin = record as_it_was {
  meta = record as_it_was.meta {
    bin = record as_it_was.meta.bin {
      value = record as_it_was.meta.bin.value { enabled = true };
    };
  };
}

-- the database with something attached to an entry
abbrev pub with_key : BareDoc
with_key = record as_it_was {
  tree = changed_at root (changed_entry bank (λ (x : EntryRecord). record x {
    current = record x.current {
      mark = record x.current.mark {
        content = with_attachment (codes "key") (codes "k") x.current.mark.content;
      };
    };
  })) as_it_was.tree;
}

-- A command makes a document of one.
abbrev pub Happens : Result BareDoc TreeFail → Type 0
Happens made = (e : BareDoc) × (IsDoc e × (made ≡ Ok e))

-- A removal makes a document of one, and this becomes of the node.
abbrev pub HappensSo : Removed → Result AfterRemoval TreeFail → Type 0
HappensSo removed made = (a : AfterRemoval) × (IsDoc a.doc × (made ≡ Ok a)
    × (a.removed ≡ removed))

-- Entries and groups are added, edited, moved, deleted and put into a bin that is made, something is
-- attached to an entry and taken away, and a version of an entry is restored.
pub record ExampleChanges : Type 0 where
  pub doc : IsDoc as_it_was
  pub wide : IsDoc edited
  pub bare : IsDoc without_bin
  pub keyed : IsDoc with_key
  pub edit : Happens (after_edit (codes "Bank") new_notes no_further_change 50 as_it_was)
  pub attach : Happens (after_attach (codes "Bank") (codes "key") (codes "k") false 50 as_it_was)
  pub detach : Happens (after_detach (codes "Bank") (codes "key") 50 with_key)
  pub restore : Happens (after_restore (codes "Bank") 1 50 edited)
  pub add : Happens (after_add (codes "Work/Chat") home no_values 50 as_it_was)
  pub make_group : Happens (after_make_group (codes "Home") home 50 as_it_was)
  pub move_entry : Happens (after_move_entry (codes "Bank") (codes "Work") 50 as_it_was)
  pub move_group : Happens (after_move_group (codes "Work") (codes "Home") 50 edited)
  pub needs_none : needs_bin as_it_was ≡ false
  pub delete_entry : HappensSo Deleted (after_remove_entry (codes "Mail") None 50 as_it_was)
  pub delete_group : HappensSo Deleted (after_remove_group (codes "Work") None 50 as_it_was)
  pub needs : needs_bin without_bin ≡ true
  pub recycle_entry : HappensSo Recycled
      (after_remove_entry (codes "Mail") (Some home) 50 without_bin)
  pub recycle_group : HappensSo Recycled
      (after_remove_group (codes "Work") (Some home) 50 without_bin)
