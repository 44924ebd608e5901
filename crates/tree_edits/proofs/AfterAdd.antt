-- What `add` comes to, step by step.
use Rattle.std.proofs.Common.{◌≡◌, ℕ, true, false, not, List, None, Some, Ok, Err, ap, ◌∙◌}
use Rattle.vault_model.specs.Db.{NodeId}
use Rattle.vault_model.specs.Tree.{BareDoc}
use Rattle.tree_core.specs.Finding.{group_at_path, has_entry_path}
use Rattle.tree_core.specs.declared.fails.TreeFail.TheVariants.{IdTaken, NameTaken, NoSuchPath}
use Rattle.tree_core.specs.After.{after_add}
use Rattle.tree_core.specs.Changes.{changed_at, is_free, with_entry}
use Rattle.tree_core.specs.NewNodes.{GivenValues, new_entry, new_fields}
use Rattle.tree_core.specs.NewPaths.{after_last, before_last, new_path}
use Rattle.tree_core.proofs.Binds.{names, names_none, passes, refuses}

module _ (path : List ℕ) (id : NodeId) (v : GivenValues) (now : ℕ) (d : BareDoc) where
  pub add_no_path : group_at_path d (before_last path) ≡ None → after_add path id v now d ≡ Err NoSuchPath
  add_no_path none = names_none _ (group_at_path d (before_last path)) none

  module _ (g : NodeId) (there : group_at_path d (before_last path) ≡ Some g) where
    pub add_taken : has_entry_path d (new_path path) ≡ true → after_add path id v now d ≡ Err NameTaken
    add_taken taken = names _ (group_at_path d (before_last path)) g there ∙ refuses _ (has_entry_path d (new_path path)) NameTaken taken

    module _ (free_path : has_entry_path d (new_path path) ≡ false) where
      pub add_id_taken : is_free id d ≡ false → after_add path id v now d ≡ Err (IdTaken id)
      add_id_taken taken =
          names _ (group_at_path d (before_last path)) g there
          ∙ passes _ (has_entry_path d (new_path path)) NameTaken free_path
          ∙ refuses _ (not (is_free id d)) (IdTaken id) (ap not taken)

      pub add_done : is_free id d ≡ true
          → after_add path id v now d
          ≡ Ok (record d { tree = changed_at g (with_entry (id, new_entry (new_fields d.meta.settings.value.protect (after_last path) v) now)) d.tree })
      add_done free =
          names _ (group_at_path d (before_last path)) g there
          ∙ passes _ (has_entry_path d (new_path path)) NameTaken free_path
          ∙ passes _ (not (is_free id d)) (IdTaken id) (ap not free)
