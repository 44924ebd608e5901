-- What `make_group` comes to, step by step.
use Rattle.std.proofs.Common.{◌≡◌, ℕ, true, false, not, nat_lt, ◌+◌, List, None, Some, Ok, Err, ap, ◌∙◌}
use Rattle.vault_model.specs.Db.{NodeId}
use Rattle.vault_model.specs.Tree.{BareDoc, LEVELS}
use Rattle.tree_core.specs.Finding.{group_at_path}
use Rattle.tree_core.specs.declared.fails.TreeFail.TheVariants.{IdTaken, NameTaken, NoSuchPath, TooDeep}
use Rattle.tree_core.specs.After.{after_new_group, is_group_taken}
use Rattle.tree_core.specs.Changes.{changed_at, is_free, level_of, with_group}
use Rattle.tree_core.specs.NewNodes.{empty_group}
use Rattle.tree_core.specs.NewPaths.{after_last, before_last, new_path}
use Rattle.tree_core.proofs.Binds.{names, names_none, passes, refuses}

module _ (path : List ℕ) (id : NodeId) (now : ℕ) (d : BareDoc) where
  pub make_no_path : group_at_path d (before_last path) ≡ None → after_new_group path id now d ≡ Err NoSuchPath
  make_no_path none = names_none _ (group_at_path d (before_last path)) none

  module _ (g : NodeId) (there : group_at_path d (before_last path) ≡ Some g) where
    pub make_taken : is_group_taken (new_path path) d ≡ true → after_new_group path id now d ≡ Err NameTaken
    make_taken taken = names _ (group_at_path d (before_last path)) g there ∙ refuses _ (is_group_taken (new_path path) d) NameTaken taken

    module _ (free_path : is_group_taken (new_path path) d ≡ false) where
      pub make_too_deep : nat_lt LEVELS (level_of g d.tree + 1) ≡ true → after_new_group path id now d ≡ Err TooDeep
      make_too_deep deep =
          names _ (group_at_path d (before_last path)) g there
          ∙ passes _ (is_group_taken (new_path path) d) NameTaken free_path
          ∙ refuses _ (nat_lt LEVELS (level_of g d.tree + 1)) TooDeep deep

      module _ (fits : nat_lt LEVELS (level_of g d.tree + 1) ≡ false) where
        pub make_id_taken : is_free id d ≡ false → after_new_group path id now d ≡ Err (IdTaken id)
        make_id_taken taken =
            names _ (group_at_path d (before_last path)) g there
            ∙ passes _ (is_group_taken (new_path path) d) NameTaken free_path
            ∙ passes _ (nat_lt LEVELS (level_of g d.tree + 1)) TooDeep fits
            ∙ refuses _ (not (is_free id d)) (IdTaken id) (ap not taken)

        pub make_done : is_free id d ≡ true
            → after_new_group path id now d ≡ Ok (record d { tree = changed_at g (with_group (empty_group id (after_last path) now)) d.tree })
        make_done free =
            names _ (group_at_path d (before_last path)) g there
            ∙ passes _ (is_group_taken (new_path path) d) NameTaken free_path
            ∙ passes _ (nat_lt LEVELS (level_of g d.tree + 1)) TooDeep fits
            ∙ passes _ (not (is_free id d)) (IdTaken id) (ap not free)
