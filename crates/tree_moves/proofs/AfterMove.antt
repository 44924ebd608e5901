-- What `move_entry` comes to, step by step.
use Rattle.std.proofs.Common.{◌≡◌, ℕ, true, false, List, None, Some, Result, Ok, Err, ◌∙◌}
use Rattle.vault_model.specs.Db.{NodeId}
use Rattle.vault_model.specs.Join.{is_id}
use Rattle.vault_model.specs.Shape.{EntryRecord}
use Rattle.vault_model.specs.Tree.{BareDoc}
use Rattle.outside_core.specs.Results.{◌>>=◌}
use Rattle.tree_core.specs.Finding.{entry_found, group_found}
use Rattle.tree_core.specs.declared.fails.TreeFail.{TreeFail}
use Rattle.tree_core.specs.declared.fails.TreeFail.TheVariants.{AlreadyThere, NoSuchPath}
use Rattle.tree_core.specs.After.{Holding, after_move_entry, entry_moved_to, entry_named, named_or_refusal, refuse_if, time_after}
use Rattle.tree_core.specs.Changes.{entry_at, entry_moved, holder}
use Rattle.tree_core.proofs.Binds.{ends, goes_on, names, names_none, passes, refuses}

module _ (path goal : List ℕ) (now : ℕ) (d : BareDoc) where
  abbrev rest : Holding → Result BareDoc TreeFail
  rest held = named_or_refusal (group_found d goal) >>= λ group. refuse_if (is_id held.group group) AlreadyThere >>= λ _. entry_moved_to group held now d

  no_entry : entry_named path d ≡ Err NoSuchPath → after_move_entry path goal now d ≡ Err NoSuchPath
  no_entry e = ends rest (entry_named path d) NoSuchPath e

  pub move_no_path : entry_found d path ≡ None → after_move_entry path goal now d ≡ Err NoSuchPath
  move_no_path none = no_entry (names_none _ (entry_found d path) none)

  module _ (u : NodeId) (found : entry_found d path ≡ Some u) where
    pub move_no_holder : holder u d.tree ≡ None → after_move_entry path goal now d ≡ Err NoSuchPath
    move_no_holder none = no_entry (names _ (entry_found d path) u found ∙ names_none _ (holder u d.tree) none)

    module _ (g : NodeId) (held : holder u d.tree ≡ Some g) where
      pub move_no_entry : entry_at g u d.tree ≡ None → after_move_entry path goal now d ≡ Err NoSuchPath
      move_no_entry none = no_entry (names _ (entry_found d path) u found ∙ names _ (holder u d.tree) g held ∙ names_none _ (entry_at g u d.tree) none)

      module _ (e : NodeId × EntryRecord) (there : entry_at g u d.tree ≡ Some e) where
        from_here : after_move_entry path goal now d ≡ rest (record { group = g; entry = e })
        from_here =
            goes_on rest (entry_named path d) (record { group = g; entry = e })
            (names _ (entry_found d path) u found ∙ names _ (holder u d.tree) g held ∙ names _ (entry_at g u d.tree) e there)

        pub move_no_group : group_found d goal ≡ None → after_move_entry path goal now d ≡ Err NoSuchPath
        move_no_group none = from_here ∙ names_none _ (group_found d goal) none

        module _ (t : NodeId) (to : group_found d goal ≡ Some t) where
          pub move_there_already : is_id g t ≡ true → after_move_entry path goal now d ≡ Err AlreadyThere
          move_there_already same = from_here ∙ names _ (group_found d goal) t to ∙ refuses _ (is_id g t) AlreadyThere same

          pub move_comes : is_id g t ≡ false → (time : ℕ) → time_after now e.1.placed ≡ Ok time
              → after_move_entry path goal now d ≡ Ok (record d { tree = entry_moved g t time e d.tree })
          move_comes other time then =
              from_here ∙ names _ (group_found d goal) t to ∙ passes _ (is_id g t) AlreadyThere other ∙ goes_on _ (time_after now e.1.placed) time then
