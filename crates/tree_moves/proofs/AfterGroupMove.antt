-- What a move of a group comes to, step by step.
use Rattle.std.proofs.Common.{◌≡◌, ◌<◌, ◌≤◌, ◌+◌, ℕ, Bool, true, false, inl, inr, not, nat_lt, List, MatchOption, Option, None, Some, Result, Ok, Err, IfSome, subst, refl, sym, ap, ◌∙◌, arith}
use Rattle.std.specs.Prelude.{nat_le}
use Rattle.std.specs.Option.{option_and_then, unwrap_or}
use borrow.Author.Tests.{ltb-false}
use Rattle.std.proofs.lemmas.Bool.{leb-false, leb-true, lt-leb, le-ltb, lt-ltb}
use Rattle.outside_core.specs.Results.{◌>>=◌}
use Rattle.vault_model.specs.Db.{NodeId}
use Rattle.vault_model.specs.Join.{is_id}
use Rattle.vault_model.specs.Tree.{BareDoc, LEVELS, Tree, height, id_of, node}
use Rattle.vault_model.specs.SeenNodes.{tree_seen}
use Rattle.vault_model.specs.declared.nodes.Group.{Group, out-Group}
use Rattle.vault_model.proofs.SeenGroups.{seen_group}
use Rattle.vault_model.proofs.Tests.{decide, not_true}
use Rattle.tree_core.specs.Finding.{group_found}
use Rattle.tree_core.specs.declared.fails.TreeFail.{TreeFail}
use Rattle.tree_core.specs.declared.fails.TreeFail.TheVariants.{AlreadyThere, IntoItself, NoMemory, NoSuchPath, RootFixed, TooDeep}
use Rattle.tree_core.specs.After.{Changes, after_move_group, group_moved_to, is_parent, named_or_refusal, refuse_if, time_after}
use Rattle.tree_core.specs.Changes.{group_moved, group_with, has_group, level_of, parent_of, placed_of}
use Rattle.tree_core.proofs.Around.{found_id}
use Rattle.tree_core.proofs.Binds.{names, names_none, passes, refuses}
use Rattle.tree_moves.specs.GroupPlaces.{group_at, time_of_move}

-- ---- levels

some_height : (g : Tree) → 1 ≤ height g
some_height (node v r es ts) = omega arith

-- a group fits below another where no level passes the limit
pub fits_is : (o : Option ℕ) (level : ℕ) (g : Tree) → MatchOption o (128 < level) (λ below. below + level ≡ 128) → nat_le (height g) (unwrap_or o 0) ≡ not (nat_lt LEVELS (level + height g))
fits_is None level g h =
    let some = some_height g in
    let past : 128 < level + height g = omega (arith, h, some) in
    let high : 0 < height g = omega (arith, some) in
    lt-leb (height g) 0 high ∙ sym (ap not (lt-ltb 128 (level + height g) past))
fits_is (Some below) level g h =
    elim (decide (nat_le (height g) below)) [
      | inl p ↦
          let low = leb-true (height g) below p in
          let fits : level + height g ≤ 128 = omega (arith, h, low) in
          p ∙ sym (ap not (le-ltb 128 (level + height g) fits))
      | inr p ↦
          let high = leb-false (height g) below p in
          let past : 128 < level + height g = omega (arith, h, high) in
          p ∙ sym (ap not (lt-ltb 128 (level + height g) past))
    ]

un_not : (b : Bool) → not b ≡ false → b ≡ true
un_not true e = refl
un_not false e = sym e

module _ (to : NodeId) (g : Group) (now : ℕ) (t : Tree) where
  abbrev seen : Tree
  seen = tree_seen g

  pub time_into : has_group to seen ≡ true → Err (IntoItself (out-Group g).id) ≡ time_of_move to seen now t
  time_into p = sym (refuses _ (has_group to seen) (IntoItself (id_of seen)) p ∙ ap (λ v. Err (IntoItself v)) (ap id_of (seen_group g)))

  module _ (outside : has_group to seen ≡ false) (o : Option ℕ) (level : MatchOption o (128 < level_of to t) (λ below. below + level_of to t ≡ 128)) where
    pub time_deep : nat_le (height seen) (unwrap_or o 0) ≡ false → Err TooDeep ≡ time_of_move to seen now t
    time_deep high =
        let deep = un_not (nat_lt LEVELS (level_of to t + height seen)) (sym (fits_is o (level_of to t) seen level) ∙ high) in
        sym (passes _ (has_group to seen) (IntoItself (id_of seen)) outside ∙ refuses _ (nat_lt LEVELS (level_of to t + height seen)) TooDeep deep)

    pub time_is : nat_le (height seen) (unwrap_or o 0) ≡ true → (r : Result ℕ TreeFail) → r ≡ time_after now (out-Group g).placed → r ≡ time_of_move to seen now t
    time_is low r is =
        let fits = not_true (nat_lt LEVELS (level_of to t + height seen)) (sym (fits_is o (level_of to t) seen level) ∙ low) in
        is ∙ ap (time_after now) (sym (ap placed_of (seen_group g)))
        ∙ sym (passes _ (has_group to seen) (IntoItself (id_of seen)) outside ∙ passes _ (nat_lt LEVELS (level_of to t + height seen)) TooDeep fits)

-- ---- the time of a move

two_refusals : {A : Type 0} (b c : Bool) (x y : TreeFail) (r : Result ℕ TreeFail) (next : ℕ → Result A TreeFail)
    → (refuse_if b x >>= λ _. (refuse_if c y >>= λ _. (r >>= next))) ≡ ((refuse_if b x >>= λ _. (refuse_if c y >>= λ _. r)) >>= next)
two_refusals true c x y r next = refl
two_refusals false true x y r next = refl
two_refusals false false x y r next = refl

module _ (to : NodeId) (g : Tree) (now : ℕ) (d : BareDoc) where
  abbrev moved_at : ℕ → Result BareDoc TreeFail
  moved_at time = Ok (record d { tree = group_moved (unwrap_or (parent_of (id_of g) d.tree) (id_of d.tree)) to time g d.tree })

  by_time : group_moved_to to g now d ≡ (time_of_move to g now d.tree >>= moved_at)
  by_time = two_refusals (has_group to g) (nat_lt LEVELS (level_of to d.tree + height g)) (IntoItself (id_of g)) TooDeep (time_after now (placed_of g)) moved_at

  pub not_moved : (fail : TreeFail) → time_of_move to g now d.tree ≡ Err fail → group_moved_to to g now d ≡ Err fail
  not_moved fail h = by_time ∙ ap (λ r. r >>= moved_at) h

  pub moved : (time : ℕ) (u from : NodeId) → time_of_move to g now d.tree ≡ Ok time → id_of g ≡ u → parent_of u d.tree ≡ Some from → group_moved_to to g now d ≡ Ok (record d { tree = group_moved from to time g d.tree })
  moved time u from h id parent =
      by_time ∙ ap (λ r. r >>= moved_at) h
      ∙ ap (λ o. Ok (record d { tree = group_moved (unwrap_or o (id_of d.tree)) to time g d.tree })) (ap (λ v. parent_of v d.tree) id ∙ parent)

-- ---- what a time says of the move

both_pass : (b c : Bool) (x y : TreeFail) (r : Result ℕ TreeFail) (time : ℕ) → (refuse_if b x >>= λ _. (refuse_if c y >>= λ _. r)) ≡ Ok time → (b ≡ false) × (c ≡ false)
both_pass true c x y r time h = cc h
both_pass false true x y r time h = cc h
both_pass false false x y r time h = (refl, refl)

pub move_passes : (to : NodeId) (g : Tree) (now time : ℕ) (t : Tree) → time_of_move to g now t ≡ Ok time → (has_group to g ≡ false) × (level_of to t + height g ≤ LEVELS)
move_passes to g now time t h =
    let both = both_pass (has_group to g) (nat_lt LEVELS (level_of to t + height g)) (IntoItself (id_of g)) TooDeep (time_after now (placed_of g)) time h in
    (both.0, ltb-false LEVELS (level_of to t + height g) both.1)

pub is_outside : (from to u : NodeId) (t g : Tree) → group_at from u t ≡ Some g → has_group to g ≡ false → IfSome (group_at from u t) (λ x. has_group to x ≡ false)
is_outside from to u t g at off = subst (λ (o : Option Tree). IfSome o (λ x. has_group to x ≡ false)) (sym at) off

-- ---- a group that is found, and moved or not

abbrev Moves : BareDoc → NodeId → NodeId → ℕ → Result (Unit {0}) TreeFail → BareDoc → Type 0
Moves d u to now result new = IfSome (group_with u d.tree) (λ g. Changes (group_moved_to to g now d) result d new)

pub found_nowhere : (d new : BareDoc) (u to : NodeId) (now : ℕ) (result : Result (Unit {0}) TreeFail) → group_with u d.tree ≡ None → Moves d u to now result new
found_nowhere d new u to now result off = subst (λ (o : Option Tree). IfSome o (λ x. Changes (group_moved_to to x now d) result d new)) (sym off) tt

pub found_not_moved : (d new : BareDoc) (u to : NodeId) (now : ℕ) (g : Tree) (fail : TreeFail) → group_with u d.tree ≡ Some g → time_of_move to g now d.tree ≡ Err fail → new ≡ d → Moves d u to now (Err fail) new
found_not_moved d new u to now g fail there h same =
    subst (λ (o : Option Tree). IfSome o (λ x. Changes (group_moved_to to x now d) (Err fail) d new)) (sym there) (same, inl (not_moved to g now d fail h))

pub found_no_memory : (d new : BareDoc) (u to : NodeId) (now : ℕ) (g : Tree) → group_with u d.tree ≡ Some g → new ≡ d → Moves d u to now (Err NoMemory) new
found_no_memory d new u to now g there same =
    subst (λ (o : Option Tree). IfSome o (λ x. Changes (group_moved_to to x now d) (Err NoMemory) d new)) (sym there) (same, inr refl)

pub found_moved : (d : BareDoc) (new : Tree) (u from to : NodeId) (now time : ℕ) (g : Tree) → group_with u d.tree ≡ Some g → group_at from u d.tree ≡ Some g → parent_of u d.tree ≡ Some from
    → time_of_move to g now d.tree ≡ Ok time → IfSome (group_at from u d.tree) (λ x. new ≡ group_moved from to time x d.tree) → Moves d u to now (Ok tt) (record d { tree = new })
found_moved d new u from to now time g there at parent h made =
    subst (λ (o : Option Tree). IfSome o (λ x. Changes (group_moved_to to x now d) (Ok tt) d (record d { tree = new }))) (sym there)
    (moved to g now d time u from h (found_id u d.tree g there) parent
    ∙ ap (λ t. Ok (record d { tree = t })) (sym (subst (λ (o : Option Tree). IfSome o (λ x. new ≡ group_moved from to time x d.tree)) at made)))

-- ---- a move between paths

module _ (path goal : List ℕ) (now : ℕ) (d : BareDoc) where
  abbrev to_goal : Tree → Result BareDoc TreeFail
  to_goal moving = do
    group ← named_or_refusal (group_found d goal)
    _ ← refuse_if (is_parent group (parent_of (id_of moving) d.tree)) AlreadyThere
    _ ← refuse_if (is_id (id_of moving) (id_of d.tree)) RootFixed
    group_moved_to group moving now d

  pub no_group : group_found d path ≡ None → after_move_group path goal now d ≡ Err NoSuchPath
  no_group off = ap (λ o. named_or_refusal (option_and_then (λ id. group_with id d.tree) o) >>= to_goal) off

  module _ (u : NodeId) (g : Tree) (found : group_found d path ≡ Some u) (there : group_with u d.tree ≡ Some g) where
    goes : after_move_group path goal now d ≡ to_goal g
    goes = ap (λ o. named_or_refusal (option_and_then (λ id. group_with id d.tree) o) >>= to_goal) found ∙ ap (λ o. named_or_refusal o >>= to_goal) there

    pub no_goal : group_found d goal ≡ None → after_move_group path goal now d ≡ Err NoSuchPath
    no_goal off = goes ∙ names_none _ (group_found d goal) off

    module _ (to : NodeId) (is : group_found d goal ≡ Some to) where
      pub already : is_parent to (parent_of u d.tree) ≡ true → after_move_group path goal now d ≡ Err AlreadyThere
      already h =
          goes ∙ names _ (group_found d goal) to is
          ∙ refuses _ (is_parent to (parent_of (id_of g) d.tree)) AlreadyThere (ap (λ v. is_parent to (parent_of v d.tree)) (found_id u d.tree g there) ∙ h)

      module _ (elsewhere : is_parent to (parent_of u d.tree) ≡ false) where
        pub fixed : is_id u (id_of d.tree) ≡ true → after_move_group path goal now d ≡ Err RootFixed
        fixed h =
            goes ∙ names _ (group_found d goal) to is
            ∙ passes _ (is_parent to (parent_of (id_of g) d.tree)) AlreadyThere (ap (λ v. is_parent to (parent_of v d.tree)) (found_id u d.tree g there) ∙ elsewhere)
            ∙ refuses _ (is_id (id_of g) (id_of d.tree)) RootFixed (ap (λ v. is_id v (id_of d.tree)) (found_id u d.tree g there) ∙ h)

        pub moves_on : is_id u (id_of d.tree) ≡ false → after_move_group path goal now d ≡ group_moved_to to g now d
        moves_on h =
            goes ∙ names _ (group_found d goal) to is
            ∙ passes _ (is_parent to (parent_of (id_of g) d.tree)) AlreadyThere (ap (λ v. is_parent to (parent_of v d.tree)) (found_id u d.tree g there) ∙ elsewhere)
            ∙ passes _ (is_id (id_of g) (id_of d.tree)) RootFixed (ap (λ v. is_id v (id_of d.tree)) (found_id u d.tree g there) ∙ h)
