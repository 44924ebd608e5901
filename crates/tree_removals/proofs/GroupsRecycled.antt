-- What putting a group into the bin comes to, step by step.
use Rattle.std.proofs.Common.{◌≡◌, ◌≢◌, ◌≤◌, ◌+◌, ℕ, Bool, true, false, inl, not, nat_lt, List, Option, None, Some, Result, Ok, Err, IfSome, subst, refl, sym, ap, ◌∙◌, arith}
use Rattle.std.specs.Prelude.{if◌then◌else◌, nat_le}
use Rattle.std.specs.Option.{option_and_then}
use Rattle.std.proofs.lemmas.Bool.{leb-false, leb-true, le-ltb, lt-ltb}
use Rattle.outside_core.specs.Results.{◌>>=◌}
use Rattle.vault_model.specs.Db.{NodeId}
use Rattle.vault_model.specs.Join.{is_id}
use Rattle.vault_model.specs.Tree.{BareDoc, IsDoc, LEVELS, Tree, height, id_of, node}
use Rattle.vault_model.proofs.Tests.{and_true, apart, not_true, or_right}
use Rattle.tree_core.specs.Finding.{group_found}
use Rattle.tree_core.specs.declared.fails.Removed.TheVariants.{Recycled}
use Rattle.tree_core.specs.declared.fails.TreeFail.{TreeFail}
use Rattle.tree_core.specs.declared.fails.TreeFail.TheVariants.{IdTaken, IntoItself, NoSuchPath, RootFixed, TooDeep}
use Rattle.tree_core.specs.After.{AfterRemoval, after_recycling, after_remove_group, bin_level, group_deleted, group_moved_to, group_recycled, has_group_in, is_in_bin, is_recycled, named_or_refusal, refuse_if, time_after, with_bin, with_bin_made}
use Rattle.tree_core.specs.Changes.{changed_at, child_with, group_moved, group_with, has_group, have_group, is_free, level_of, parent_of, placed_of, with_group}
use Rattle.tree_core.specs.NewNodes.{empty_bin}
use Rattle.tree_core.proofs.Around.{found_id}
use Rattle.tree_core.proofs.Binds.{passes, refuses}
use Rattle.tree_moves.proofs.AfterGroupMove.{moved, not_moved}
use Rattle.tree_moves.proofs.GroupChildren.{found_child}
use Rattle.tree_moves.proofs.GroupParents.{own_has, parent_child}
use Rattle.tree_moves.specs.GroupPlaces.{time_of_move}
use Rattle.tree_removals.specs.Removes.{Removes}

-- ---- a bin that is there

abbrev pub bin_of : BareDoc → NodeId
bin_of d = d.meta.bin.value.id

-- what goes into the bin is not in the bin itself
child_there : (u : NodeId) (b g : Tree) → child_with u b ≡ Some g → has_group u b ≡ true
child_there u (node v r es ts) g h = or_right (is_id v u) (have_group u ts) (own_has u g ts h)

pub not_bin : (d : BareDoc) → IsDoc d → (from u : NodeId) (g : Tree) → parent_of u d.tree ≡ Some from → group_with u d.tree ≡ Some g → is_recycled u d ≡ true → from ≢ bin_of d
not_bin d is from u g parent there goes = λ same.
    let f = found_child from u d.tree g (parent_child d is u from g parent there) in
    let both = and_true d.meta.bin.value.enabled (not (is_in_bin u d)) goes in
    let in_it = ap (λ v. has_group_in u (group_with v d.tree)) (sym same) ∙ ap (has_group_in u) f.1.0 ∙ child_there u f.0 g f.1.1 in
    apart (is_in_bin u d) in_it (not_true (is_in_bin u d) both.1)

-- ---- a bin that is made

module _ (d : BareDoc) (g : Tree) (now : ℕ) (bin : NodeId) (missing : has_group (bin_of d) d.tree ≡ false) (apart : has_group (bin_of d) g ≡ false) where
  -- the document with the bin
  abbrev pub ready : ℕ → BareDoc
  ready since = record d { tree = changed_at (id_of d.tree) (with_group (empty_bin bin now)) d.tree; meta = with_bin bin since d.meta }

  abbrev into : BareDoc → Result AfterRemoval TreeFail
  into with = group_moved_to with.meta.bin.value.id g now with >>= after_recycling

  abbrev deep : ℕ → Bool
  deep level = nat_lt LEVELS (level + height g)

  level : bin_level d ≡ 2
  level = ap (λ c. if c then level_of (bin_of d) d.tree else 2) missing

  starts : group_recycled (Some bin) g now d ≡ (refuse_if (deep 2) TooDeep >>= λ _. (with_bin_made (Some bin) now d >>= into))
  starts =
      passes _ (has_group (bin_of d) g) (IntoItself (id_of g)) apart
      ∙ ap (λ n. refuse_if (deep n) TooDeep >>= λ _. (with_bin_made (Some bin) now d >>= into)) level

  pub new_too_deep : nat_le (height g) 126 ≡ false → group_recycled (Some bin) g now d ≡ Err TooDeep
  new_too_deep high =
      let more = leb-false (height g) 126 high in
      starts ∙ refuses _ (deep 2) TooDeep (lt-ltb 128 (2 + height g) (omega (arith, more)))

  module _ (low : nat_le (height g) 126 ≡ true) where
    pub fits : 2 + height g ≤ LEVELS
    fits = let most = leb-true (height g) 126 low in omega (arith, most)

    goes : group_recycled (Some bin) g now d ≡ (with_bin_made (Some bin) now d >>= into)
    goes = starts ∙ passes _ (deep 2) TooDeep (le-ltb 128 (2 + height g) fits)

    pub new_taken : is_free bin d ≡ false → group_recycled (Some bin) g now d ≡ Err (IdTaken bin)
    new_taken taken = goes ∙ ap (λ r. r >>= into) (refuses _ (not (is_free bin d)) (IdTaken bin) (ap not taken))

    module _ (free : is_free bin d ≡ true) where
      made : with_bin_made (Some bin) now d ≡ (time_after now d.meta.bin.changed >>= λ since. Ok (ready since))
      made = passes _ (not (is_free bin d)) (IdTaken bin) (ap not free)

      pub new_since : (e : TreeFail) → time_after now d.meta.bin.changed ≡ Err e → group_recycled (Some bin) g now d ≡ Err e
      new_since e h = goes ∙ ap (λ r. r >>= into) (made ∙ ap (λ (r : Result ℕ TreeFail). r >>= λ since. Ok (ready since)) h)

      module _ (since : ℕ) (is : time_after now d.meta.bin.changed ≡ Ok since) (outside : has_group bin g ≡ false) (two : level_of bin (ready since).tree ≡ 2) where
        goes_into : group_recycled (Some bin) g now d ≡ (group_moved_to bin g now (ready since) >>= after_recycling)
        goes_into = goes ∙ ap (λ r. r >>= into) (made ∙ ap (λ (r : Result ℕ TreeFail). r >>= λ s. Ok (ready s)) is)

        time_is : time_of_move bin g now (ready since).tree ≡ time_after now (placed_of g)
        time_is =
            passes _ (has_group bin g) (IntoItself (id_of g)) outside
            ∙ passes _ (deep (level_of bin (ready since).tree)) TooDeep (ap deep two ∙ le-ltb 128 (2 + height g) fits)

        pub new_time : (e : TreeFail) → time_after now (placed_of g) ≡ Err e → group_recycled (Some bin) g now d ≡ Err e
        new_time e h = goes_into ∙ ap (λ r. r >>= after_recycling) (not_moved bin g now (ready since) e (time_is ∙ h))

        pub new_done : (u from : NodeId) (time : ℕ) → time_after now (placed_of g) ≡ Ok time → id_of g ≡ u → parent_of u (ready since).tree ≡ Some from
            → group_recycled (Some bin) g now d ≡ Ok (record { removed = Recycled; doc = record (ready since) { tree = group_moved from bin time g (ready since).tree } })
        new_done u from time h id parent = goes_into ∙ ap (λ r. r >>= after_recycling) (moved bin g now (ready since) time u from (time_is ∙ h) id parent)

-- ---- a refusal where a bin is made

pub new_refused : (d : BareDoc) (u : NodeId) (g : Tree) (bin : NodeId) (now : ℕ) (e : TreeFail) → group_with u d.tree ≡ Some g → group_recycled (Some bin) g now d ≡ Err e
    → IfSome (group_with u d.tree) (λ x. Removes (group_recycled (Some bin) x now d) (Err e) d d)
new_refused d u g bin now e there h = subst (λ (o : Option Tree). IfSome o (λ x. Removes (group_recycled (Some bin) x now d) (Err e) d d)) (sym there) (refl, inl h)

-- ---- a removal by a path

module _ (path : List ℕ) (bin : Option NodeId) (now : ℕ) (d : BareDoc) where
  abbrev removes : Tree → Result AfterRemoval TreeFail
  removes g = do
    _ ← refuse_if (is_id (id_of g) (id_of d.tree)) RootFixed
    if is_recycled (id_of g) d then group_recycled bin g now d else Ok (group_deleted g now d)

  pub no_group : group_found d path ≡ None → after_remove_group path bin now d ≡ Err NoSuchPath
  no_group off = ap (λ o. named_or_refusal (option_and_then (λ id. group_with id d.tree) o) >>= removes) off

  module _ (u : NodeId) (g : Tree) (found : group_found d path ≡ Some u) (there : group_with u d.tree ≡ Some g) where
    begins : after_remove_group path bin now d ≡ removes g
    begins = ap (λ o. named_or_refusal (option_and_then (λ id. group_with id d.tree) o) >>= removes) found ∙ ap (λ o. named_or_refusal o >>= removes) there

    id : id_of g ≡ u
    id = found_id u d.tree g there

    pub fixed : is_id u (id_of d.tree) ≡ true → after_remove_group path bin now d ≡ Err RootFixed
    fixed h = begins ∙ refuses _ (is_id (id_of g) (id_of d.tree)) RootFixed (ap (λ v. is_id v (id_of d.tree)) id ∙ h)

    module _ (moves : is_id u (id_of d.tree) ≡ false) where
      goes_on_to : after_remove_group path bin now d ≡ (if is_recycled (id_of g) d then group_recycled bin g now d else Ok (group_deleted g now d))
      goes_on_to = begins ∙ passes _ (is_id (id_of g) (id_of d.tree)) RootFixed (ap (λ v. is_id v (id_of d.tree)) id ∙ moves)

      pub is_deleted : is_recycled u d ≡ false → after_remove_group path bin now d ≡ Ok (group_deleted g now d)
      is_deleted h = goes_on_to ∙ ap (λ c. if c then group_recycled bin g now d else Ok (group_deleted g now d)) (ap (λ v. is_recycled v d) id ∙ h)

      pub goes_into_bin : is_recycled u d ≡ true → after_remove_group path bin now d ≡ group_recycled bin g now d
      goes_into_bin h = goes_on_to ∙ ap (λ c. if c then group_recycled bin g now d else Ok (group_deleted g now d)) (ap (λ v. is_recycled v d) id ∙ h)
