-- A new bin, and a group that is moved into it.
use Rattle.std.proofs.Common.{not, ◌&&◌, ◌≡◌, ◌≢◌, ◌||◌, ◌≤◌, ◌+◌, ℕ, suc, Bool, true, false, cond, inl, inr, [], option_and_then, Option, None, Some, IfSome, IsSome, is_some, subst, refl, sym, ap, ◌∙◌, arith}
use Rattle.std.proofs.lemmas.Option.{same_Some}
use Rattle.vault_model.specs.declared.nodes.Group.{Group, out-Group}
use Rattle.std.specs.List.{list_all}
use Rattle.vault_model.specs.declared.nodes.Tombstone.{Tombstone}
use Rattle.vault_model.specs.Db.{NodeId, nil_id}
use Rattle.vault_model.specs.Join.{is_id}
use Rattle.vault_model.specs.SeenNodes.{tree_seen}
use Rattle.vault_model.specs.Tree.{BareDoc, IsDoc, LEVELS, Tree, Trees, beside, height, id_of, is_elsewhere, node, node_ids, none}
use Rattle.vault_model.proofs.Ids.{is_same_id, same_id}
use Rattle.vault_model.proofs.SeenGroups.{seen_group}
use Rattle.vault_model.proofs.Tests.{and_true, apart, decide, is_false, or_false, or_left, or_right, some_of}
use Rattle.tree_core.specs.Finding.{or_else}
use Rattle.tree_core.proofs.Around.{ids_rows, found_id, occurs_change, rows_change}
use Rattle.tree_core.proofs.Changed.{absent_group}
use Rattle.tree_core.proofs.Counted.{elsewhere_occurs, occurs}
use Rattle.tree_core.proofs.GroupDocs.{take_counts, take_root}
use Rattle.tree_core.proofs.Holders.{has_counts}
use Rattle.tree_core.proofs.Options.{never}
use Rattle.tree_core.specs.Changes.{changed_at, child_with, group_among, group_moved, group_with, has_group, have_group, is_free, level_among, level_of, own_group, parent_among, parent_of, with_group, with_last, without_group}
use Rattle.tree_core.specs.NewNodes.{empty_bin, empty_group}
use Rattle.tree_moves.proofs.GroupChildren.{found_child, found_child_id, hole_nil, hole_off, moved_some, place_some}
use Rattle.tree_moves.proofs.GroupsMoved.{moved_is_doc}
use Rattle.tree_moves.proofs.GroupParents.{no_parent}
use Rattle.tree_moves.specs.GroupPlaces.{group_at, group_placed}
use Rattle.tree_removals.specs.Removes.{with_bin_in}
use Rattle.tree_removals.proofs.LastGroups.{among_last, at_root, elsewhere_absent, last_there, put_in_last}
use Rattle.tree_removals.proofs.NewBins.{bin_is_doc}

-- ---- what is in a group of a tree is in the tree

mutual
  pub found_inside : (u v : NodeId) (t b : Tree) → group_with u t ≡ Some b → has_group v b ≡ true → has_group v t ≡ true
  found_inside u v (node w r es ts) b h has =
      elim (decide (is_id w u)) [
        | inl p ↦ ap (has_group v) (same_Some (node w r es ts) b (ap (λ c. cond c (Some (node w r es ts)) (group_among u ts)) (sym p) ∙ h)) ∙ has
        | inr p ↦ or_right (is_id w v) (have_group v ts) (found_among_inside u v ts b (ap (λ c. cond c (Some (node w r es ts)) (group_among u ts)) (sym p) ∙ h) has)
      ]

  found_among_inside : (u v : NodeId) (ts : Trees) (b : Tree) → group_among u ts ≡ Some b → has_group v b ≡ true → have_group v ts ≡ true
  found_among_inside u v none b h has = never b h
  found_among_inside u v (beside t ts) b h has =
      elim (decide (has_group u t)) [
        | inl p ↦ or_left (has_group v t) (have_group v ts) (found_inside u v t b (ap (λ c. cond c (group_with u t) (group_among u ts)) (sym p) ∙ h) has)
        | inr p ↦ or_right (has_group v t) (have_group v ts) (found_among_inside u v ts b (ap (λ c. cond c (group_with u t) (group_among u ts)) (sym p) ∙ h) has)
      ]

pub absent_inside : (u v : NodeId) (t b : Tree) → group_with u t ≡ Some b → has_group v t ≡ false → has_group v b ≡ false
absent_inside u v t b h off = is_false (has_group v b) (λ has. apart (has_group v t) (found_inside u v t b h has) off)

-- an id that is free is no node's
pub free_elsewhere : (u : NodeId) (d : BareDoc) → is_free u d ≡ true → is_elsewhere d.tree u ≡ true
free_elsewhere u d free =
    (and_true (not (is_id nil_id u)) (is_elsewhere d.tree u) (and_true (not (is_id nil_id u) && is_elsewhere d.tree u) (list_all (λ (t : Tombstone). not (is_id t.id u)) d.tombs) free).0).1

-- ---- a group put after the others of the root

own_last : (u : NodeId) (w : Tree) (ts : Trees) → is_id (id_of w) u ≡ false → own_group u (with_last w ts) ≡ own_group u ts
own_last u w none off = ap (λ c. cond c (Some w) None) off
own_last u w (beside t ts) off = ap (λ o. cond (is_id (id_of t) u) (Some t) o) (own_last u w ts off)

pub group_at_last : (g u : NodeId) (w t : Tree) → has_group g w ≡ false → is_id (id_of w) u ≡ false → group_at g u (changed_at (id_of t) (with_group w) t) ≡ group_at g u t
group_at_last g u w (node v r es ts) off other =
    ap (group_at g u) (at_root v (with_group w) (node v r es ts) refl)
    ∙ elim (decide (is_id v g)) [
      | inl p ↦
          ap (λ c. option_and_then (child_with u) (cond c (Some (node v r es (with_last w ts))) (group_among g (with_last w ts)))) p
          ∙ own_last u w ts other
          ∙ sym (ap (λ c. option_and_then (child_with u) (cond c (Some (node v r es ts)) (group_among g ts))) p)
      | inr p ↦
          ap (λ c. option_and_then (child_with u) (cond c (Some (node v r es (with_last w ts))) (group_among g (with_last w ts)))) p
          ∙ ap (option_and_then (child_with u)) (among_last g w ts off)
          ∙ sym (ap (λ c. option_and_then (child_with u) (cond c (Some (node v r es ts)) (group_among g ts))) p)
    ]

parents_last : (u : NodeId) (w : Tree) (ts : Trees) → has_group u w ≡ false → parent_among u (with_last w ts) ≡ parent_among u ts
parents_last u w none off = ap (λ o. or_else o None) (no_parent u w off)
parents_last u w (beside t ts) off = ap (or_else (parent_of u t)) (parents_last u w ts off)

root_id : (u : NodeId) (w : Tree) → has_group u w ≡ false → is_id (id_of w) u ≡ false
root_id u (node v r es ts) off = (or_false (is_id v u) (have_group u ts) off).0

pub parent_of_last : (u : NodeId) (w t : Tree) → has_group u w ≡ false → parent_of u (changed_at (id_of t) (with_group w) t) ≡ parent_of u t
parent_of_last u w (node v r es ts) off =
    ap (parent_of u) (at_root v (with_group w) (node v r es ts) refl)
    ∙ ap (λ (o : Option Tree). cond (some o) (Some v) (parent_among u (with_last w ts))) (own_last u w ts (root_id u w off))
    ∙ ap (λ o. cond (some (own_group u ts)) (Some v) o) (parents_last u w ts off)
  where
    some : Option Tree → Bool
    some o = is_some o

level_alone : (u : NodeId) (w : Tree) → id_of w ≡ u → level_of u w ≡ 1
level_alone u (node v r es ts) is = ap (λ c. cond c 1 (suc (level_among u ts))) (is_same_id v u is)

levels_last : (u : NodeId) (w : Tree) (ts : Trees) → id_of w ≡ u → has_group u w ≡ true → have_group u ts ≡ false → level_among u (with_last w ts) ≡ 1
levels_last u w none is has off = ap (λ c. cond c (level_of u w) 0) has ∙ level_alone u w is
levels_last u w (beside t ts) is has off =
    let both = or_false (has_group u t) (have_group u ts) off in
    ap (λ c. cond c (level_of u t) (level_among u (with_last w ts))) both.0 ∙ levels_last u w ts is has both.1

root_there : (u : NodeId) (w : Tree) → id_of w ≡ u → has_group u w ≡ true
root_there u (node v r es ts) is = or_left (is_id v u) (have_group u ts) (is_same_id v u is)

pub level_of_last : (u : NodeId) (w t : Tree) → id_of w ≡ u → has_group u t ≡ false → level_of u (changed_at (id_of t) (with_group w) t) ≡ 2
level_of_last u w (node v r es ts) is off =
    let both = or_false (is_id v u) (have_group u ts) off in
    ap (level_of u) (at_root v (with_group w) (node v r es ts) refl)
    ∙ ap (λ c. cond c 1 (suc (level_among u (with_last w ts)))) both.0
    ∙ ap suc (levels_last u w ts is (root_there u w is) both.1)

-- ---- a new bin with a place for a group

pub bin_put : (g : Group) (bin : NodeId) (now : ℕ) (hole w x new : Tree) → hole ≡ empty_group nil_id [] now → w ≡ empty_bin bin now → x ≡ changed_at bin (with_group hole) w
    → new ≡ changed_at (out-Group g).id (with_group x) (tree_seen g) → has_group bin (tree_seen g) ≡ false
    → (h : Tree) × (h ≡ empty_group nil_id [] now) × (new ≡ changed_at bin (with_group h) (with_bin_in bin now (tree_seen g)))
bin_put g bin now hole w x new nil p q r absent = (
  hole,
  nil,
  r
      ∙ ap (λ v. changed_at v (with_group x) (tree_seen g)) (sym (ap id_of (seen_group g)))
      ∙ ap (λ y. changed_at (id_of (tree_seen g)) (with_group y) (tree_seen g)) (q ∙ ap (changed_at bin (with_group hole)) p ∙ at_root bin (with_group hole) (empty_bin bin now) refl)
      ∙ sym (put_in_last bin (with_group hole) (empty_bin bin now) (tree_seen g) refl absent),
)

module _ (from u bin : NodeId) (now : ℕ) (old : Tree) (there : IsSome (group_at from u old)) (off : is_elsewhere old bin ≡ true) where
  abbrev mid : Tree
  mid = with_bin_in bin now old

  absent : has_group bin old ≡ false
  absent = elsewhere_absent bin old off

  -- the group that holds the one that is moved, and that one, are not the bin
  from_there : has_group from old ≡ true
  from_there = elim (decide (has_group from old)) [
    | inl p ↦ p
    | inr p ↦ apart false (subst (λ (o : Option Tree). IsSome (option_and_then (child_with u) o)) (absent_group from old p) there) refl
  ]

  pub other : from ≢ bin
  other = λ same. apart (has_group bin old) (subst (λ (v : NodeId). has_group v old ≡ true) same from_there) absent

  moved_counts : (g : Tree) → group_at from u old ≡ Some g → (x : NodeId) → occurs x (node_ids g) ≤ occurs x (node_ids old)
  moved_counts g at x =
      let f = found_child from u old g at in
      let change = occurs_change x old (changed_at from (without_group u) old) f.0 (without_group u f.0)
      (rows_change node_ids _ ids_rows from (without_group u) old f.0 f.1.0 (take_root u f.0 ∙ found_id from old f.0 f.1.0)) in
      let less = take_counts x u g f.0 f.1.1 in
      omega (arith, change, less)

  pub bin_outside : (g : Tree) → group_at from u old ≡ Some g → has_group bin g ≡ false
  bin_outside g at = is_false (has_group bin g) (λ has.
      let counts = has_counts bin g has in
      let few = moved_counts g at bin in
      let zero = elsewhere_occurs old bin off in
      absurd (omega (arith, counts, few, zero)))

  not_bin : is_id bin u ≡ false
  not_bin = is_false (is_id bin u) (λ p.
      let g = some_of (group_at from u old) there in
      let id = found_child_id from u old g.0 g.1 in
      apart (has_group bin g.0) (root_there bin g.0 (id ∙ sym (same_id bin u p))) (bin_outside g.0 g.1))

  off_bin : has_group from (empty_bin bin now) ≡ false
  off_bin = ap (λ b. b || false) (is_false (is_id bin from) (λ p. other (sym (same_id bin from p))))

  pub found : group_at from u mid ≡ group_at from u old
  found = group_at_last from u (empty_bin bin now) old off_bin not_bin

  pub u_off_bin : has_group u (empty_bin bin now) ≡ false
  u_off_bin = ap (λ b. b || false) not_bin

  pub there_too : IsSome (group_at from u mid)
  there_too = subst (λ (o : Option Tree). IsSome o) (sym found) there

  outside_too : IfSome (group_at from u mid) (λ g. has_group bin g ≡ false)
  outside_too =
      let g = some_of (group_at from u old) there in
      subst (λ (o : Option Tree). IfSome o (λ x. has_group bin x ≡ false)) (sym (found ∙ g.1)) (bin_outside g.0 g.1)

  module _ (one : Tree) (no_nil : is_elsewhere mid nil_id ≡ true) (place : (h : Tree) × (h ≡ empty_group nil_id [] now) × (one ≡ changed_at bin (with_group h) mid)) where
    no_from : has_group from place.0 ≡ false
    no_from = hole_off from u mid place.0 [] now there_too no_nil place.1

    pub there_still : IsSome (group_at from u one)
    there_still = place_some from bin u mid place.0 one other no_from there_too outside_too place.2

    pub moved_into : (time : ℕ) (new : Tree) → IfSome (group_at from u one) (λ x. new ≡ group_placed from bin time x one) → IfSome (group_at from u old) (λ g. new ≡ group_moved from bin time g mid)
    moved_into time new h =
        subst (λ (o : Option Tree). IfSome o (λ g. new ≡ group_moved from bin time g mid)) found
        (moved_some from bin u time mid place.0 one new other no_from (hole_nil place.0 [] now place.1) (last_there bin (empty_bin bin now) old refl) no_nil there_too outside_too place.2 h)

-- a document with a new bin and a group in it
pub into_bin_is_doc : (d : BareDoc) → IsDoc d → (from u bin : NodeId) (now time : ℕ) (g new : Tree) → is_free bin d ≡ true → group_at from u d.tree ≡ Some g → 2 + height g ≤ LEVELS
    → IfSome (group_at from u d.tree) (λ x. new ≡ group_moved from bin time x (with_bin_in bin now d.tree)) → IsDoc (record d { tree = new })
into_bin_is_doc d is from u bin now time g new free at fits h =
    let off = free_elsewhere bin d free in
    let some = ap (λ (o : Option Tree). is_some o) at in
    let mid : BareDoc = record d { tree = with_bin_in bin now d.tree } in
    let level = level_of_last bin (empty_bin bin now) d.tree refl (elsewhere_absent bin d.tree off) in
    subst (λ (t : Tree). IsDoc (record d { tree = t })) (sym (subst (λ (o : Option Tree). IfSome o (λ y. new ≡ group_moved from bin time y (with_bin_in bin now d.tree))) at h))
    (moved_is_doc mid (bin_is_doc d is bin now free) from bin u time g (last_there bin (empty_bin bin now) d.tree refl) (found from u bin now d.tree some off ∙ at)
    (bin_outside from u bin now d.tree some off g at) (omega (arith, level, fits)))
