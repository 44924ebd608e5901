-- The group that holds a group: it is there, and the group is found in it.
use Rattle.std.proofs.Common.{◌≡◌, ◌≤◌, ◌<◌, ◌+◌, ℕ, Bool, suc, true, false, cond, is_some, option_and_then, inl, inr, List, ◌∷◌, Option, None, Some, get_or, drop, length, refl, sym, ap, ◌∙◌, arith}
use Rattle.std.proofs.Math.Seq.{drop-cons}
use Rattle.std.proofs.lemmas.List.{drop_all}
use Rattle.std.proofs.lemmas.Option.{same_Some}
use Rattle.vault_model.specs.Db.{NodeId}
use Rattle.vault_model.specs.Join.{is_id}
use Rattle.vault_model.specs.SeenNodes.{tree_seen}
use Rattle.vault_model.specs.Tree.{BareDoc, IsDoc, Tree, Trees, beside, id_of, node, node_ids, node_ids_all, none}
use Rattle.vault_model.specs.declared.nodes.Group.{Group, out-Group}
use Rattle.vault_model.proofs.Ids.{is_same_id, same_id}
use Rattle.vault_model.proofs.SeenGroups.{seen_group}
use Rattle.vault_model.proofs.Tests.{apart, decide, is_false, or_left, or_right, some_of}
use Rattle.tree_core.specs.Finding.{or_else}
use Rattle.tree_core.specs.Changes.{child_with, group_among, group_with, has_group, have_group, own_group, parent_among, parent_of}
use Rattle.tree_core.proofs.Counted.{occurs, occurs-append, once, one_if}
use Rattle.tree_core.proofs.Holders.{has_counts, have_counts}
use Rattle.tree_core.proofs.Options.{never}
use Rattle.tree_core.proofs.Rows.{keys}
use Rattle.tree_moves.specs.GroupPlaces.{group_at}
use Rattle.tree_steps.proofs.InPlace.{trees}

-- ---- groups of an id

pub root_has : (u : NodeId) (t : Tree) → is_id (id_of t) u ≡ true → has_group u t ≡ true
root_has u (node v r es ts) p = or_left (is_id v u) (have_group u ts) p

with_root : (u : NodeId) (t : Tree) → is_id (id_of t) u ≡ true → group_with u t ≡ Some t
with_root u (node v r es ts) p = ap (λ c. cond c (Some (node v r es ts)) (group_among u ts)) p

pub own_has : (u : NodeId) (c : Tree) (ts : Trees) → own_group u ts ≡ Some c → have_group u ts ≡ true
own_has u c none h = never c h
own_has u c (beside t ts) h =
    elim (decide (is_id (id_of t) u)) [
      | inl p ↦ or_left (has_group u t) (have_group u ts) (root_has u t p)
      | inr p ↦ or_right (has_group u t) (have_group u ts) (own_has u c ts (ap (λ b. cond b (Some t) (own_group u ts)) (sym p) ∙ h))
    ]

pub flipped : (u v : NodeId) → is_id u v ≡ true → is_id v u ≡ true
flipped u v p = is_same_id v u (sym (same_id u v p))

-- what later groups have, the first does not
apart_first : (u : NodeId) (t : Tree) (ts : Trees) → ((x : NodeId) → occurs x (node_ids_all (beside t ts)) ≤ 1) → have_group u ts ≡ true → has_group u t ≡ false
apart_first u t ts once has = is_false (has_group u t) (λ q.
    let here = has_counts u t q in
    let rest = have_counts u ts has in
    let split = occurs-append u (node_ids t) (node_ids_all ts) in
    let most = once u in
    absurd (omega (arith, here, rest, split, most)))

first_once : (t : Tree) (ts : Trees) → ((x : NodeId) → occurs x (node_ids_all (beside t ts)) ≤ 1) → (x : NodeId) → occurs x (node_ids t) ≤ 1
first_once t ts once x =
    let all = once x in
    let split = occurs-append x (node_ids t) (node_ids_all ts) in
    omega (arith, all, split)

rest_once : (t : Tree) (ts : Trees) → ((x : NodeId) → occurs x (node_ids_all (beside t ts)) ≤ 1) → (x : NodeId) → occurs x (node_ids_all ts) ≤ 1
rest_once t ts once x =
    let all = once x in
    let split = occurs-append x (node_ids t) (node_ids_all ts) in
    omega (arith, all, split)

-- a group among others is the one that is found of its id
own_among : (u : NodeId) (c : Tree) (ts : Trees) → ((x : NodeId) → occurs x (node_ids_all ts) ≤ 1) → own_group u ts ≡ Some c → group_among u ts ≡ Some c
own_among u c none once h = never c h
own_among u c (beside t ts) once h =
    elim (decide (is_id (id_of t) u)) [
      | inl p ↦
          ap (λ b. cond b (group_with u t) (group_among u ts)) (root_has u t p)
          ∙ with_root u t p
          ∙ ap (λ b. cond b (Some t) (own_group u ts)) (sym p) ∙ h
      | inr p ↦
          let rest = ap (λ b. cond b (Some t) (own_group u ts)) (sym p) ∙ h in
          ap (λ b. cond b (group_with u t) (group_among u ts)) (apart_first u t ts once (own_has u c ts rest)) ∙ own_among u c ts (rest_once t ts once) rest
    ]

-- ---- a parent is there, and so is its child

one_of : {A : Type 0} (x y : Option A) → or_else x y ≡ cond (is_some x) x y
one_of None y = refl
one_of (Some x) y = refl

mutual
  pub parent_has : (u p : NodeId) (t : Tree) → parent_of u t ≡ Some p → (has_group p t ≡ true) × (has_group u t ≡ true)
  parent_has u p (node v r es ts) h =
      elim (decide (is_some (own_group u ts))) [
        | inl q ↦
            let same : v ≡ p = same_Some v p (ap (λ c. cond c (Some v) (parent_among u ts)) (sym q) ∙ h) in
            let c = some_of (own_group u ts) q in
            (or_left (is_id v p) (have_group p ts) (is_same_id v p same), or_right (is_id v u) (have_group u ts) (own_has u c.0 ts c.1))
        | inr q ↦
            let below = parents_have u p ts (ap (λ c. cond c (Some v) (parent_among u ts)) (sym q) ∙ h) in
            (or_right (is_id v p) (have_group p ts) below.0, or_right (is_id v u) (have_group u ts) below.1)
      ]

  pub parents_have : (u p : NodeId) (ts : Trees) → parent_among u ts ≡ Some p → (have_group p ts ≡ true) × (have_group u ts ≡ true)
  parents_have u p none h = never p h
  parents_have u p (beside t ts) k =
      let h = sym (one_of (parent_of u t) (parent_among u ts)) ∙ k in
      elim (decide (is_some (parent_of u t))) [
        | inl q ↦
            let below = parent_has u p t (ap (λ c. cond c (parent_of u t) (parent_among u ts)) (sym q) ∙ h) in
            (or_left (has_group p t) (have_group p ts) below.0, or_left (has_group u t) (have_group u ts) below.1)
        | inr q ↦
            let below = parents_have u p ts (ap (λ c. cond c (parent_of u t) (parent_among u ts)) (sym q) ∙ h) in
            (or_right (has_group p t) (have_group p ts) below.0, or_right (has_group u t) (have_group u ts) below.1)
      ]

pub no_parent : (u : NodeId) (t : Tree) → has_group u t ≡ false → parent_of u t ≡ None
no_parent u t off = of (parent_of u t) refl
  where
    of : (o : Option NodeId) → parent_of u t ≡ o → parent_of u t ≡ None
    of None q = q
    of (Some p) q = apart (has_group u t) (parent_has u p t q).1 off

-- ---- a group that is found, and is not the root, is its parent's child

-- The parent of a group in a tree.
pub record Parent (u : NodeId) (t b : Tree) : Type 0 where
  pub id : NodeId
  pub group : Tree
  pub is : parent_of u t ≡ Some id
  pub there : group_with id t ≡ Some group
  pub child : child_with u group ≡ Some b

-- The same of groups side by side.
record ParentAmong (u : NodeId) (ts : Trees) (b : Tree) : Type 0 where
  id : NodeId
  group : Tree
  is : parent_among u ts ≡ Some id
  there : group_among id ts ≡ Some group
  child : child_with u group ≡ Some b

none_first : (u : NodeId) (t : Tree) (ts : Trees) → is_some (own_group u (beside t ts)) ≡ false → (is_id (id_of t) u ≡ false) × (is_some (own_group u ts) ≡ false)
none_first u t ts h =
    elim (decide (is_id (id_of t) u)) [
      | inl p ↦ apart (is_some (own_group u (beside t ts))) (ap (λ b. is_some (cond b (Some t) (own_group u ts))) p) h
      | inr p ↦ (p, ap (λ b. is_some (cond b (Some t) (own_group u ts))) (sym p) ∙ h)
    ]

mutual
  pub parent_found : (u : NodeId) (t b : Tree) → ((x : NodeId) → occurs x (node_ids t) ≤ 1) → is_id (id_of t) u ≡ false → group_with u t ≡ Some b → Parent u t b
  parent_found u (node v r es ts) b once off h =
      let under : group_among u ts ≡ Some b = ap (λ c. cond c (Some (node v r es ts)) (group_among u ts)) (sym off) ∙ h in
      let below : (x : NodeId) → occurs x (node_ids_all ts) ≤ 1 = λ x. (let all = once x in let split = occurs-append x (keys es) (node_ids_all ts) in omega (arith, all, split)) in
      elim (decide (is_some (own_group u ts))) [
        | inl q ↦
            let c = some_of (own_group u ts) q in
            record {
              id = v;
              group = node v r es ts;
              is = ap (λ b. cond b (Some v) (parent_among u ts)) q;
              there = with_root v (node v r es ts) (is_same_id v v refl);
              child = c.1 ∙ sym (own_among u c.0 ts below c.1) ∙ under;
            }
        | inr q ↦
            let f = parent_among_found u ts b below q under in
            let counts = have_counts f.id ts (parents_have u f.id ts f.is).0 in
            let split = occurs-append f.id (keys es) (node_ids_all ts) in
            let most = once f.id in
            let other : is_id v f.id ≡ false = is_false (is_id v f.id) (λ p. let here = ap one_if (flipped v f.id p) in absurd (omega (arith, here, counts, split, most))) in
            record {
              id = f.id;
              group = f.group;
              is = ap (λ b. cond b (Some v) (parent_among u ts)) q ∙ f.is;
              there = ap (λ c. cond c (Some (node v r es ts)) (group_among f.id ts)) other ∙ f.there;
              child = f.child;
            }
      ]

  parent_among_found : (u : NodeId) (ts : Trees) (b : Tree) → ((x : NodeId) → occurs x (node_ids_all ts) ≤ 1) → is_some (own_group u ts) ≡ false → group_among u ts ≡ Some b → ParentAmong u ts b
  parent_among_found u none b once off h = never b h
  parent_among_found u (beside t ts) b once off h =
      let both = none_first u t ts off in
      elim (decide (has_group u t)) [
        | inl p ↦
            let f = parent_found u t b (first_once t ts once) both.0 (ap (λ c. cond c (group_with u t) (group_among u ts)) (sym p) ∙ h) in
            record {
              id = f.id;
              group = f.group;
              is = ap (λ o. or_else o (parent_among u ts)) f.is;
              there = ap (λ c. cond c (group_with f.id t) (group_among f.id ts)) (parent_has u f.id t f.is).0 ∙ f.there;
              child = f.child;
            }
        | inr p ↦
            let f = parent_among_found u ts b (rest_once t ts once) both.1 (ap (λ c. cond c (group_with u t) (group_among u ts)) (sym p) ∙ h) in
            record {
              id = f.id;
              group = f.group;
              is = ap (λ o. or_else o (parent_among u ts)) (no_parent u t p) ∙ f.is;
              there = ap (λ c. cond c (group_with f.id t) (group_among f.id ts)) (apart_first f.id t ts once (parents_have u f.id ts f.is).0) ∙ f.there;
              child = f.child;
            }
      ]

-- the root has no parent
pub parent_not_root : (u p : NodeId) (t : Tree) → ((x : NodeId) → occurs x (node_ids t) ≤ 1) → parent_of u t ≡ Some p → is_id (id_of t) u ≡ false
parent_not_root u p (node v r es ts) once h =
    let below : have_group u ts ≡ true = elim (decide (is_some (own_group u ts))) [
      | inl q ↦ let c = some_of (own_group u ts) q in own_has u c.0 ts c.1
      | inr q ↦ (parents_have u p ts (ap (λ c. cond c (Some v) (parent_among u ts)) (sym q) ∙ h)).1
    ] in
    let counts = have_counts u ts below in
    let split = occurs-append u (keys es) (node_ids_all ts) in
    let most = once u in
    is_false (is_id v u) (λ q. let here = ap one_if (flipped v u q) in absurd (omega (arith, here, counts, split, most)))

-- a group of a document that has a parent is not the root, and one that has none is
pub parent_moves : (d : BareDoc) → IsDoc d → (u p : NodeId) → parent_of u d.tree ≡ Some p → is_id u (id_of d.tree) ≡ false
parent_moves d is u p has = is_false (is_id u (id_of d.tree)) (λ q.
    apart (is_id (id_of d.tree) u) (flipped u (id_of d.tree) q) (parent_not_root u p d.tree (once (node_ids d.tree) is.distinct) has))

pub no_parent_fixed : (d : BareDoc) → IsDoc d → (u : NodeId) (g : Tree) → parent_of u d.tree ≡ None → group_with u d.tree ≡ Some g → is_id u (id_of d.tree) ≡ true
no_parent_fixed d is u g off there =
    elim (decide (is_id (id_of d.tree) u)) [
      | inl p ↦ flipped (id_of d.tree) u p
      | inr p ↦ let f = parent_found u d.tree g (once (node_ids d.tree) is.distinct) p there in never f.id (sym off ∙ f.is)
    ]

-- the group of a document that has a parent is that parent's child
pub parent_child : (d : BareDoc) → IsDoc d → (u p : NodeId) (g : Tree) → parent_of u d.tree ≡ Some p → group_with u d.tree ≡ Some g → group_at p u d.tree ≡ Some g
parent_child d is u p g has there =
    let all = once (node_ids d.tree) is.distinct in
    let f = parent_found u d.tree g all (parent_not_root u p d.tree all has) there in
    let same : f.id ≡ p = same_Some f.id p (sym f.is ∙ has) in
    ap (λ v. group_at v u d.tree) (sym same) ∙ ap (option_and_then (child_with u)) f.there ∙ f.child

-- ---- groups in memory

seen_id : (g : Group) → id_of (tree_seen g) ≡ (out-Group g).id
seen_id g = ap id_of (seen_group g)

next_own : (u : NodeId) (items : List Group) (at : ℕ) (g : Group) → at < length items → g ≡ get_or items at g
    → own_group u (trees (drop at items)) ≡ cond (is_id (out-Group g).id u) (Some (tree_seen g)) (own_group u (trees (drop (suc at) items)))
next_own u items at g less is =
    ap (λ gs. own_group u (trees gs)) (drop-cons items at g less ∙ ap (λ (x : Group). x ∷ drop (suc at) items) (sym is))
    ∙ ap (λ v. cond (is_id v u) (Some (tree_seen g)) (own_group u (trees (drop (suc at) items)))) (seen_id g)

pub own_here : (u : NodeId) (items : List Group) (at : ℕ) (g : Group) → at < length items → g ≡ get_or items at g → is_id (out-Group g).id u ≡ true
    → is_some (own_group u (trees (drop at items))) ≡ is_some (own_group u (trees items)) → true ≡ is_some (own_group u (trees items))
own_here u items at g less is same rest =
    sym (ap (λ c. is_some (cond c (Some (tree_seen g)) (own_group u (trees (drop (suc at) items))))) same)
    ∙ sym (ap (λ o. is_some o) (next_own u items at g less is))
    ∙ rest

pub own_later : (u : NodeId) (items : List Group) (at : ℕ) (g : Group) → at < length items → g ≡ get_or items at g → is_id (out-Group g).id u ≡ false
    → is_some (own_group u (trees (drop at items))) ≡ is_some (own_group u (trees items)) → is_some (own_group u (trees (drop (at + 1) items))) ≡ is_some (own_group u (trees items))
own_later u items at g less is other rest =
    let one : suc at ≡ at + 1 = omega arith in
    ap (λ n. is_some (own_group u (trees (drop n items)))) (sym one)
    ∙ sym (ap (λ c. is_some (cond c (Some (tree_seen g)) (own_group u (trees (drop (suc at) items))))) other)
    ∙ sym (ap (λ o. is_some o) (next_own u items at g less is))
    ∙ rest

seen_parent : (u : NodeId) (g : Group) (b : Bool) → is_some (own_group u (trees (out-Group g).groups)) ≡ b → parent_of u (tree_seen g) ≡ cond b (Some (out-Group g).id) (parent_among u (trees (out-Group g).groups))
seen_parent u g b h = ap (parent_of u) (seen_group g) ∙ ap (λ c. cond c (Some (out-Group g).id) (parent_among u (trees (out-Group g).groups))) h

pub parent_here : (u : NodeId) (g : Group) → is_some (own_group u (trees (out-Group g).groups)) ≡ true → Some (out-Group g).id ≡ parent_of u (tree_seen g)
parent_here u g h = sym (seen_parent u g true h)

pub parent_below : (u v : NodeId) (g child : Group) (items : List Group) (at : ℕ) → is_some (own_group u (trees (out-Group g).groups)) ≡ false → items ≡ (out-Group g).groups → at < length items
    → child ≡ get_or items at child → parent_among u (trees (drop at items)) ≡ parent_among u (trees items) → parent_of u (tree_seen child) ≡ Some v → Some v ≡ parent_of u (tree_seen g)
parent_below u v g child items at off are less is same found =
    sym (seen_parent u g false off
    ∙ sym (ap (λ gs. parent_among u (trees gs)) are)
    ∙ sym same
    ∙ ap (λ gs. parent_among u (trees gs)) (drop-cons items at child less ∙ ap (λ (x : Group). x ∷ drop (suc at) items) (sym is))
    ∙ ap (λ o. or_else o (parent_among u (trees (drop (suc at) items)))) found)

pub parent_nowhere : (u : NodeId) (g : Group) (items : List Group) (at : ℕ) → is_some (own_group u (trees (out-Group g).groups)) ≡ false → items ≡ (out-Group g).groups → length items ≤ at
    → parent_among u (trees (drop at items)) ≡ parent_among u (trees items) → None ≡ parent_of u (tree_seen g)
parent_nowhere u g items at off are far same =
    sym (seen_parent u g false off
    ∙ sym (ap (λ gs. parent_among u (trees gs)) are)
    ∙ sym same
    ∙ ap (λ gs. parent_among u (trees gs)) (drop_all at items far))
