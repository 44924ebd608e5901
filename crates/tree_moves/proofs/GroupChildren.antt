-- A group that is moved by way of a place that is kept for it.
use Rattle.std.proofs.Common.{◌≡◌, ◌≢◌, ◌||◌, ℕ, Bool, true, false, cond, option_and_then, inl, inr, List, [], Option, None, Some, IfSome, IsSome, subst, refl, sym, ap, ◌∙◌, arith}
use Rattle.std.proofs.lemmas.Option.{same_Some}
use Rattle.vault_model.specs.Db.{NodeId, nil_id}
use Rattle.vault_model.specs.Join.{is_id}
use Rattle.vault_model.specs.Tree.{Tree, Trees, beside, id_of, is_elsewhere, node, node_ids, node_ids_all, none}
use Rattle.vault_model.proofs.Ids.{is_same_id, same_id}
use Rattle.vault_model.proofs.Tests.{decide, is_false, some_of}
use Rattle.tree_core.specs.Changes.{changed_at, changed_in, child_with, group_among, group_moved, group_with, has_group, have_group, moved_group, on_groups, own_group, with_group, with_last, without_group}
use Rattle.tree_core.proofs.Around.{found_group, found_id, ids_rows, occurs_change, rows_change}
use Rattle.tree_core.proofs.Changed.{absent_group, changed_by}
use Rattle.tree_core.proofs.Counted.{elsewhere_occurs, occurs, occurs-append, one_if}
use Rattle.tree_core.proofs.GroupDocs.{put_root, take_counts, take_root}
use Rattle.tree_core.proofs.GroupMoves.{Off, OffIn, either_order, from_there, off_first, off_rest, root_stays, to_there}
use Rattle.tree_core.proofs.Holders.{has_counts}
use Rattle.tree_core.proofs.Options.{never}
use Rattle.tree_core.specs.NewNodes.{empty_group}
use Rattle.tree_core.proofs.Rows.{keys}
use Rattle.tree_core.proofs.Ways.{below, first, here, later}
use Rattle.tree_moves.specs.GroupPlaces.{groups_filled, group_at, group_placed}

-- ---- two changes of one group are one

module _ (g : NodeId) (f h : Tree → Tree) (keeps : (x : Tree) → id_of (h x) ≡ id_of x) where
  root_has : (t : Tree) → is_id (id_of t) g ≡ true → has_group g t ≡ true
  root_has (node v r es ts) p = ap (λ b. b || have_group g ts) p

  mutual
    still_has : (t : Tree) → has_group g t ≡ true → has_group g (changed_at g h t) ≡ true
    still_has (node v r es ts) has =
        elim (decide (is_id v g)) [
          | inl p ↦
              ap (has_group g) (here g h v r es ts p)
              ∙ root_has (h (node v r es ts)) (ap (λ u. is_id u g) (keeps (node v r es ts)) ∙ p)
          | inr p ↦
              ap (has_group g) (below g h v r es ts p)
              ∙ ap (λ b. b || have_group g (changed_in g h ts)) p
              ∙ still_have ts (ap (λ b. b || have_group g ts) (sym p) ∙ has)
        ]

    still_have : (ts : Trees) → have_group g ts ≡ true → have_group g (changed_in g h ts) ≡ true
    still_have none has = has
    still_have (beside t ts) has =
        elim (decide (has_group g t)) [
          | inl p ↦ ap (have_group g) (first g h t ts p) ∙ ap (λ b. b || have_group g ts) (still_has t p)
          | inr p ↦
              ap (have_group g) (later g h t ts p)
              ∙ ap (λ b. b || have_group g (changed_in g h ts)) p
              ∙ still_have ts (ap (λ b. b || have_group g ts) (sym p) ∙ has)
        ]

  at_root : (t : Tree) → is_id (id_of t) g ≡ true → changed_at g f t ≡ f t
  at_root (node v r es ts) p = here g f v r es ts p

  mutual
    pub changed_twice : (t : Tree) → changed_at g f (changed_at g h t) ≡ changed_at g (λ x. f (h x)) t
    changed_twice (node v r es ts) =
        elim (decide (is_id v g)) [
          | inl p ↦
              ap (changed_at g f) (here g h v r es ts p)
              ∙ at_root (h (node v r es ts)) (ap (λ u. is_id u g) (keeps (node v r es ts)) ∙ p)
              ∙ sym (here g (λ x. f (h x)) v r es ts p)
          | inr p ↦
              ap (changed_at g f) (below g h v r es ts p) ∙ below g f v r es (changed_in g h ts) p
              ∙ ap (λ xs. node v r es xs) (all_changed_twice ts)
              ∙ sym (below g (λ x. f (h x)) v r es ts p)
        ]

    all_changed_twice : (ts : Trees) → changed_in g f (changed_in g h ts) ≡ changed_in g (λ x. f (h x)) ts
    all_changed_twice none = refl
    all_changed_twice (beside t ts) =
        elim (decide (has_group g t)) [
          | inl p ↦
              ap (changed_in g f) (first g h t ts p) ∙ first g f (changed_at g h t) ts (still_has t p)
              ∙ ap (λ x. beside x ts) (changed_twice t)
              ∙ sym (first g (λ x. f (h x)) t ts p)
          | inr p ↦
              ap (changed_in g f) (later g h t ts p) ∙ later g f t (changed_in g h ts) p
              ∙ ap (λ xs. beside t xs) (all_changed_twice ts)
              ∙ sym (later g (λ x. f (h x)) t ts p)
        ]

-- ---- a group of another group is found as before where a place is made

by_there : (u : NodeId) (b : Bool) (x y z w : Option Tree) → option_and_then (child_with u) x ≡ option_and_then (child_with u) y → option_and_then (child_with u) z ≡ option_and_then (child_with u) w
    → option_and_then (child_with u) (cond b x z) ≡ option_and_then (child_with u) (cond b y w)
by_there u true x y z w p q = p
by_there u false x y z w p q = q

module _ (from to u : NodeId) (hole : Tree) (other : from ≢ to) (no_from : has_group from hole ≡ false) where
  abbrev put : Tree → Tree
  put = with_group hole

  own_put : (ts : Trees) → OffIn from to u ts → own_group u (changed_in to put ts) ≡ own_group u ts
  own_put none off = refl
  own_put (beside t ts) off =
      elim (decide (is_id (id_of t) u)) [
        | inl p ↦
            ap (own_group u) (later to put t ts (off_first from to u t ts p off))
            ∙ ap (λ c. cond c (Some t) (own_group u (changed_in to put ts))) p
            ∙ sym (ap (λ c. cond c (Some t) (own_group u ts)) p)
        | inr p ↦ elim (decide (has_group to t)) [
          | inl q ↦
              ap (own_group u) (first to put t ts q)
              ∙ ap (λ c. cond c (Some (changed_at to put t)) (own_group u ts)) (ap (λ v. is_id v u) (root_stays from to u hole other no_from t) ∙ p)
              ∙ sym (ap (λ c. cond c (Some t) (own_group u ts)) p)
          | inr q ↦
              ap (own_group u) (later to put t ts q)
              ∙ ap (λ o. cond (is_id (id_of t) u) (Some t) o) (own_put ts (off_rest from to u t ts p off))
        ]
      ]

  among_last : (ts : Trees) → group_among from (with_last hole ts) ≡ group_among from ts
  among_last none = ap (λ c. cond c (group_with from hole) None) no_from
  among_last (beside t ts) = ap (λ o. cond (has_group from t) (group_with from t) o) (among_last ts)

  mutual
    pub child_stays : (t : Tree) → Off from to u (group_with from t) → group_at from u (changed_at to put t) ≡ group_at from u t
    child_stays (node v r es ts) off =
        elim (decide (is_id v to)) [
          | inl q ↦
              let apart : is_id v from ≡ false = is_false (is_id v from) (λ p. other (sym (same_id v from p) ∙ same_id v to q)) in
              ap (group_at from u) (here to put v r es ts q)
              ∙ ap (λ c. option_and_then (child_with u) (cond c (Some (node v r es (with_last hole ts))) (group_among from (with_last hole ts)))) apart
              ∙ ap (option_and_then (child_with u)) (among_last ts)
              ∙ sym (ap (λ c. option_and_then (child_with u) (cond c (Some (node v r es ts)) (group_among from ts))) apart)
          | inr q ↦
              ap (group_at from u) (below to put v r es ts q) ∙ elim (decide (is_id v from)) [
                | inl p ↦
                    ap (λ c. option_and_then (child_with u) (cond c (Some (node v r es (changed_in to put ts))) (group_among from (changed_in to put ts)))) p
                    ∙ own_put ts (off (node v r es ts) (ap (λ c. cond c (Some (node v r es ts)) (group_among from ts)) p))
                    ∙ sym (ap (λ c. option_and_then (child_with u) (cond c (Some (node v r es ts)) (group_among from ts))) p)
                | inr p ↦
                    ap (λ c. option_and_then (child_with u) (cond c (Some (node v r es (changed_in to put ts))) (group_among from (changed_in to put ts)))) p
                    ∙ children_stay ts (λ g e. off g (ap (λ c. cond c (Some (node v r es ts)) (group_among from ts)) p ∙ e))
                    ∙ sym (ap (λ c. option_and_then (child_with u) (cond c (Some (node v r es ts)) (group_among from ts))) p)
              ]
        ]

    children_stay : (ts : Trees) → Off from to u (group_among from ts) → option_and_then (child_with u) (group_among from (changed_in to put ts)) ≡ option_and_then (child_with u) (group_among from ts)
    children_stay none off = refl
    children_stay (beside t ts) off =
        elim (decide (has_group from t)) [
          | inl p ↦
              let under : Off from to u (group_with from t) = λ g e. off g (ap (λ c. cond c (group_with from t) (group_among from ts)) p ∙ e) in
              elim (decide (has_group to t)) [
                | inl q ↦
                    ap (λ xs. option_and_then (child_with u) (group_among from xs)) (first to put t ts q)
                    ∙ ap (λ c. option_and_then (child_with u) (cond c (group_with from (changed_at to put t)) (group_among from ts))) (from_there from to u hole other no_from t ∙ p)
                    ∙ child_stays t under
                    ∙ sym (ap (λ c. option_and_then (child_with u) (cond c (group_with from t) (group_among from ts))) p)
                | inr q ↦
                    ap (λ xs. option_and_then (child_with u) (group_among from xs)) (later to put t ts q)
                    ∙ ap (λ c. option_and_then (child_with u) (cond c (group_with from t) (group_among from (changed_in to put ts)))) p
                    ∙ sym (ap (λ c. option_and_then (child_with u) (cond c (group_with from t) (group_among from ts))) p)
              ]
          | inr p ↦
              let under : Off from to u (group_among from ts) = λ g e. off g (ap (λ c. cond c (group_with from t) (group_among from ts)) p ∙ e) in
              elim (decide (has_group to t)) [
                | inl q ↦
                    ap (λ xs. option_and_then (child_with u) (group_among from xs)) (first to put t ts q)
                    ∙ ap (λ c. option_and_then (child_with u) (cond c (group_with from (changed_at to put t)) (group_among from ts))) (from_there from to u hole other no_from t ∙ p)
                    ∙ sym (ap (λ c. option_and_then (child_with u) (cond c (group_with from t) (group_among from ts))) p)
                | inr q ↦
                    ap (λ xs. option_and_then (child_with u) (group_among from xs)) (later to put t ts q)
                    ∙ by_there u (has_group from t) (group_with from t) (group_with from t) (group_among from (changed_in to put ts)) (group_among from ts) refl (children_stay ts under)
              ]
        ]

-- ---- what is found

pub found_child : (g u : NodeId) (t c : Tree) → group_at g u t ≡ Some c → (b : Tree) × ((group_with g t ≡ Some b) × (child_with u b ≡ Some c))
found_child g u t c h = of (group_with g t) refl h
  where
    of : (o : Option Tree) → group_with g t ≡ o → option_and_then (child_with u) o ≡ Some c → (b : Tree) × ((group_with g t ≡ Some b) × (child_with u b ≡ Some c))
    of None q k = never c k
    of (Some b) q k = (b, (q, k))

own_id : (u : NodeId) (ts : Trees) (c : Tree) → own_group u ts ≡ Some c → id_of c ≡ u
own_id u none c h = never c h
own_id u (beside t ts) c h =
    elim (decide (is_id (id_of t) u)) [
      | inl p ↦ ap id_of (sym (same_Some t c (ap (λ b. cond b (Some t) (own_group u ts)) (sym p) ∙ h))) ∙ same_id (id_of t) u p
      | inr p ↦ own_id u ts c (ap (λ b. cond b (Some t) (own_group u ts)) (sym p) ∙ h)
    ]

child_id : (u : NodeId) (b c : Tree) → child_with u b ≡ Some c → id_of c ≡ u
child_id u (node v r es ts) c h = own_id u ts c h

pub found_child_id : (g u : NodeId) (t c : Tree) → group_at g u t ≡ Some c → id_of c ≡ u
found_child_id g u t c h = let f = found_child g u t c h in child_id u f.0 c f.1.1

-- the goal is not in the group that is moved
pub off_goal : (from to u : NodeId) (t g : Tree) → group_at from u t ≡ Some g → has_group to g ≡ false → Off from to u (group_with from t)
off_goal from to u t g there off p e b k = ap (has_group to) (same_Some b g (sym k ∙ sym (ap (option_and_then (child_with u)) e) ∙ there)) ∙ off

-- ---- a place that is made, and filled

not_nil : (t : Tree) → occurs nil_id (node_ids t) ≡ 0 → is_id (id_of t) nil_id ≡ false
not_nil (node v r es ts) zero = is_false (is_id v nil_id) (λ p. let one = ap one_if (is_same_id nil_id v (sym (same_id v nil_id p))) in absurd (omega (arith, one, zero)))

fills_last : (w hole : Tree) (ts : Trees) → id_of hole ≡ nil_id → occurs nil_id (node_ids_all ts) ≡ 0 → groups_filled w (with_last hole ts) ≡ with_last w ts
fills_last w hole none nil zero = ap (λ c. cond c (beside w none) (beside hole none)) (is_same_id (id_of hole) nil_id nil)
fills_last w hole (beside t ts) nil zero =
    let split = occurs-append nil_id (node_ids t) (node_ids_all ts) in
    let own : occurs nil_id (node_ids t) ≡ 0 = omega (arith, split, zero) in
    let rest : occurs nil_id (node_ids_all ts) ≡ 0 = omega (arith, split, zero) in
    ap (λ c. cond c (beside w (with_last hole ts)) (beside t (groups_filled w (with_last hole ts)))) (not_nil t own)
    ∙ ap (λ xs. beside t xs) (fills_last w hole ts nil rest)

fills : (w hole t : Tree) → id_of hole ≡ nil_id → occurs nil_id (node_ids t) ≡ 0 → on_groups (groups_filled w) (with_group hole t) ≡ with_group w t
fills w hole (node v r es ts) nil zero =
    let split = occurs-append nil_id (keys es) (node_ids_all ts) in
    let below : occurs nil_id (node_ids_all ts) ≡ 0 = omega (arith, split, zero) in
    ap (λ xs. node v r es xs) (fills_last w hole ts nil below)

module _ (from to u : NodeId) (time : ℕ) (old hole g : Tree) (other : from ≢ to) (no_from : has_group from hole ≡ false) (nil : id_of hole ≡ nil_id) (has : has_group to old ≡ true)
    (no_nil : is_elsewhere old nil_id ≡ true) (there : group_at from u old ≡ Some g) (outside : has_group to g ≡ false) where
  abbrev w : Tree
  w = moved_group from time g

  abbrev rest : Tree
  rest = changed_at from (without_group u) old

  pub off : Off from to u (group_with from old)
  off = off_goal from to u old g there outside

  no_nil_left : occurs nil_id (node_ids rest) ≡ 0
  no_nil_left =
      let f = found_child from u old g there in
      let change = occurs_change nil_id old rest f.0 (without_group u f.0)
      (rows_change node_ids node_ids_all ids_rows from (without_group u) old f.0 f.1.0 (take_root u f.0 ∙ found_id from old f.0 f.1.0)) in
      let less = take_counts nil_id u g f.0 f.1.1 in
      let zero = elsewhere_occurs old nil_id no_nil in
      omega (arith, change, less, zero)

  by_place : changed_at to (on_groups (groups_filled w)) (changed_at from (without_group u) (changed_at to (with_group hole) old)) ≡ changed_at to (with_group w) rest
  by_place =
      let goal = found_group to rest (to_there from to u old off ∙ has) in
      let rows = rows_change node_ids node_ids_all ids_rows to (λ x. x) rest goal.0 goal.1 (found_id to rest goal.0 goal.1) in
      let split = ap (occurs nil_id) rows.was ∙ occurs-append nil_id rows.front _ in
      let split2 = occurs-append nil_id (node_ids goal.0) rows.back in
      let none_left = no_nil_left in
      let zero : occurs nil_id (node_ids goal.0) ≡ 0 = omega (arith, none_left, split, split2) in
      ap (changed_at to (on_groups (groups_filled w))) (either_order from to u hole other no_from old off)
      ∙ changed_twice to (on_groups (groups_filled w)) (with_group hole) (put_root hole) rest
      ∙ sym (changed_by to (λ x. on_groups (groups_filled w) (with_group hole x)) rest goal.0 goal.1)
      ∙ ap (λ y. changed_at to (λ x. y) rest) (fills w hole goal.0 nil zero)
      ∙ changed_by to (with_group w) rest goal.0 goal.1

  pub place_there : group_at from u (changed_at to (with_group hole) old) ≡ Some g
  place_there = child_stays from to u hole other no_from old off ∙ there

  pub moved : (one new : Tree) → one ≡ changed_at to (with_group hole) old → IfSome (group_at from u one) (λ x. new ≡ group_placed from to time x one) → new ≡ group_moved from to time g old
  moved one new put h =
      let at : group_at from u one ≡ Some g = ap (group_at from u) put ∙ place_there in
      let id = found_child_id from u old g there in
      subst (λ (o : Option Tree). IfSome o (λ x. new ≡ group_placed from to time x one)) at h
      ∙ ap (λ v. changed_at to (on_groups (groups_filled w)) (changed_at from (without_group v) one)) id
      ∙ ap (λ t. changed_at to (on_groups (groups_filled w)) (changed_at from (without_group u) t)) put
      ∙ by_place
      ∙ ap (λ v. changed_at to (with_group w) (changed_at from (without_group v) old)) (sym id)

-- the two changes of a move into a place, one after the other
pub placed_done : (from to u : NodeId) (time : ℕ) (old two new g w : Tree) → group_at from u old ≡ Some g → two ≡ changed_at from (without_group u) old → w ≡ moved_group from time g
    → new ≡ changed_at to (on_groups (groups_filled w)) two → IfSome (group_at from u old) (λ x. new ≡ group_placed from to time x old)
placed_done from to u time old two new g w there p is q =
    subst (λ (o : Option Tree). IfSome o (λ x. new ≡ group_placed from to time x old)) (sym there)
    (q
    ∙ ap (λ y. changed_at to (on_groups (groups_filled y)) two) is
    ∙ ap (changed_at to (on_groups (groups_filled (moved_group from time g)))) (p ∙ ap (λ v. changed_at from (without_group v) old) (sym (found_child_id from u old g there))))

-- the same where what is found is not named
pub place_some : (from to u : NodeId) (old hole one : Tree) → from ≢ to → has_group from hole ≡ false → IsSome (group_at from u old) → IfSome (group_at from u old) (λ g. has_group to g ≡ false)
    → one ≡ changed_at to (with_group hole) old → IsSome (group_at from u one)
place_some from to u old hole one other no_from some outside put =
    let g = some_of (group_at from u old) some in
    let off = subst (λ (o : Option Tree). IfSome o (λ x. has_group to x ≡ false)) g.1 outside in
    subst (λ (o : Option Tree). IsSome o) (sym (ap (group_at from u) put ∙ child_stays from to u hole other no_from old (off_goal from to u old g.0 g.1 off))) some

pub moved_some : (from to u : NodeId) (time : ℕ) (old hole one new : Tree) → from ≢ to → has_group from hole ≡ false → id_of hole ≡ nil_id → has_group to old ≡ true → is_elsewhere old nil_id ≡ true
    → IsSome (group_at from u old) → IfSome (group_at from u old) (λ g. has_group to g ≡ false) → one ≡ changed_at to (with_group hole) old
    → IfSome (group_at from u one) (λ x. new ≡ group_placed from to time x one) → IfSome (group_at from u old) (λ g. new ≡ group_moved from to time g old)
moved_some from to u time old hole one new other no_from nil has no_nil some outside put h =
    let g = some_of (group_at from u old) some in
    let off = subst (λ (o : Option Tree). IfSome o (λ x. has_group to x ≡ false)) g.1 outside in
    subst (λ (o : Option Tree). IfSome o (λ x. new ≡ group_moved from to time x old)) (sym g.1)
    (moved from to u time old hole g.0 other no_from nil has no_nil g.1 off one new put h)

-- ---- a group without an id keeps the place

pub hole_nil : (hole : Tree) (name : List ℕ) (time : ℕ) → hole ≡ empty_group nil_id name time → id_of hole ≡ nil_id
hole_nil hole name time is = ap id_of is

pub hole_off : (from u : NodeId) (old hole : Tree) (name : List ℕ) (time : ℕ) → IsSome (group_at from u old) → is_elsewhere old nil_id ≡ true → hole ≡ empty_group nil_id name time → has_group from hole ≡ false
hole_off from u old hole name time some no_nil is =
    ap (has_group from) is ∙ ap (λ b. b || false) (is_false (is_id nil_id from) (λ p.
    let there = some_of (group_at from u old) some in
    let f = found_child from u old there.0 there.1 in
    let has : has_group from old ≡ true = elim (decide (has_group from old)) [ inl q ↦ q | inr q ↦ never f.0 (sym (absent_group from old q) ∙ f.1.0) ] in
    let counts = has_counts from old has in
    let same = ap (λ v. occurs v (node_ids old)) (same_id nil_id from p) in
    let zero = elsewhere_occurs old nil_id no_nil in
    absurd (omega (arith, counts, same, zero))))
