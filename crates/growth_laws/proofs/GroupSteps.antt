-- After a group is moved all stays that a document had.
use Rattle.std.proofs.Common.{◌≡◌, ◌<◌, ◌⊎◌, ℕ, cond, inl, inr, Some, refl, sym, ap, subst, ◌∙◌, arith}
use Rattle.std.proofs.lemmas.Option.{same_Some}
use Rattle.vault_model.specs.Db.{NodeId}
use Rattle.vault_model.specs.Join.{IsIn, is_id, state_join}
use Rattle.vault_model.specs.Shape.{EntryRecord, GroupRecord, shared_of, stay_of}
use Rattle.vault_model.specs.Tree.{BareDoc, IsDoc, Tree, Trees, beside, child_rows, entry_rows, group_rows, group_rows_all, id_of, node, none, shape_of}
use Rattle.vault_model.proofs.Ids.{same_id}
use Rattle.vault_model.proofs.Tests.{decide, in_back, in_front}
use Rattle.merge_core.proofs.Joins.{meta_joins, state_joins}
use Rattle.merge_core.proofs.SoundDoc.{IsKid}
use Rattle.tree_core.specs.Changes.{changed_at, child_with, group_moved, group_with, moved_group, own_group, placed_of, with_group, without_group}
use Rattle.tree_core.proofs.Options.{never}
use Rattle.growth_laws.proofs.Carries.{Carries, Entry, Group, carries_at, entry_in, group_in, kid_in, put_group_carries, put_group_entry, put_group_group, put_group_kid, put_group_root, take_group_carries, was_group_in}
use Rattle.growth_laws.proofs.Stays.{KidAfter, Stays, group_stay, places_stay}
use Rattle.growth_laws.proofs.Steps.{carries_then, entry_same, group_same, kid_later, kid_same, other, put_group_keeps, root_same, take_group_root, tomb_same}

-- ---- the rows of a group of a tree

own_groups : (u : NodeId) (c : Tree) (ts : Trees) → own_group u ts ≡ Some c → (q : Group) → IsIn q (group_rows c) → IsIn q (group_rows_all ts)
own_groups u c none own q i = never c own
own_groups u c (beside t ts) own q i =
    elim (decide (is_id (id_of t) u)) [
      | inl p ↦
          let same : t ≡ c = same_Some t c (ap (λ b. cond b (Some t) (own_group u ts)) (sym p) ∙ own) in
          in_front (group_rows t) (group_rows_all ts) q (subst (λ (w : Tree). IsIn q (group_rows w)) (sym same) i)
      | inr p ↦ in_back (group_rows t) (group_rows_all ts) q (own_groups u c ts (ap (λ b. cond b (Some t) (own_group u ts)) (sym p) ∙ own) q i)
    ]

pub child_groups : (u : NodeId) (c b : Tree) → child_with u b ≡ Some c → (q : Group) → IsIn q (group_rows c) → IsIn q (group_rows b)
child_groups u c (node v r es ts) own q i = inr (own_groups u c ts own q i)

-- ---- a group that is moved

abbrev record_of : Tree → GroupRecord
record_of (node v r es ts) = r

pub root_row : (c : Tree) → IsIn (id_of c, record_of c) (group_rows c)
root_row (node v r es ts) = inl refl

placed_is : (c : Tree) → (record_of c).placed ≡ placed_of c
placed_is (node v r es ts) = refl

moved_id : (from : NodeId) (time : ℕ) (c : Tree) → id_of (moved_group from time c) ≡ id_of c
moved_id from time (node v r es ts) = refl

moved_entries : (from : NodeId) (time : ℕ) (c : Tree) (q : Entry) → IsIn q (entry_rows c) → IsIn q (entry_rows (moved_group from time c))
moved_entries from time (node v r es ts) q i = i

moved_kids : (from : NodeId) (time : ℕ) (c : Tree) (g u : NodeId) → IsKid (child_rows c) g u → IsKid (child_rows (moved_group from time c)) g u
moved_kids from time (node v r es ts) g u k = k

moved_since : (from : NodeId) (time : ℕ) (c : Tree) → (record_of (moved_group from time c)).placed ≡ time
moved_since from time (node v r es ts) = refl

-- A group's row after the move: the same, or the moved group's own with the same state.
record MovedRow (from : NodeId) (time : ℕ) (c : Tree) (q : NodeId) (r : GroupRecord) : Type 0 where
  after : GroupRecord
  row : IsIn (q, after) (group_rows (moved_group from time c))
  state : r.state ≡ after.state
  same : (id_of c ≡ q) ⊎ (after ≡ r)

moved_groups : (from : NodeId) (time : ℕ) (c : Tree) (q : NodeId) (r : GroupRecord) → IsIn (q, r) (group_rows c) → MovedRow from time c q r
moved_groups from time (node v r0 es ts) q r (inl p) = record {
  after = record r0 { placed = time; previous = from };
  row = inl (ap (λ (w : Group). (w.0, record r0 { placed = time; previous = from })) p);
  state = sym (ap (λ (w : Group). w.1.state) p);
  same = inl (ap (λ (w : Group). w.0) p);
}
moved_groups from time (node v r0 es ts) q r (inr i) = record { after = r; row = inr i; state = refl; same = inr refl }

module _ (d : BareDoc) (from to : NodeId) (time : ℕ) (c b goal : Tree) where
  abbrev w : Tree
  w = moved_group from time c

  abbrev mid : Tree
  mid = changed_at from (without_group (id_of c)) d.tree

  abbrev moved : BareDoc
  moved = record d { tree = group_moved from to time c d.tree }

  pub move_group_stays : IsDoc d → IsDoc moved → group_with from d.tree ≡ Some b → child_with (id_of c) b ≡ Some c → group_with to mid ≡ Some goal → placed_of c < time → Stays d moved
  move_group_stays isd ise there own at less =
      let u = id_of c in
      let carried : Carries d.tree moved.tree (λ r. IsIn r (entry_rows c)) (λ r. IsIn r (group_rows c)) (λ g q. (u ≡ q) ⊎ IsKid (child_rows c) g q) = carries_then d.tree mid moved.tree
      (carries_at from (without_group u) d.tree b there (take_group_root u b) (take_group_carries u c b own))
      (carries_at to (with_group w) mid goal at (put_group_keeps w goal) (put_group_carries w goal)) in
      let entry_there : (q : Entry) → IsIn q (entry_rows c) → IsIn q (entry_rows moved.tree) =
      λ q i. entry_in to (with_group w) mid goal at (put_group_keeps w goal) q (put_group_entry w goal q (moved_entries from time c q i)) in
      let group_there : (q : Group) → IsIn q (group_rows w) → IsIn q (group_rows moved.tree) =
      λ q i. group_in to (with_group w) mid goal at (put_group_keeps w goal) q (put_group_group w goal q i) in
      let kid_there : (g q : NodeId) → IsKid (child_rows c) g q → IsKid (child_rows moved.tree) g q =
      λ g q k. kid_in to (with_group w) mid goal at (put_group_keeps w goal) g q (put_group_kid w goal g q (moved_kids from time c g q k)) in
      let kid : IsKid (child_rows moved.tree) (id_of goal) u =
      subst (λ (v : NodeId). IsKid (child_rows moved.tree) (id_of goal) v) (moved_id from time c)
      (kid_in to (with_group w) mid goal at (put_group_keeps w goal) (id_of goal) (id_of w) (put_group_root w goal)) in
      let was : IsIn (u, record_of c) (group_rows d.tree) = was_group_in from d.tree b there (u, record_of c) (child_groups u c b own (u, record_of c) (root_row c)) in
      let row : IsIn (u, record_of w) (group_rows moved.tree) = subst (λ (v : NodeId). IsIn (v, record_of w) (group_rows moved.tree)) (moved_id from time c) (group_there (id_of w, record_of w) (root_row w)) in
      let since = ap (λ s. s.placed) (group_stay d isd u (record_of c) was) ∙ placed_is c in
      let now = ap (λ s. s.placed) (group_stay moved ise u (record_of w) row) ∙ moved_since from time c in
      record {
        entries = λ q r i. elim (carried.entries (q, r) i) [ inl k ↦ inl (entry_same q r moved k) | inr k ↦ inl (entry_same q r moved (entry_there (q, r) k)) ];
        groups = λ q r i. elim (carried.groups (q, r) i) [
          | inl k ↦ inl (group_same q r moved k)
          | inr k ↦
              let m = moved_groups from time c q r k in
              inl (record {
                after = m.after;
                row = group_there (q, m.after) m.row;
                more = ap (λ s. state_join s m.after.state) m.state ∙ state_joins.idem m.after.state;
                time = (let same = ap (λ s. s.modified) m.state in omega (arith, same));
              })
        ];
        places = places_stay d moved isd ise (λ g q k. elim (decide (is_id q u)) [
          | inl p ↦ inl (subst (λ (v : NodeId). KidAfter g v (stay_of (shape_of d) v) moved) (sym (same_id q u p)) (kid_later d moved g (id_of goal) u kid (omega (arith, since, now, less))))
          | inr p ↦
              let es : (r : EntryRecord) → IsIn (q, r) (entry_rows d.tree) → IsIn (q, r) (entry_rows moved.tree) =
              λ r i. elim (carried.entries (q, r) i) [ inl j ↦ j | inr j ↦ entry_there (q, r) j ] in
              let gs : (r : GroupRecord) → IsIn (q, r) (group_rows d.tree) → IsIn (q, r) (group_rows moved.tree) =
              λ r i. elim (carried.groups (q, r) i) [
                | inl j ↦ j
                | inr j ↦
                    let m = moved_groups from time c q r j in
                    elim m.same [
                      | inl s ↦ absurd (other q u p s)
                      | inr s ↦ group_there (q, r) (subst (λ (x : GroupRecord). IsIn (q, x) (group_rows w)) s m.row)
                    ]
              ] in
              elim (carried.kids g q k) [
                | inl z ↦ inl (kid_same d moved isd ise g q es gs k z)
                | inr z ↦ elim z [
                  | inl s ↦ absurd (other q u p s)
                  | inr s ↦ inl (kid_same d moved isd ise g q es gs k (kid_there g q s))
                ]
              ]
        ]);
        tombs = λ t i. tomb_same moved t i;
        root = root_same from (without_group u) d.tree b there (take_group_root u b) ∙ root_same to (with_group w) mid goal at (put_group_keeps w goal);
        meta = meta_joins.idem (shared_of d.meta);
      }
