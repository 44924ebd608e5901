-- Rows of a tree that are there after one of its groups is changed.
use Rattle.std.proofs.Common.{◌≡◌, ◌⊎◌, cond, find, inl, inr, List, [], ◌∷◌, ◌++◌, Some, refl, sym, ap, subst, ◌∙◌, append_assoc, append-nil}
use Rattle.std.proofs.lemmas.Option.{same_Some}
use Rattle.vault_model.specs.Db.{NodeId}
use Rattle.vault_model.specs.Join.{IsIn, is_id}
use Rattle.vault_model.specs.Shape.{Children, EntryRecord, GroupRecord}
use Rattle.vault_model.specs.Tree.{Tree, Trees, beside, child_rows, child_rows_all, entry_rows, entry_rows_all, group_rows, group_rows_all, id_of, ids_of, node, none}
use Rattle.vault_model.proofs.Tests.{decide, in_back, in_either, in_front, map_append}
use Rattle.merge_core.proofs.SoundDoc.{IsKid}
use Rattle.tree_core.specs.Changes.{but_group, changed_at, changed_entry, child_with, group_with, own_entry, own_group, with_changed, with_entry, with_group, with_last, without, without_entry, without_group}
use Rattle.tree_core.proofs.Around.{AreRows, children_rows, entries_rows, found_id, groups_rows, rows_change}
use Rattle.tree_core.proofs.Edited.{same_keys}
use Rattle.tree_core.proofs.EntriesRemoved.{split}
use Rattle.tree_core.proofs.Options.{never}
use Rattle.tree_core.proofs.Rows.{keys}

abbrev pub Entry : Type 0
Entry = NodeId × EntryRecord

abbrev pub Group : Type 0
Group = NodeId × GroupRecord

-- The rows of a tree are there in another, but for those that are said.
pub record Carries (old new : Tree) (lost_entry : Entry → Type 0) (lost_group : Group → Type 0) (lost_kid : NodeId → NodeId → Type 0) : Type 0 where
  pub entries : (r : Entry) → IsIn r (entry_rows old) → IsIn r (entry_rows new) ⊎ lost_entry r
  pub groups : (r : Group) → IsIn r (group_rows old) → IsIn r (group_rows new) ⊎ lost_group r
  pub kids : (g u : NodeId) → IsKid (child_rows old) g u → IsKid (child_rows new) g u ⊎ lost_kid g u

-- ---- rows around those of a group

rows_carried : {A L : Type 0} (F B X Y : List A) (r : A) → (IsIn r X → IsIn r Y ⊎ L) → IsIn r (F ++ (X ++ B)) → IsIn r (F ++ (Y ++ B)) ⊎ L
rows_carried F B X Y r to i =
    elim (in_either F (X ++ B) r i) [
      | inl j ↦ inl (in_front F (Y ++ B) r j)
      | inr j ↦ elim (in_either X B r j) [
        | inl k ↦ elim (to k) [ inl y ↦ inl (in_back F (Y ++ B) r (in_front Y B r y)) | inr l ↦ inr l ]
        | inr k ↦ inl (in_back F (Y ++ B) r (in_back Y B r k))
      ]
    ]

kids_carried : {L : Type 0} (F B X Y : List (NodeId × Children)) (g u : NodeId) → (IsKid X g u → IsKid Y g u ⊎ L) → IsKid (F ++ (X ++ B)) g u → IsKid (F ++ (Y ++ B)) g u ⊎ L
kids_carried F B X Y g u to (c, (i, k)) =
    elim (in_either F (X ++ B) (g, c) i) [
      | inl j ↦ inl (c, (in_front F (Y ++ B) (g, c) j, k))
      | inr j ↦ elim (in_either X B (g, c) j) [
        | inl x ↦ elim (to (c, (x, k))) [ inl y ↦ inl (y.0, (in_back F (Y ++ B) (g, y.0) (in_front Y B (g, y.0) y.1.0), y.1.1)) | inr l ↦ inr l ]
        | inr x ↦ inl (c, (in_back F (Y ++ B) (g, c) (in_back Y B (g, c) x), k))
      ]
    ]

module _ (g : NodeId) (f : Tree → Tree) (t b : Tree) (there : group_with g t ≡ Some b) (keeps : id_of (f b) ≡ id_of b) where
  stays : id_of (f b) ≡ g
  stays = keeps ∙ found_id g t b there

  pub carries_at : {P : Entry → Type 0} {Q : Group → Type 0} {R : NodeId → NodeId → Type 0} → Carries b (f b) P Q R → Carries t (changed_at g f t) P Q R
  carries_at {P} {Q} {R} c =
      let es = rows_change entry_rows entry_rows_all entries_rows g f t b there stays in
      let gs = rows_change group_rows group_rows_all groups_rows g f t b there stays in
      let ks = rows_change child_rows child_rows_all children_rows g f t b there stays in
      record {
        entries = λ r i. subst (λ (rows : List Entry). IsIn r rows ⊎ P r) (sym es.now)
            (rows_carried es.front es.back (entry_rows b) (entry_rows (f b)) r (c.entries r) (subst (λ (rows : List Entry). IsIn r rows) es.was i));
        groups = λ r i. subst (λ (rows : List Group). IsIn r rows ⊎ Q r) (sym gs.now)
            (rows_carried gs.front gs.back (group_rows b) (group_rows (f b)) r (c.groups r) (subst (λ (rows : List Group). IsIn r rows) gs.was i));
        kids = λ x u k. subst (λ (rows : List (NodeId × Children)). IsKid rows x u ⊎ R x u) (sym ks.now)
            (kids_carried ks.front ks.back (child_rows b) (child_rows (f b)) x u (c.kids x u) (subst (λ (rows : List (NodeId × Children)). IsKid rows x u) ks.was k));
      }

  -- the rows of the changed group are in the tree
  pub entry_in : (r : Entry) → IsIn r (entry_rows (f b)) → IsIn r (entry_rows (changed_at g f t))
  entry_in r i =
      let es = rows_change entry_rows entry_rows_all entries_rows g f t b there stays in
      subst (λ (rows : List Entry). IsIn r rows) (sym es.now) (in_back es.front (entry_rows (f b) ++ es.back) r (in_front (entry_rows (f b)) es.back r i))

  pub group_in : (r : Group) → IsIn r (group_rows (f b)) → IsIn r (group_rows (changed_at g f t))
  group_in r i =
      let gs = rows_change group_rows group_rows_all groups_rows g f t b there stays in
      subst (λ (rows : List Group). IsIn r rows) (sym gs.now) (in_back gs.front (group_rows (f b) ++ gs.back) r (in_front (group_rows (f b)) gs.back r i))

  pub kid_in : (x u : NodeId) → IsKid (child_rows (f b)) x u → IsKid (child_rows (changed_at g f t)) x u
  kid_in x u (c, (i, k)) =
      let ks = rows_change child_rows child_rows_all children_rows g f t b there stays in
      (c, (subst (λ (rows : List (NodeId × Children)). IsIn (x, c) rows) (sym ks.now) (in_back ks.front (child_rows (f b) ++ ks.back) (x, c) (in_front (child_rows (f b)) ks.back (x, c) i)), k))

-- the same of rows as they were
pub was_entry_in : (g : NodeId) (t b : Tree) → group_with g t ≡ Some b → (r : Entry) → IsIn r (entry_rows b) → IsIn r (entry_rows t)
was_entry_in g t b there r i =
    let es = rows_change entry_rows entry_rows_all entries_rows g (λ x. x) t b there (found_id g t b there) in
    subst (λ (rows : List Entry). IsIn r rows) (sym es.was) (in_back es.front (entry_rows b ++ es.back) r (in_front (entry_rows b) es.back r i))

pub was_group_in : (g : NodeId) (t b : Tree) → group_with g t ≡ Some b → (r : Group) → IsIn r (group_rows b) → IsIn r (group_rows t)
was_group_in g t b there r i =
    let gs = rows_change group_rows group_rows_all groups_rows g (λ x. x) t b there (found_id g t b there) in
    subst (λ (rows : List Group). IsIn r rows) (sym gs.was) (in_back gs.front (group_rows b ++ gs.back) r (in_front (group_rows b) gs.back r i))

-- ---- a group's own children

abbrev all_of : Children → List NodeId
all_of c = c.entries ++ c.groups

kids_own : {L : Type 0} (v : NodeId) (C D : Children) (R S : List (NodeId × Children)) (g u : NodeId) → (IsIn u (all_of C) → IsIn u (all_of D) ⊎ L) → (IsKid R g u → IsKid S g u ⊎ L)
    → IsKid ((v, C) ∷ R) g u → IsKid ((v, D) ∷ S) g u ⊎ L
kids_own v C D R S g u own rest (c, (inl p, k)) =
    elim (own (subst (λ (w : NodeId × Children). IsIn u (all_of w.1)) (sym p) k)) [
      | inl y ↦ inl (D, (inl (ap (λ (w : NodeId × Children). (w.0, D)) p), y))
      | inr l ↦ inr l
    ]
kids_own v C D R S g u own rest (c, (inr i, k)) = elim (rest (c, (i, k))) [ inl y ↦ inl (y.0, (inr y.1.0, y.1.1)) | inr l ↦ inr l ]

-- ---- an entry put in

pub put_entry_carries : (e : Entry) (b : Tree) → Carries b (with_entry e b) (λ r. ⊥) (λ r. ⊥) (λ g u. ⊥)
put_entry_carries e (node v r es ts) = record {
  entries = λ q i. elim (in_either es (entry_rows_all ts) q i) [
    | inl j ↦ inl (in_front (es ++ e ∷ []) (entry_rows_all ts) q (in_front es (e ∷ []) q j))
    | inr j ↦ inl (in_back (es ++ e ∷ []) (entry_rows_all ts) q j)
  ];
  groups = λ q i. inl i;
  kids = λ g u k. kids_own v (record { entries = keys es; groups = ids_of ts }) (record { entries = keys (es ++ e ∷ []); groups = ids_of ts }) (child_rows_all ts) (child_rows_all ts) g u
      (λ i. elim (in_either (keys es) (ids_of ts) u i) [
        | inl j ↦ inl (in_front (keys (es ++ e ∷ [])) (ids_of ts) u (subst (λ (us : List NodeId). IsIn u us) (sym (map_append (λ (x : Entry). x.0) es (e ∷ []))) (in_front (keys es) (e.0 ∷ []) u j)))
        | inr j ↦ inl (in_back (keys (es ++ e ∷ [])) (ids_of ts) u j)
      ])
      (λ i. inl i) k;
}

pub put_entry_row : (e : Entry) (b : Tree) → IsIn e (entry_rows (with_entry e b))
put_entry_row e (node v r es ts) = in_front (es ++ e ∷ []) (entry_rows_all ts) e (in_back es (e ∷ []) e (inl refl))

pub put_entry_kid : (e : Entry) (b : Tree) → IsKid (child_rows (with_entry e b)) (id_of b) e.0
put_entry_kid e (node v r es ts) = (
  record { entries = keys (es ++ e ∷ []); groups = ids_of ts },
  (
    inl refl,
    in_front (keys (es ++ e ∷ [])) (ids_of ts) e.0 (subst (λ (us : List NodeId). IsIn e.0 us) (sym (map_append (λ (x : Entry). x.0) es (e ∷ []))) (in_back (keys es) (e.0 ∷ []) e.0 (inl refl))),
  ),
)

-- ---- an entry taken out

pub take_entry_carries : (u : NodeId) (e : Entry) (b : Tree) → own_entry u b ≡ Some e → Carries b (without_entry u b) (λ r. e ≡ r) (λ r. ⊥) (λ g q. e.0 ≡ q)
take_entry_carries u e (node v r es ts) own =
    let s = split u e es own in
    let was : keys es ≡ keys s.front ++ e.0 ∷ keys s.back = ap keys s.was ∙ map_append (λ (x : Entry). x.0) s.front (e ∷ s.back) in
    let now : keys (without u es) ≡ keys s.front ++ keys s.back = ap keys s.now ∙ map_append (λ (x : Entry). x.0) s.front s.back in
    record {
      entries = λ q i. elim (in_either es (entry_rows_all ts) q i) [
        | inl j ↦ elim (in_either s.front (e ∷ s.back) q (subst (λ (xs : List Entry). IsIn q xs) s.was j)) [
          | inl k ↦ inl (in_front (without u es) (entry_rows_all ts) q (subst (λ (xs : List Entry). IsIn q xs) (sym s.now) (in_front s.front s.back q k)))
          | inr k ↦ elim k [
            | inl p ↦ inr p
            | inr l ↦ inl (in_front (without u es) (entry_rows_all ts) q (subst (λ (xs : List Entry). IsIn q xs) (sym s.now) (in_back s.front s.back q l)))
          ]
        ]
        | inr j ↦ inl (in_back (without u es) (entry_rows_all ts) q j)
      ];
      groups = λ q i. inl i;
      kids = λ g q k. kids_own v (record { entries = keys es; groups = ids_of ts }) (record { entries = keys (without u es); groups = ids_of ts }) (child_rows_all ts) (child_rows_all ts) g q
          (λ i. elim (in_either (keys es) (ids_of ts) q i) [
            | inl j ↦ elim (in_either (keys s.front) (e.0 ∷ keys s.back) q (subst (λ (us : List NodeId). IsIn q us) was j)) [
              | inl k ↦ inl (in_front (keys (without u es)) (ids_of ts) q (subst (λ (us : List NodeId). IsIn q us) (sym now) (in_front (keys s.front) (keys s.back) q k)))
              | inr k ↦ elim k [
                | inl p ↦ inr p
                | inr l ↦ inl (in_front (keys (without u es)) (ids_of ts) q (subst (λ (us : List NodeId). IsIn q us) (sym now) (in_back (keys s.front) (keys s.back) q l)))
              ]
            ]
            | inr j ↦ inl (in_back (keys (without u es)) (ids_of ts) q j)
          ])
          (λ i. inl i) k;
    }

-- ---- an entry changed

changed_carries : (u : NodeId) (f : EntryRecord → EntryRecord) (e : Entry) (es : List Entry) → find (λ (x : Entry). is_id x.0 u) es ≡ Some e → (q : Entry) → IsIn q es → IsIn q (with_changed u f es) ⊎ (e ≡ q)
changed_carries u f e [] found q i = never e found
changed_carries u f e (x ∷ xs) found q i =
    elim (decide (is_id x.0 u)) [
      | inl p ↦
          let same : x ≡ e = same_Some x e (ap (λ b. cond b (Some x) (find (λ (y : Entry). is_id y.0 u) xs)) (sym p) ∙ found) in
          let made : with_changed u f (x ∷ xs) ≡ (x.0, f x.1) ∷ xs = ap (λ b. cond b ((x.0, f x.1) ∷ xs) (x ∷ with_changed u f xs)) p in
          elim i [
            | inl k ↦ inr (sym same ∙ k)
            | inr k ↦ inl (subst (λ (ys : List Entry). IsIn q ys) (sym made) (inr k))
          ]
      | inr p ↦
          let rest = ap (λ b. cond b (Some x) (find (λ (y : Entry). is_id y.0 u) xs)) (sym p) ∙ found in
          let made : with_changed u f (x ∷ xs) ≡ x ∷ with_changed u f xs = ap (λ b. cond b ((x.0, f x.1) ∷ xs) (x ∷ with_changed u f xs)) p in
          elim i [
            | inl k ↦ inl (subst (λ (ys : List Entry). IsIn q ys) (sym made) (inl k))
            | inr k ↦ elim (changed_carries u f e xs rest q k) [
              | inl y ↦ inl (subst (λ (ys : List Entry). IsIn q ys) (sym made) (inr y))
              | inr y ↦ inr y
            ]
          ]
    ]

changed_has : (u : NodeId) (f : EntryRecord → EntryRecord) (e : Entry) (es : List Entry) → find (λ (x : Entry). is_id x.0 u) es ≡ Some e → IsIn (e.0, f e.1) (with_changed u f es)
changed_has u f e [] found = never e found
changed_has u f e (x ∷ xs) found =
    elim (decide (is_id x.0 u)) [
      | inl p ↦
          let same : x ≡ e = same_Some x e (ap (λ b. cond b (Some x) (find (λ (y : Entry). is_id y.0 u) xs)) (sym p) ∙ found) in
          let made : with_changed u f (x ∷ xs) ≡ (x.0, f x.1) ∷ xs = ap (λ b. cond b ((x.0, f x.1) ∷ xs) (x ∷ with_changed u f xs)) p in
          subst (λ (ys : List Entry). IsIn (e.0, f e.1) ys) (sym made) (inl (ap (λ (y : Entry). (y.0, f y.1)) same))
      | inr p ↦
          let rest = ap (λ b. cond b (Some x) (find (λ (y : Entry). is_id y.0 u) xs)) (sym p) ∙ found in
          let made : with_changed u f (x ∷ xs) ≡ x ∷ with_changed u f xs = ap (λ b. cond b ((x.0, f x.1) ∷ xs) (x ∷ with_changed u f xs)) p in
          subst (λ (ys : List Entry). IsIn (e.0, f e.1) ys) (sym made) (inr (changed_has u f e xs rest))
    ]

pub change_entry_carries : (u : NodeId) (f : EntryRecord → EntryRecord) (e : Entry) (b : Tree) → own_entry u b ≡ Some e → Carries b (changed_entry u f b) (λ r. e ≡ r) (λ r. ⊥) (λ g q. ⊥)
change_entry_carries u f e (node v r es ts) own = record {
  entries = λ q i. elim (in_either es (entry_rows_all ts) q i) [
    | inl j ↦ elim (changed_carries u f e es own q j) [
      | inl k ↦ inl (in_front (with_changed u f es) (entry_rows_all ts) q k)
      | inr k ↦ inr k
    ]
    | inr j ↦ inl (in_back (with_changed u f es) (entry_rows_all ts) q j)
  ];
  groups = λ q i. inl i;
  kids = λ g q k. inl (subst (λ (us : List NodeId). IsKid ((v, record { entries = us; groups = ids_of ts }) ∷ child_rows_all ts) g q) (sym (same_keys u f es)) k);
}

pub change_entry_row : (u : NodeId) (f : EntryRecord → EntryRecord) (e : Entry) (b : Tree) → own_entry u b ≡ Some e → IsIn (e.0, f e.1) (entry_rows (changed_entry u f b))
change_entry_row u f e (node v r es ts) own = in_front (with_changed u f es) (entry_rows_all ts) (e.0, f e.1) (changed_has u f e es own)

-- ---- a group put in

module _ {A : Type 0} (rows : Tree → List A) (rows_all : Trees → List A) (are : AreRows rows rows_all) where
  last_rows : (w : Tree) (ts : Trees) → rows_all (with_last w ts) ≡ rows_all ts ++ rows w
  last_rows w none = are.at_beside w none ∙ ap (λ xs. rows w ++ xs) are.at_none ∙ append-nil (rows w) ∙ sym (ap (λ xs. xs ++ rows w) are.at_none)
  last_rows w (beside t ts) =
      are.at_beside t (with_last w ts) ∙ ap (λ xs. rows t ++ xs) (last_rows w ts) ∙ sym (append_assoc (rows t) (rows_all ts) (rows w))
      ∙ sym (ap (λ xs. xs ++ rows w) (are.at_beside t ts))

  in_last : (w : Tree) (ts : Trees) (q : A) → IsIn q (rows w) → IsIn q (rows_all (with_last w ts))
  in_last w ts q i = subst (λ (xs : List A). IsIn q xs) (sym (last_rows w ts)) (in_back (rows_all ts) (rows w) q i)

  in_others : (w : Tree) (ts : Trees) (q : A) → IsIn q (rows_all ts) → IsIn q (rows_all (with_last w ts))
  in_others w ts q i = subst (λ (xs : List A). IsIn q xs) (sym (last_rows w ts)) (in_front (rows_all ts) (rows w) q i)

  but_rows : (u : NodeId) (c : Tree) (ts : Trees) → own_group u ts ≡ Some c → (q : A) → IsIn q (rows_all ts) → IsIn q (rows_all (but_group u ts)) ⊎ IsIn q (rows c)
  but_rows u c none own q i = never c own
  but_rows u c (beside t ts) own q i =
      let j = in_either (rows t) (rows_all ts) q (subst (λ (xs : List A). IsIn q xs) (are.at_beside t ts) i) in
      elim (decide (is_id (id_of t) u)) [
        | inl p ↦
            let same : t ≡ c = same_Some t c (ap (λ b. cond b (Some t) (own_group u ts)) (sym p) ∙ own) in
            let made : but_group u (beside t ts) ≡ ts = ap (λ b. cond b ts (beside t (but_group u ts))) p in
            elim j [
              | inl k ↦ inr (subst (λ (w : Tree). IsIn q (rows w)) same k)
              | inr k ↦ inl (subst (λ (xs : Trees). IsIn q (rows_all xs)) (sym made) k)
            ]
        | inr p ↦
            let rest = ap (λ b. cond b (Some t) (own_group u ts)) (sym p) ∙ own in
            let made : but_group u (beside t ts) ≡ beside t (but_group u ts) = ap (λ b. cond b ts (beside t (but_group u ts))) p in
            let back : IsIn q (rows t ++ rows_all (but_group u ts)) → IsIn q (rows_all (but_group u (beside t ts))) =
            λ k. subst (λ (xs : Trees). IsIn q (rows_all xs)) (sym made) (subst (λ (xs : List A). IsIn q xs) (sym (are.at_beside t (but_group u ts))) k) in
            elim j [
              | inl k ↦ inl (back (in_front (rows t) (rows_all (but_group u ts)) q k))
              | inr k ↦ elim (but_rows u c ts rest q k) [
                | inl y ↦ inl (back (in_back (rows t) (rows_all (but_group u ts)) q y))
                | inr y ↦ inr y
              ]
            ]
      ]

ids_last : (w : Tree) (ts : Trees) → ids_of (with_last w ts) ≡ ids_of ts ++ id_of w ∷ []
ids_last w none = refl
ids_last w (beside t ts) = ap (λ us. id_of t ∷ us) (ids_last w ts)

pub put_group_carries : (w b : Tree) → Carries b (with_group w b) (λ r. ⊥) (λ r. ⊥) (λ g u. ⊥)
put_group_carries w (node v r es ts) = record {
  entries = λ q i. elim (in_either es (entry_rows_all ts) q i) [
    | inl j ↦ inl (in_front es (entry_rows_all (with_last w ts)) q j)
    | inr j ↦ inl (in_back es (entry_rows_all (with_last w ts)) q (in_others entry_rows entry_rows_all entries_rows w ts q j))
  ];
  groups = λ q i. elim i [ inl p ↦ inl (inl p) | inr j ↦ inl (inr (in_others group_rows group_rows_all groups_rows w ts q j)) ];
  kids = λ g u k. kids_own v (record { entries = keys es; groups = ids_of ts }) (record { entries = keys es; groups = ids_of (with_last w ts) }) (child_rows_all ts) (child_rows_all (with_last w ts)) g u
      (λ i. elim (in_either (keys es) (ids_of ts) u i) [
        | inl j ↦ inl (in_front (keys es) (ids_of (with_last w ts)) u j)
        | inr j ↦ inl (in_back (keys es) (ids_of (with_last w ts)) u (subst (λ (us : List NodeId). IsIn u us) (sym (ids_last w ts)) (in_front (ids_of ts) (id_of w ∷ []) u j)))
      ])
      (λ i. inl (i.0, (in_others child_rows child_rows_all children_rows w ts (g, i.0) i.1.0, i.1.1))) k;
}

pub put_group_entry : (w b : Tree) (q : Entry) → IsIn q (entry_rows w) → IsIn q (entry_rows (with_group w b))
put_group_entry w (node v r es ts) q i = in_back es (entry_rows_all (with_last w ts)) q (in_last entry_rows entry_rows_all entries_rows w ts q i)

pub put_group_group : (w b : Tree) (q : Group) → IsIn q (group_rows w) → IsIn q (group_rows (with_group w b))
put_group_group w (node v r es ts) q i = inr (in_last group_rows group_rows_all groups_rows w ts q i)

pub put_group_kid : (w b : Tree) (g u : NodeId) → IsKid (child_rows w) g u → IsKid (child_rows (with_group w b)) g u
put_group_kid w (node v r es ts) g u (c, (i, k)) = (c, (inr (in_last child_rows child_rows_all children_rows w ts (g, c) i), k))

pub put_group_root : (w b : Tree) → IsKid (child_rows (with_group w b)) (id_of b) (id_of w)
put_group_root w (node v r es ts) = (
  record { entries = keys es; groups = ids_of (with_last w ts) },
  (inl refl, in_back (keys es) (ids_of (with_last w ts)) (id_of w) (subst (λ (us : List NodeId). IsIn (id_of w) us) (sym (ids_last w ts)) (in_back (ids_of ts) (id_of w ∷ []) (id_of w) (inl refl)))),
)

-- ---- a group taken out

ids_but : (u : NodeId) (c : Tree) (ts : Trees) → own_group u ts ≡ Some c → (q : NodeId) → IsIn q (ids_of ts) → IsIn q (ids_of (but_group u ts)) ⊎ (id_of c ≡ q)
ids_but u c none own q i = never c own
ids_but u c (beside t ts) own q i =
    elim (decide (is_id (id_of t) u)) [
      | inl p ↦
          let same : t ≡ c = same_Some t c (ap (λ b. cond b (Some t) (own_group u ts)) (sym p) ∙ own) in
          let made : but_group u (beside t ts) ≡ ts = ap (λ b. cond b ts (beside t (but_group u ts))) p in
          elim i [
            | inl k ↦ inr (ap id_of (sym same) ∙ k)
            | inr k ↦ inl (subst (λ (xs : Trees). IsIn q (ids_of xs)) (sym made) k)
          ]
      | inr p ↦
          let rest = ap (λ b. cond b (Some t) (own_group u ts)) (sym p) ∙ own in
          let made : but_group u (beside t ts) ≡ beside t (but_group u ts) = ap (λ b. cond b ts (beside t (but_group u ts))) p in
          elim i [
            | inl k ↦ inl (subst (λ (xs : Trees). IsIn q (ids_of xs)) (sym made) (inl k))
            | inr k ↦ elim (ids_but u c ts rest q k) [
              | inl y ↦ inl (subst (λ (xs : Trees). IsIn q (ids_of xs)) (sym made) (inr y))
              | inr y ↦ inr y
            ]
          ]
    ]

pub take_group_carries : (u : NodeId) (c b : Tree) → child_with u b ≡ Some c
    → Carries b (without_group u b) (λ r. IsIn r (entry_rows c)) (λ r. IsIn r (group_rows c)) (λ g q. (id_of c ≡ q) ⊎ IsKid (child_rows c) g q)
take_group_carries u c (node v r es ts) own = record {
  entries = λ q i. elim (in_either es (entry_rows_all ts) q i) [
    | inl j ↦ inl (in_front es (entry_rows_all (but_group u ts)) q j)
    | inr j ↦ elim (but_rows entry_rows entry_rows_all entries_rows u c ts own q j) [
      | inl k ↦ inl (in_back es (entry_rows_all (but_group u ts)) q k)
      | inr k ↦ inr k
    ]
  ];
  groups = λ q i. elim i [
    | inl p ↦ inl (inl p)
    | inr j ↦ elim (but_rows group_rows group_rows_all groups_rows u c ts own q j) [
      | inl k ↦ inl (inr k)
      | inr k ↦ inr k
    ]
  ];
  kids = λ g q k. kids_own v (record { entries = keys es; groups = ids_of ts }) (record { entries = keys es; groups = ids_of (but_group u ts) }) (child_rows_all ts) (child_rows_all (but_group u ts)) g q
      (λ i. elim (in_either (keys es) (ids_of ts) q i) [
        | inl j ↦ inl (in_front (keys es) (ids_of (but_group u ts)) q j)
        | inr j ↦ elim (ids_but u c ts own q j) [
          | inl y ↦ inl (in_back (keys es) (ids_of (but_group u ts)) q y)
          | inr y ↦ inr (inl y)
        ]
      ])
      (λ i. elim (but_rows child_rows child_rows_all children_rows u c ts own (g, i.0) i.1.0) [
        | inl y ↦ inl (i.0, (y, i.1.1))
        | inr y ↦ inr (inr (i.0, (y, i.1.1)))
      ]) k;
}
