-- What is found in a tree by its ids where one of its groups is changed.
use Rattle.std.proofs.Common.{◌≡◌, Bool, true, false, cond, ◌||◌, inl, inr, List, [], ◌∷◌, ◌++◌, Option, None, Some, refl, sym, ap, subst, ◌∙◌, arith}
use Rattle.std.specs.FinMap.{find}
use Rattle.vault_model.specs.Db.{NodeId, id_cmp}
use Rattle.vault_model.specs.Join.{IsIn, is_id}
use Rattle.vault_model.specs.Shape.{Children, EntryRecord, GroupRecord, no_children}
use Rattle.vault_model.specs.Tree.{BareDoc, IsDoc, Tree, Trees, are_distinct, beside, child_rows, child_rows_all, entry_rows, entry_rows_all, group_rows, group_rows_all, id_of, ids_of, node, node_ids, none}
use Rattle.vault_model.proofs.Ids.{same_id}
use Rattle.vault_model.proofs.Tests.{decide, in_back, in_front, map_append, or_false}
use Rattle.merge_core.proofs.SoundDoc.{shape_entry, shape_group, shape_kids}
use Rattle.tree_core.specs.Changes.{changed_at, changed_entry, group_with, own_entry, with_changed, with_entry, with_group, with_last, without, without_entry}
use Rattle.tree_core.specs.Finding.{or_else}
use Rattle.tree_core.proofs.Around.{AreRows, children_rows, entries_rows, found_id, groups_rows, rows_change}
use Rattle.tree_core.proofs.Counted.{once}
use Rattle.tree_core.proofs.EntriesRemoved.{split}
use Rattle.tree_core.proofs.Rows.{child_keys, keys}
use Rattle.growth_laws.proofs.Stays.{row_found}
use Rattle.frame_laws.specs.Frame.{AreSameBut, either, no_node, only}

-- ---- rows side by side

module _ {X : Type 0} where
  pub find_append : (q : NodeId) (xs ys : List (NodeId × X)) → find id_cmp q (xs ++ ys) ≡ or_else (find id_cmp q xs) (find id_cmp q ys)
  find_append q [] ys = refl
  find_append q (r ∷ xs) ys =
      elim (decide (is_id q r.0)) [
        | inl p ↦ ap (λ b. cond b (Some r.1) (find id_cmp q (xs ++ ys))) p ∙ sym (ap (λ b. or_else (cond b (Some r.1) (find id_cmp q xs)) (find id_cmp q ys)) p)
        | inr p ↦ ap (λ b. cond b (Some r.1) (find id_cmp q (xs ++ ys))) p ∙ find_append q xs ys ∙ sym (ap (λ b. or_else (cond b (Some r.1) (find id_cmp q xs)) (find id_cmp q ys)) p)
      ]

  pub find_front : (q : NodeId) (xs ys zs : List (NodeId × X)) → find id_cmp q xs ≡ find id_cmp q ys → find id_cmp q (xs ++ zs) ≡ find id_cmp q (ys ++ zs)
  find_front q xs ys zs e = find_append q xs zs ∙ ap (λ o. or_else o (find id_cmp q zs)) e ∙ sym (find_append q ys zs)

  pub find_back : (q : NodeId) (xs ys zs : List (NodeId × X)) → find id_cmp q ys ≡ find id_cmp q zs → find id_cmp q (xs ++ ys) ≡ find id_cmp q (xs ++ zs)
  find_back q xs ys zs e = find_append q xs ys ∙ ap (or_else (find id_cmp q xs)) e ∙ sym (find_append q xs zs)

  find_around : (q : NodeId) (front back xs ys : List (NodeId × X)) → find id_cmp q xs ≡ find id_cmp q ys → find id_cmp q (front ++ (xs ++ back)) ≡ find id_cmp q (front ++ (ys ++ back))
  find_around q front back xs ys e = find_back q front (xs ++ back) (ys ++ back) (find_front q xs ys back e)

  -- a row of another id is passed over
  pub passed : (q : NodeId) (r : NodeId × X) (rows : List (NodeId × X)) → is_id q r.0 ≡ false → find id_cmp q (r ∷ rows) ≡ find id_cmp q rows
  passed q r rows p = ap (λ b. cond b (Some r.1) (find id_cmp q rows)) p

-- nothing after a choice
pub or_none : {A : Type 0} (o : Option A) → or_else o None ≡ o
or_none None = refl
or_none (Some y) = refl

-- ---- two trees

-- Two trees have the same rows but for those of some ids.
pub record SameRows (entry group children : NodeId → Bool) (s t : Tree) : Type 0 where
  pub entries : (q : NodeId) → entry q ≡ false → find id_cmp q (entry_rows t) ≡ find id_cmp q (entry_rows s)
  pub groups : (q : NodeId) → group q ≡ false → find id_cmp q (group_rows t) ≡ find id_cmp q (group_rows s)
  pub lists : (q : NodeId) → children q ≡ false → find id_cmp q (child_rows t) ≡ find id_cmp q (child_rows s)
  pub root : id_of t ≡ id_of s

pub same_but : (entry group children : NodeId → Bool) (d e : BareDoc) → IsDoc d → IsDoc e → SameRows entry group children d.tree e.tree → AreSameBut entry group children d e
same_but entry group children d e isd ise s = record {
  entries = λ q p. shape_entry e ise q ∙ s.entries q p ∙ sym (shape_entry d isd q);
  groups = λ q p. shape_group e ise q ∙ s.groups q p ∙ sym (shape_group d isd q);
  lists = λ q p. shape_kids e ise q ∙ s.lists q p ∙ sym (shape_kids d isd q);
  root = s.root;
}

pub same_then : (entry group children : NodeId → Bool) (r s t : Tree) → SameRows entry group children r s → SameRows entry group children s t → SameRows entry group children r t
same_then entry group children r s t only either = record {
  entries = λ q p. either.entries q p ∙ only.entries q p;
  groups = λ q p. either.groups q p ∙ only.groups q p;
  lists = λ q p. either.lists q p ∙ only.lists q p;
  root = either.root ∙ only.root;
}

-- the same but for more
pub same_more : (entry group children entry2 group2 children2 : NodeId → Bool) (s t : Tree) → ((q : NodeId) → entry2 q ≡ false → entry q ≡ false) → ((q : NodeId) → group2 q ≡ false → group q ≡ false)
    → ((q : NodeId) → children2 q ≡ false → children q ≡ false) → SameRows entry group children s t → SameRows entry2 group2 children2 s t
same_more entry group children entry2 group2 children2 s t es gs cs only = record {
  entries = λ q p. only.entries q (es q p);
  groups = λ q p. only.groups q (gs q p);
  lists = λ q p. only.lists q (cs q p);
  root = only.root;
}

-- ---- one group that is changed

module _ (g : NodeId) (f : Tree → Tree) (t b : Tree) (there : group_with g t ≡ Some b) (keeps : id_of (f b) ≡ id_of b) where
  stays : id_of (f b) ≡ g
  stays = keeps ∙ found_id g t b there

  module _ {X : Type 0} (rows : Tree → List (NodeId × X)) (rows_all : Trees → List (NodeId × X)) (are : AreRows rows rows_all) where
    found_so : (q : NodeId) → find id_cmp q (rows (f b)) ≡ find id_cmp q (rows b) → find id_cmp q (rows (changed_at g f t)) ≡ find id_cmp q (rows t)
    found_so q same =
        let c = rows_change rows rows_all are g f t b there stays in
        ap (find id_cmp q) c.now ∙ find_around q c.front c.back (rows (f b)) (rows b) same ∙ sym (ap (find id_cmp q) c.was)

    pub row_now : (r : NodeId × X) → IsIn r (rows (f b)) → IsIn r (rows (changed_at g f t))
    row_now r i =
        let c = rows_change rows rows_all are g f t b there stays in
        subst (λ (xs : List (NodeId × X)). IsIn r xs) (sym c.now) (in_back c.front (rows (f b) ++ c.back) r (in_front (rows (f b)) c.back r i))

    pub row_was : (r : NodeId × X) → IsIn r (rows b) → IsIn r (rows t)
    row_was r i =
        let c = rows_change rows rows_all are g f t b there stays in
        subst (λ (xs : List (NodeId × X)). IsIn r xs) (sym c.was) (in_back c.front (rows b ++ c.back) r (in_front (rows b) c.back r i))

  pub same_at : (entry group children : NodeId → Bool) → id_of (changed_at g f t) ≡ id_of t → SameRows entry group children b (f b) → SameRows entry group children t (changed_at g f t)
  same_at entry group children root s = record {
    entries = λ q p. found_so entry_rows entry_rows_all entries_rows q (s.entries q p);
    groups = λ q p. found_so group_rows group_rows_all groups_rows q (s.groups q p);
    lists = λ q p. found_so child_rows child_rows_all children_rows q (s.lists q p);
    root = root;
  }

-- ---- a group's own children

abbrev pub own_lists : Tree → Children
own_lists (node v r es ts) = record { entries = keys es; groups = ids_of ts }

pub own_lists_row : (b : Tree) → IsIn (id_of b, own_lists b) (child_rows b)
own_lists_row (node v r es ts) = inl refl

-- in a tree of distinct ids a row is found
pub lists_found : (t : Tree) → are_distinct (node_ids t) ≡ true → (g : NodeId) (c : Children) → IsIn (g, c) (child_rows t) → find id_cmp g (child_rows t) ≡ Some c
lists_found t d g c i = row_found (child_rows t) g c i (let some = child_keys g t in let most = once (node_ids t) d g in omega (arith, some, most))

-- ---- an entry put in

pub put_same : (x : NodeId × EntryRecord) (b : Tree) → SameRows (only x.0) no_node (only (id_of b)) b (with_entry x b)
put_same x (node v r es ts) = record {
  entries = λ q p. find_front q (es ++ x ∷ []) es (entry_rows_all ts) (find_append q es (x ∷ []) ∙ ap (or_else (find id_cmp q es)) (passed q x [] p) ∙ or_none (find id_cmp q es));
  groups = λ q p. refl;
  lists = λ q p. passed q (v, record { entries = keys (es ++ x ∷ []); groups = ids_of ts }) (child_rows_all ts) p
      ∙ sym (passed q (v, record { entries = keys es; groups = ids_of ts }) (child_rows_all ts) p);
  root = refl;
}

pub put_lists : (x : NodeId × EntryRecord) (b : Tree) → own_lists (with_entry x b) ≡ record (own_lists b) { entries = (own_lists b).entries ++ x.0 ∷ [] }
put_lists x (node v r es ts) = ap (λ (us : List NodeId). record { entries = us; groups = ids_of ts }) (map_append (λ (e : NodeId × EntryRecord). e.0) es (x ∷ []))

-- ---- an entry taken out

pub take_same : (u : NodeId) (x : NodeId × EntryRecord) (b : Tree) → own_entry u b ≡ Some x → SameRows (only x.0) no_node (only (id_of b)) b (without_entry u b)
take_same u x (node v r es ts) own =
    let s = split u x es own in
    record {
      entries = λ q p. find_front q (without u es) es (entry_rows_all ts)
          (ap (find id_cmp q) s.now ∙ find_back q s.front s.back (x ∷ s.back) (sym (passed q x s.back p)) ∙ sym (ap (find id_cmp q) s.was));
      groups = λ q p. refl;
      lists = λ q p. passed q (v, record { entries = keys (without u es); groups = ids_of ts }) (child_rows_all ts) p
          ∙ sym (passed q (v, record { entries = keys es; groups = ids_of ts }) (child_rows_all ts) p);
      root = refl;
    }

-- The own children before and after an entry is taken out.
pub record Taken (u : NodeId) (b : Tree) : Type 0 where
  pub front : List NodeId
  pub back : List NodeId
  pub groups : List NodeId
  pub was : own_lists b ≡ record { entries = front ++ u ∷ back; groups = groups }
  pub now : own_lists (without_entry u b) ≡ record { entries = front ++ back; groups = groups }

pub take_lists : (u : NodeId) (x : NodeId × EntryRecord) (b : Tree) → own_entry u b ≡ Some x → Taken u b
take_lists u x (node v r es ts) own =
    let s = split u x es own in
    record {
      front = keys s.front;
      back = keys s.back;
      groups = ids_of ts;
      was = ap (λ (us : List NodeId). record { entries = us; groups = ids_of ts }) (ap keys s.was ∙ map_append (λ (e : NodeId × EntryRecord). e.0) s.front (x ∷ s.back) ∙ ap (λ w. keys s.front ++ w ∷ keys s.back) s.id);
      now = ap (λ (us : List NodeId). record { entries = us; groups = ids_of ts }) (ap keys s.now ∙ map_append (λ (e : NodeId × EntryRecord). e.0) s.front s.back);
    }

-- ---- an entry changed

find_changed : (u : NodeId) (f : EntryRecord → EntryRecord) (es : List (NodeId × EntryRecord)) (q : NodeId) → is_id q u ≡ false → find id_cmp q (with_changed u f es) ≡ find id_cmp q es
find_changed u f [] q off = refl
find_changed u f (e ∷ es) q off =
    elim (decide (is_id e.0 u)) [
      | inl p ↦
          let same = same_id e.0 u p in
          let other : is_id q e.0 ≡ false = ap (is_id q) same ∙ off in
          ap (λ b. find id_cmp q (cond b ((e.0, f e.1) ∷ es) (e ∷ with_changed u f es))) p ∙ passed q (e.0, f e.1) es other ∙ sym (passed q e es other)
      | inr p ↦
          ap (λ b. find id_cmp q (cond b ((e.0, f e.1) ∷ es) (e ∷ with_changed u f es))) p
          ∙ find_back q (e ∷ []) (with_changed u f es) es (find_changed u f es q off)
    ]

keys_changed : (u : NodeId) (f : EntryRecord → EntryRecord) (es : List (NodeId × EntryRecord)) → keys (with_changed u f es) ≡ keys es
keys_changed u f [] = refl
keys_changed u f (e ∷ es) =
    elim (decide (is_id e.0 u)) [
      | inl p ↦ ap (λ b. keys (cond b ((e.0, f e.1) ∷ es) (e ∷ with_changed u f es))) p
      | inr p ↦ ap (λ b. keys (cond b ((e.0, f e.1) ∷ es) (e ∷ with_changed u f es))) p ∙ ap (λ us. e.0 ∷ us) (keys_changed u f es)
    ]

pub change_same : (u : NodeId) (f : EntryRecord → EntryRecord) (b : Tree) → SameRows (only u) no_node no_node b (changed_entry u f b)
change_same u f (node v r es ts) = record {
  entries = λ q p. find_front q (with_changed u f es) es (entry_rows_all ts) (find_changed u f es q p);
  groups = λ q p. refl;
  lists = λ q p. ap (λ us. find id_cmp q ((v, record { entries = us; groups = ids_of ts }) ∷ child_rows_all ts)) (keys_changed u f es);
  root = refl;
}

-- ---- an empty group put in

module _ {X : Type 0} (rows : Tree → List (NodeId × X)) (rows_all : Trees → List (NodeId × X)) (are : AreRows rows rows_all) (w : Tree) where
  pub find_last : (ts : Trees) (q : NodeId) → find id_cmp q (rows w) ≡ None → find id_cmp q (rows_all (with_last w ts)) ≡ find id_cmp q (rows_all ts)
  find_last none q off =
      ap (find id_cmp q) (are.at_beside w none ∙ ap (λ xs. rows w ++ xs) are.at_none) ∙ find_append q (rows w) [] ∙ ap (λ o. or_else o None) off ∙ sym (ap (find id_cmp q) are.at_none)
  find_last (beside t ts) q off =
      ap (find id_cmp q) (are.at_beside t (with_last w ts)) ∙ find_back q (rows t) (rows_all (with_last w ts)) (rows_all ts) (find_last ts q off) ∙ sym (ap (find id_cmp q) (are.at_beside t ts))

  pub row_last : (ts : Trees) (r : NodeId × X) → IsIn r (rows w) → IsIn r (rows_all (with_last w ts))
  row_last none r i = subst (λ (xs : List (NodeId × X)). IsIn r xs) (sym (are.at_beside w none)) (in_front (rows w) (rows_all none) r i)
  row_last (beside t ts) r i = subst (λ (xs : List (NodeId × X)). IsIn r xs) (sym (are.at_beside t (with_last w ts))) (in_back (rows t) (rows_all (with_last w ts)) r (row_last ts r i))

ids_last : (w : Tree) (ts : Trees) → ids_of (with_last w ts) ≡ ids_of ts ++ id_of w ∷ []
ids_last w none = refl
ids_last w (beside t ts) = ap (λ us. id_of t ∷ us) (ids_last w ts)

pub put_group_same : (u : NodeId) (s : GroupRecord) (b : Tree) → SameRows no_node (only u) (λ q. is_id q (id_of b) || is_id q u) b (with_group (node u s [] none) b)
put_group_same u s (node v r es ts) = record {
  entries = λ q p. find_back q es (entry_rows_all (with_last (node u s [] none) ts)) (entry_rows_all ts) (find_last entry_rows entry_rows_all entries_rows (node u s [] none) ts q refl);
  groups = λ q p. find_back q ((v, r) ∷ []) (group_rows_all (with_last (node u s [] none) ts)) (group_rows_all ts) (find_last group_rows group_rows_all groups_rows (node u s [] none) ts q (passed q (u, s) [] p));
  lists = λ q p.
      let parts = or_false (is_id q v) (is_id q u) p in
      passed q (v, record { entries = keys es; groups = ids_of (with_last (node u s [] none) ts) }) (child_rows_all (with_last (node u s [] none) ts)) parts.0
      ∙ find_last child_rows child_rows_all children_rows (node u s [] none) ts q (passed q (u, no_children) [] parts.1)
      ∙ sym (passed q (v, record { entries = keys es; groups = ids_of ts }) (child_rows_all ts) parts.0);
  root = refl;
}

pub put_group_lists : (w b : Tree) → own_lists (with_group w b) ≡ record (own_lists b) { groups = (own_lists b).groups ++ id_of w ∷ [] }
put_group_lists w (node v r es ts) = ap (λ (us : List NodeId). record { entries = keys es; groups = us }) (ids_last w ts)
