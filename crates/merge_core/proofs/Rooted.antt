-- A document whose root's id is replaced is a document, and under its own root's id it is the same.
use Rattle.std.proofs.Common.{◌≡◌, ◌≢◌, ◌≤◌, ℕ, suc, max, map, Bool, true, false, not, cond, ◌&&◌, ◌||◌, inl, inr, List, [], ◌∷◌, ◌++◌, refl, sym, ap, subst, ◌∙◌}
use Rattle.std.specs.List.{list_any, list_all, filter}
use Rattle.std.specs.Ordering.{is_lt}
use Rattle.vault_model.specs.declared.nodes.Tombstone.{Tombstone}
use Rattle.vault_model.specs.Db.{NodeId, nil_id}
use Rattle.vault_model.specs.Join.{is_id, IsIn}
use Rattle.vault_model.specs.Orders.{bytes_cmp}
use Rattle.vault_model.specs.Proper.{rises, is_proper_group_content}
use Rattle.vault_model.specs.Shape.{EntryRecord, GroupRecord}
use Rattle.vault_model.specs.Tree.{Tree, node, Trees, none, beside, BareDoc, id_of, node_ids, node_ids_all, entry_rows, entry_rows_all, group_rows, group_rows_all, are_distinct, is_elsewhere, is_proper_entry, height, height_all, new_previous, with_entry_previous, with_previous, with_previous_all, with_id, rooted, LEVELS, IsDoc}
use Rattle.vault_model.proofs.Ids.{same_id, is_same_id}
use Rattle.merge_core.proofs.SoundDoc.{all_in}
use Rattle.vault_model.proofs.Tests.{and_true, and_both, not_true, not_false, or_false, is_false, apart, from_filter, map_append}
use Rattle.merge_core.specs.NodesBelow.{below_ids}
use Rattle.merge_core.proofs.Distinct.{in_all}

-- ---- a tree with another root

with_distinct : (r : NodeId) (t : Tree) → list_any (is_id r) (below_ids t) ≡ false → are_distinct (node_ids t) ≡ true → are_distinct (node_ids (with_id r t)) ≡ true
with_distinct r (node u g es ts) off d =
    let rest = below_ids (node u g es ts) in
    and_both (not (list_any (is_id r) rest)) (are_distinct rest) (not_false (list_any (is_id r) rest) off)
    (and_true (not (list_any (is_id u) rest)) (are_distinct rest) d).1

-- who is elsewhere, and is not the new root, stays elsewhere
with_elsewhere : (r : NodeId) (t : Tree) (u : NodeId) → is_id u r ≡ false → is_elsewhere t u ≡ true → is_elsewhere (with_id r t) u ≡ true
with_elsewhere r (node v g es ts) u off e =
    let rest = list_any (is_id u) (below_ids (node v g es ts)) in
    ap not ((λ i. off i || rest) ∙ (or_false (is_id u v) rest (not_true (is_id u v || rest) e)).1)

with_height : (r : NodeId) (t : Tree) → height (with_id r t) ≡ height t
with_height r (node u g es ts) = refl

with_entries : (r : NodeId) (t : Tree) → entry_rows (with_id r t) ≡ entry_rows t
with_entries r (node u g es ts) = refl

with_groups : (r : NodeId) (t : Tree) → list_all (λ (x : NodeId × GroupRecord). is_proper_group_content x.1.state.content) (group_rows t) ≡ true
    → list_all (λ (x : NodeId × GroupRecord). is_proper_group_content x.1.state.content) (group_rows (with_id r t)) ≡ true
with_groups r (node u g es ts) e = e

with_home : (t : Tree) → with_id (id_of t) t ≡ t
with_home (node u g es ts) = refl

root_off : (t : Tree) (u : NodeId) → is_elsewhere t u ≡ true → is_id (id_of t) u ≡ false
root_off (node v g es ts) u e =
    let rest = list_any (is_id u) (below_ids (node v g es ts)) in
    is_false (is_id v u) (λ q. apart (is_id u v) (is_same_id u v (sym (same_id v u q))) (or_false (is_id u v) rest (not_true (is_id u v || rest) e)).0)

-- ---- previous parents

module _ (old r : NodeId) where
  abbrev with_row : NodeId × GroupRecord → NodeId × GroupRecord
  with_row g = (g.0, record g.1 { previous = new_previous old r g.1.previous })

  entry_ids_same : (es : List (NodeId × EntryRecord)) → map (λ (e : NodeId × EntryRecord). e.0) (map (with_entry_previous old r) es) ≡ map (λ (e : NodeId × EntryRecord). e.0) es
  entry_ids_same [] = refl
  entry_ids_same (e ∷ es) = λ i. e.0 ∷ entry_ids_same es i

  mutual
    previous_ids : (t : Tree) → node_ids (with_previous old r t) ≡ node_ids t
    previous_ids (node u g es ts) = λ i. u ∷ (entry_ids_same es i ++ previous_ids_all ts i)

    previous_ids_all : (ts : Trees) → node_ids_all (with_previous_all old r ts) ≡ node_ids_all ts
    previous_ids_all none = refl
    previous_ids_all (beside t ts) = λ i. previous_ids t i ++ previous_ids_all ts i

  mutual
    previous_height : (t : Tree) → height (with_previous old r t) ≡ height t
    previous_height (node u g es ts) = λ i. suc (previous_heights ts i)

    previous_heights : (ts : Trees) → height_all (with_previous_all old r ts) ≡ height_all ts
    previous_heights none = refl
    previous_heights (beside t ts) = λ i. max (previous_height t i) (previous_heights ts i)

  mutual
    previous_entries : (t : Tree) → entry_rows (with_previous old r t) ≡ map (with_entry_previous old r) (entry_rows t)
    previous_entries (node u g es ts) =
        ap (λ rows. map (with_entry_previous old r) es ++ rows) (previous_entries_all ts) ∙ sym (map_append (with_entry_previous old r) es (entry_rows_all ts))

    previous_entries_all : (ts : Trees) → entry_rows_all (with_previous_all old r ts) ≡ map (with_entry_previous old r) (entry_rows_all ts)
    previous_entries_all none = refl
    previous_entries_all (beside t ts) =
        (λ i. previous_entries t i ++ previous_entries_all ts i) ∙ sym (map_append (with_entry_previous old r) (entry_rows t) (entry_rows_all ts))

  mutual
    previous_groups : (t : Tree) → group_rows (with_previous old r t) ≡ map with_row (group_rows t)
    previous_groups (node u g es ts) = ap (λ rows. with_row (u, g) ∷ rows) (previous_groups_all ts)

    previous_groups_all : (ts : Trees) → group_rows_all (with_previous_all old r ts) ≡ map with_row (group_rows_all ts)
    previous_groups_all none = refl
    previous_groups_all (beside t ts) =
        (λ i. previous_groups t i ++ previous_groups_all ts i) ∙ sym (map_append with_row (group_rows t) (group_rows_all ts))

  -- what a row says otherwise does not change
  proper_entries : (rows : List (NodeId × EntryRecord)) → list_all (λ (x : NodeId × EntryRecord). is_proper_entry x.1) (map (with_entry_previous old r) rows)
      ≡ list_all (λ (x : NodeId × EntryRecord). is_proper_entry x.1) rows
  proper_entries [] = refl
  proper_entries (x ∷ xs) = ap (λ b. is_proper_entry x.1 && b) (proper_entries xs)

  proper_groups : (rows : List (NodeId × GroupRecord)) → list_all (λ (x : NodeId × GroupRecord). is_proper_group_content x.1.state.content) (map with_row rows)
      ≡ list_all (λ (x : NodeId × GroupRecord). is_proper_group_content x.1.state.content) rows
  proper_groups [] = refl
  proper_groups (x ∷ xs) = ap (λ b. is_proper_group_content x.1.state.content && b) (proper_groups xs)

-- a root that stays changes no previous parent
module _ (u : NodeId) where
  stays : (v : NodeId) → new_previous u u v ≡ v
  stays v = at (is_id u v) refl
    where
      at : (b : Bool) → is_id u v ≡ b → cond b u v ≡ v
      at true e = same_id u v e
      at false e = refl

  entries_stay : (es : List (NodeId × EntryRecord)) → map (with_entry_previous u u) es ≡ es
  entries_stay [] = refl
  entries_stay (e ∷ es) = λ i. (e.0, record e.1 { previous = stays e.1.previous i }) ∷ entries_stay es i

  mutual
    tree_stays : (t : Tree) → with_previous u u t ≡ t
    tree_stays (node v g es ts) = λ i. node v (record g { previous = stays g.previous i }) (entries_stay es i) (trees_stay ts i)

    trees_stay : (ts : Trees) → with_previous_all u u ts ≡ ts
    trees_stay none = refl
    trees_stay (beside t ts) = λ i. beside (tree_stays t i) (trees_stay ts i)

-- ---- tombstones

rises_filter : {A : Type 0} (key : A → List ℕ) (test : A → Bool) (xs : List A) → rises key xs ≡ true → rises key (filter test xs) ≡ true
rises_filter key test [] e = refl
rises_filter {A} key test (x ∷ xs) e =
    let parts = and_true (list_all (λ y. is_lt (bytes_cmp (key x) (key y))) xs) (rises key xs) e in
    one (test x) parts.0 (rises_filter key test xs parts.1)
  where
    one : (b : Bool) → list_all (λ (y : A). is_lt (bytes_cmp (key x) (key y))) xs ≡ true → rises key (filter test xs) ≡ true → rises key (cond b (x ∷ filter test xs) (filter test xs)) ≡ true
    one true all rest =
        and_both (list_all (λ y. is_lt (bytes_cmp (key x) (key y))) (filter test xs)) (rises key (filter test xs))
        (in_all (λ y. is_lt (bytes_cmp (key x) (key y))) (filter test xs) (λ y h. all_in (λ z. is_lt (bytes_cmp (key x) (key z))) xs y all (from_filter test xs y h).0)) rest
    one false all rest = rest

filter_all : {A : Type 0} (test : A → Bool) (xs : List A) → ((x : A) → IsIn x xs → test x ≡ true) → filter test xs ≡ xs
filter_all test [] each = refl
filter_all test (x ∷ xs) each =
    ap (λ b. cond b (x ∷ filter test xs) (filter test xs)) (each x (inl refl)) ∙ ap (λ ys. x ∷ ys) (filter_all test xs (λ y h. each y (inr h)))

-- ---- documents

module _ (d : BareDoc) (r : NodeId) (is : IsDoc d) (some : r ≢ nil_id) (off : list_any (is_id r) (below_ids d.tree) ≡ false) where
  abbrev old : NodeId
  old = id_of d.tree

  abbrev tree : Tree
  tree = with_previous old r d.tree

  same_below : (t : Tree) → below_ids (with_previous old r t) ≡ below_ids t
  same_below (node u g es ts) = λ i. entry_ids_same old r es i ++ previous_ids_all old r ts i

  off_below : list_any (is_id r) (below_ids tree) ≡ false
  off_below = ap (list_any (is_id r)) (same_below d.tree) ∙ off

  elsewhere : (u : NodeId) → is_id u r ≡ false → is_elsewhere d.tree u ≡ true → is_elsewhere (with_id r tree) u ≡ true
  elsewhere u not_root e = with_elsewhere r tree u not_root (ap (λ us. not (list_any (is_id u) us)) (previous_ids old r d.tree) ∙ e)

  pub rooted_is_doc : IsDoc (rooted d r)
  rooted_is_doc = record {
    distinct = with_distinct r tree off_below (ap are_distinct (previous_ids old r d.tree) ∙ is.distinct);
    no_nil = elsewhere nil_id (is_false (is_id nil_id r) (λ e. some (sym (same_id nil_id r e)))) is.no_nil;
    levels = subst (λ (h : ℕ). h ≤ LEVELS) (sym (with_height r tree ∙ previous_height old r d.tree)) is.levels;
    tombs_rise = rises_filter (λ (t : Tombstone). t.id) (λ (t : Tombstone). not (is_id r t.id)) d.tombs is.tombs_rise;
    tombs_apart = in_all (λ (t : Tombstone). is_elsewhere (with_id r tree) t.id) (filter (λ (t : Tombstone). not (is_id r t.id)) d.tombs) (λ t h.
        let f = from_filter (λ (t : Tombstone). not (is_id r t.id)) d.tombs t h in
        let apart_it = not_true (is_id r t.id) f.1 in
        elsewhere t.id (is_false (is_id t.id r) (λ e. apart (is_id r t.id) (is_same_id r t.id (sym (same_id t.id r e))) apart_it))
        (all_in (λ (x : Tombstone). is_elsewhere d.tree x.id) d.tombs t is.tombs_apart f.0));
    entries_proper =
        ap (list_all (λ (x : NodeId × EntryRecord). is_proper_entry x.1)) (with_entries r tree ∙ previous_entries old r d.tree)
        ∙ proper_entries old r (entry_rows d.tree) ∙ is.entries_proper;
    groups_proper =
        with_groups r tree (ap (list_all (λ (x : NodeId × GroupRecord). is_proper_group_content x.1.state.content)) (previous_groups old r d.tree)
        ∙ proper_groups old r (group_rows d.tree) ∙ is.groups_proper);
    icons_rise = is.icons_rise;
    items_rise = is.items_rise;
    meta_texts = is.meta_texts;
  }

pub rooted_at_home : (d : BareDoc) → IsDoc d → rooted d (id_of d.tree) ≡ d
rooted_at_home d is =
    let tombs = filter_all (λ (t : Tombstone). not (is_id (id_of d.tree) t.id)) d.tombs (λ t h.
    not_false (is_id (id_of d.tree) t.id) (root_off d.tree t.id (all_in (λ (x : Tombstone). is_elsewhere d.tree x.id) d.tombs t is.tombs_apart h))) in
    let tree = ap (with_id (id_of d.tree)) (tree_stays (id_of d.tree) d.tree) ∙ with_home d.tree in
    λ i. record { tree = tree i; tombs = tombs i; meta = d.meta }
