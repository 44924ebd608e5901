-- The database of every document is sound.
use Rattle.std.proofs.Common.{◌≡◌, ◌≢◌, ◌+◌, ℕ, zero, suc, Bool, true, false, not, cond, ◌&&◌, ◌⊎◌, inl, inr, List, [], ◌∷◌, ◌++◌, Option, Some, None, map, is_some, refl, sym, ap, subst, ◌∙◌}
use Rattle.std.proofs.lemmas.Option.{same_Some}
use Rattle.std.specs.Cmp.{both_ways}
use Rattle.std.specs.FinMap.{get, contains_key, entries, keys, find, insert, empty, get-from_entries}
use Rattle.std.specs.List.{list_any, list_all}
use Rattle.std.specs.Option.{option_map}
use Rattle.std.specs.Ordering.{eq_by_cmp}
use Rattle.std.specs.Str.{is_utf8}
use Rattle.vault_model.specs.declared.contents.Item.{Item}
use Rattle.vault_model.specs.declared.contents.Stats.{Stats}
use Rattle.vault_model.specs.declared.metas.Icon.{Icon}
use Rattle.vault_model.specs.declared.nodes.GroupState.{GroupState}
use Rattle.vault_model.specs.declared.nodes.Tombstone.{Tombstone}
use Rattle.vault_model.specs.Db.{NodeId, id_cmp, nil_id, Mark, mark_cmp, Versions, Place, Db, holds, parent_or, parent_in, steps, IsProperMeta, Sound}
use Rattle.vault_model.specs.Join.{is_id, stats_join, IsIn}
use Rattle.vault_model.specs.Proper.{is_proper_content, is_proper_group_content, is_text_icon, is_text_item}
use Rattle.vault_model.specs.Shape.{BareVersion, EntryRecord, GroupRecord, Children, Shape, versions_of, stay_of, place_at, place_rows, shared_of, db_of}
use Rattle.vault_model.specs.Tree.{Tree, node, Trees, none, beside, BareDoc, id_of, ids_of, entry_rows, entry_rows_all, group_rows, group_rows_all, child_rows, child_rows_all, node_ids, node_ids_all, are_distinct, is_elsewhere, is_proper_entry, IsDoc, shape_of, db_in}
use Rattle.merge_core.proofs.Laid.{db_entries, db_groups, in_list, list_in}
use Rattle.vault_model.proofs.Orders.{id_order, mark_order, bytes_order}
use Rattle.merge_core.proofs.Paths.{steps_add}
use Rattle.merge_core.proofs.Semilattice.{some-gather}
use Rattle.merge_core.specs.NodesBelow.{below_ids}
use Rattle.merge_core.proofs.Tables.{find_in, some_find, get_entry, entry_get, get_single}
use Rattle.vault_model.proofs.Tests.{and_true, not_true, or_cases, or_left, or_right, apart, is_false, none_of, some_of, some_is, decide, in_front, in_back, in_either, in_map, from_map, in_flat, from_flat}
use Rattle.merge_core.proofs.Unite.{get-unite_all, tie, ties}
use Rattle.merge_core.proofs.Versions.{never, some_from, some_versions}

pub all_in : {A : Type 0} (test : A → Bool) (xs : List A) (x : A) → list_all test xs ≡ true → IsIn x xs → test x ≡ true
all_in test [] x a h = absurd h
all_in test (y ∷ ys) x a (inl p) = ap test (sym p) ∙ (and_true (test y) (list_all test ys) a).0
all_in test (y ∷ ys) x a (inr h) = all_in test ys x (and_true (test y) (list_all test ys) a).1 h

-- no id stands twice, as a fact of each
abbrev pub AreDistinct : List NodeId → Type 0
AreDistinct [] = Unit {0}
AreDistinct (u ∷ us) = (list_any (is_id u) us ≡ false) × AreDistinct us

pub distinct_from : (us : List NodeId) → are_distinct us ≡ true → AreDistinct us
distinct_from [] e = tt
distinct_from (u ∷ us) e =
    let both = and_true (not (list_any (is_id u) us)) (are_distinct us) e in
    (not_true (list_any (is_id u) us) both.0, distinct_from us both.1)

-- ---- ids that stand once

pub distinct_head : (u : NodeId) (us : List NodeId) → AreDistinct (u ∷ us) → IsIn u us → ⊥
distinct_head u us d h = apart (list_any (is_id u) us) (list_in u us h) d.0

pub distinct_front : (xs ys : List NodeId) → AreDistinct (xs ++ ys) → AreDistinct xs
distinct_front [] ys d = tt
distinct_front (x ∷ xs) ys d =
    (is_false (list_any (is_id x) xs) (λ e. distinct_head x (xs ++ ys) d (in_front xs ys x (in_list x xs e))), distinct_front xs ys d.1)

pub distinct_back : (xs ys : List NodeId) → AreDistinct (xs ++ ys) → AreDistinct ys
distinct_back [] ys d = d
distinct_back (x ∷ xs) ys d = distinct_back xs ys d.1

pub distinct_apart : (xs ys : List NodeId) → AreDistinct (xs ++ ys) → (u : NodeId) → IsIn u xs → IsIn u ys → ⊥
distinct_apart [] ys d u h k = h
distinct_apart (x ∷ xs) ys d u (inl p) k = distinct_head x (xs ++ ys) d (in_back xs ys x (subst (λ (v : NodeId). IsIn v ys) (sym p) k))
distinct_apart (x ∷ xs) ys d u (inr h) k = distinct_apart xs ys d.1 u h k

-- ---- the ids of the rows of a tree

abbrev pub entry_ids : List (NodeId × EntryRecord) → List NodeId
entry_ids es = map (λ (e : NodeId × EntryRecord). e.0) es

abbrev all_below : Trees → List NodeId
all_below none = []
all_below (beside t ts) = below_ids t ++ all_below ts

-- a node is a child of a group
abbrev pub IsKid : List (NodeId × Children) → NodeId → NodeId → Type 0
IsKid rows g u = (c : Children) × (IsIn (g, c) rows × IsIn u (c.entries ++ c.groups))

pub below_node : (t : Tree) (u : NodeId) → IsIn u (below_ids t) → IsIn u (node_ids t)
below_node (node v r es ts) u h = inr h

head_node : (t : Tree) → IsIn (id_of t) (node_ids t)
head_node (node v r es ts) = inl refl

pub heads_nodes : (ts : Trees) (u : NodeId) → IsIn u (ids_of ts) → IsIn u (node_ids_all ts)
heads_nodes none u h = h
heads_nodes (beside t ts) u (inl p) = in_front (node_ids t) (node_ids_all ts) u (subst (λ (v : NodeId). IsIn v (node_ids t)) p (head_node t))
heads_nodes (beside t ts) u (inr h) = in_back (node_ids t) (node_ids_all ts) u (heads_nodes ts u h)

belows_nodes : (ts : Trees) (u : NodeId) → IsIn u (all_below ts) → IsIn u (node_ids_all ts)
belows_nodes none u h = h
belows_nodes (beside t ts) u h =
    elim (in_either (below_ids t) (all_below ts) u h) [
      | inl k ↦ in_front (node_ids t) (node_ids_all ts) u (below_node t u k)
      | inr k ↦ in_back (node_ids t) (node_ids_all ts) u (belows_nodes ts u k)
    ]

node_below : (t : Tree) (u : NodeId) → IsIn u (node_ids t) → (id_of t ≡ u) ⊎ IsIn u (below_ids t)
node_below (node v r es ts) u (inl p) = inl p
node_below (node v r es ts) u (inr h) = inr h

root_apart : (t : Tree) → AreDistinct (node_ids t) → IsIn (id_of t) (below_ids t) → ⊥
root_apart (node v r es ts) d h = distinct_head v (entry_ids es ++ node_ids_all ts) d h

-- the groups side by side are none of those below them
heads_apart : (ts : Trees) (u : NodeId) → AreDistinct (node_ids_all ts) → IsIn u (ids_of ts) → IsIn u (all_below ts) → ⊥
heads_apart none u d h k = h
heads_apart (beside t ts) u d h k =
    elim h [
      | inl p ↦ elim (in_either (below_ids t) (all_below ts) u k) [
        | inl x ↦ root_apart t (distinct_front (node_ids t) (node_ids_all ts) d) (subst (λ (v : NodeId). IsIn v (below_ids t)) (sym p) x)
        | inr x ↦ distinct_apart (node_ids t) (node_ids_all ts) d u (subst (λ (v : NodeId). IsIn v (node_ids t)) p (head_node t)) (belows_nodes ts u x)
      ]
      | inr i ↦ elim (in_either (below_ids t) (all_below ts) u k) [
        | inl x ↦ distinct_apart (node_ids t) (node_ids_all ts) d u (below_node t u x) (heads_nodes ts u i)
        | inr x ↦ heads_apart ts u (distinct_back (node_ids t) (node_ids_all ts) d) i x
      ]
    ]

-- ---- rows and ids

mutual
  pub kid_below : (t : Tree) (g u : NodeId) → IsKid (child_rows t) g u → IsIn u (below_ids t)
  kid_below (node v r es ts) g u (c, (inl p, h)) =
      let here : IsIn u (entry_ids es ++ ids_of ts) = subst (λ (x : NodeId × Children). IsIn u (x.1.entries ++ x.1.groups)) (sym p) h in
      elim (in_either (entry_ids es) (ids_of ts) u here) [
        | inl k ↦ in_front (entry_ids es) (node_ids_all ts) u k
        | inr k ↦ in_back (entry_ids es) (node_ids_all ts) u (heads_nodes ts u k)
      ]
  kid_below (node v r es ts) g u (c, (inr i, h)) = in_back (entry_ids es) (node_ids_all ts) u (belows_nodes ts u (kids_below ts g u (c, (i, h))))

  kids_below : (ts : Trees) (g u : NodeId) → IsKid (child_rows_all ts) g u → IsIn u (all_below ts)
  kids_below none g u k = absurd k.1.0
  kids_below (beside t ts) g u k =
      elim (in_either (child_rows t) (child_rows_all ts) (g, k.0) k.1.0) [
        | inl i ↦ in_front (below_ids t) (all_below ts) u (kid_below t g u (k.0, (i, k.1.1)))
        | inr i ↦ in_back (below_ids t) (all_below ts) u (kids_below ts g u (k.0, (i, k.1.1)))
      ]

-- a group's own children are not below its groups
own_apart : (v : NodeId) (es : List (NodeId × EntryRecord)) (ts : Trees) (u : NodeId) → AreDistinct (v ∷ (entry_ids es ++ node_ids_all ts))
    → IsIn u (entry_ids es ++ ids_of ts) → IsIn u (all_below ts) → ⊥
own_apart v es ts u d h k =
    elim (in_either (entry_ids es) (ids_of ts) u h) [
      | inl i ↦ distinct_apart (entry_ids es) (node_ids_all ts) d.1 u i (belows_nodes ts u k)
      | inr i ↦ heads_apart ts u (distinct_back (entry_ids es) (node_ids_all ts) d.1) i k
    ]

-- a child's parent is one
mutual
  pub one_parent : (t : Tree) (g h u : NodeId) → AreDistinct (node_ids t) → IsKid (child_rows t) g u → IsKid (child_rows t) h u → g ≡ h
  one_parent (node v r es ts) g h u d (c, (inl p, k)) (e, (inl q, l)) = ap (λ (x : NodeId × Children). x.0) (sym p) ∙ ap (λ (x : NodeId × Children). x.0) q
  one_parent (node v r es ts) g h u d (c, (inl p, k)) (e, (inr j, l)) =
      absurd (own_apart v es ts u d (subst (λ (x : NodeId × Children). IsIn u (x.1.entries ++ x.1.groups)) (sym p) k) (kids_below ts h u (e, (j, l))))
  one_parent (node v r es ts) g h u d (c, (inr i, k)) (e, (inl q, l)) =
      absurd (own_apart v es ts u d (subst (λ (x : NodeId × Children). IsIn u (x.1.entries ++ x.1.groups)) (sym q) l) (kids_below ts g u (c, (i, k))))
  one_parent (node v r es ts) g h u d (c, (inr i, k)) (e, (inr j, l)) =
      one_parents ts g h u (distinct_back (entry_ids es) (node_ids_all ts) d.1) (c, (i, k)) (e, (j, l))

  one_parents : (ts : Trees) (g h u : NodeId) → AreDistinct (node_ids_all ts) → IsKid (child_rows_all ts) g u → IsKid (child_rows_all ts) h u → g ≡ h
  one_parents none g h u d k l = absurd k.1.0
  one_parents (beside t ts) g h u d k l =
      elim (in_either (child_rows t) (child_rows_all ts) (g, k.0) k.1.0) [
        | inl i ↦ elim (in_either (child_rows t) (child_rows_all ts) (h, l.0) l.1.0) [
          | inl j ↦ one_parent t g h u (distinct_front (node_ids t) (node_ids_all ts) d) (k.0, (i, k.1.1)) (l.0, (j, l.1.1))
          | inr j ↦ absurd (distinct_apart (node_ids t) (node_ids_all ts) d u (below_node t u (kid_below t g u (k.0, (i, k.1.1)))) (belows_nodes ts u (kids_below ts h u (l.0, (j, l.1.1)))))
        ]
        | inr i ↦ elim (in_either (child_rows t) (child_rows_all ts) (h, l.0) l.1.0) [
          | inl j ↦ absurd (distinct_apart (node_ids t) (node_ids_all ts) d u (below_node t u (kid_below t h u (l.0, (j, l.1.1)))) (belows_nodes ts u (kids_below ts g u (k.0, (i, k.1.1)))))
          | inr j ↦ one_parents ts g h u (distinct_back (node_ids t) (node_ids_all ts) d) (k.0, (i, k.1.1)) (l.0, (j, l.1.1))
        ]
      ]

-- the rows of a tree are of its nodes
mutual
  pub row_node : (t : Tree) (g : NodeId) (c : Children) → IsIn (g, c) (child_rows t) → IsIn g (node_ids t)
  row_node (node v r es ts) g c (inl p) = inl (ap (λ (x : NodeId × Children). x.0) p)
  row_node (node v r es ts) g c (inr h) = inr (in_back (entry_ids es) (node_ids_all ts) g (rows_nodes ts g c h))

  rows_nodes : (ts : Trees) (g : NodeId) (c : Children) → IsIn (g, c) (child_rows_all ts) → IsIn g (node_ids_all ts)
  rows_nodes none g c h = absurd h
  rows_nodes (beside t ts) g c h =
      elim (in_either (child_rows t) (child_rows_all ts) (g, c) h) [
        | inl i ↦ in_front (node_ids t) (node_ids_all ts) g (row_node t g c i)
        | inr i ↦ in_back (node_ids t) (node_ids_all ts) g (rows_nodes ts g c i)
      ]

-- a group has one row of children
mutual
  pub one_row : (t : Tree) (g : NodeId) (b c : Children) → AreDistinct (node_ids t) → IsIn (g, b) (child_rows t) → IsIn (g, c) (child_rows t) → b ≡ c
  one_row (node v r es ts) g b c d (inl p) (inl q) = ap (λ (x : NodeId × Children). x.1) (sym p) ∙ ap (λ (x : NodeId × Children). x.1) q
  one_row (node v r es ts) g b c d (inl p) (inr j) =
      absurd (distinct_head v (entry_ids es ++ node_ids_all ts) d (in_back (entry_ids es) (node_ids_all ts) v (subst (λ (x : NodeId). IsIn x (node_ids_all ts)) (ap (λ (x : NodeId × Children). x.0) (sym p)) (rows_nodes ts g c j))))
  one_row (node v r es ts) g b c d (inr i) (inl q) =
      absurd (distinct_head v (entry_ids es ++ node_ids_all ts) d (in_back (entry_ids es) (node_ids_all ts) v (subst (λ (x : NodeId). IsIn x (node_ids_all ts)) (ap (λ (x : NodeId × Children). x.0) (sym q)) (rows_nodes ts g b i))))
  one_row (node v r es ts) g b c d (inr i) (inr j) = one_rows ts g b c (distinct_back (entry_ids es) (node_ids_all ts) d.1) i j

  one_rows : (ts : Trees) (g : NodeId) (b c : Children) → AreDistinct (node_ids_all ts) → IsIn (g, b) (child_rows_all ts) → IsIn (g, c) (child_rows_all ts) → b ≡ c
  one_rows none g b c d h k = absurd h
  one_rows (beside t ts) g b c d h k =
      elim (in_either (child_rows t) (child_rows_all ts) (g, b) h) [
        | inl i ↦ elim (in_either (child_rows t) (child_rows_all ts) (g, c) k) [
          | inl j ↦ one_row t g b c (distinct_front (node_ids t) (node_ids_all ts) d) i j
          | inr j ↦ absurd (distinct_apart (node_ids t) (node_ids_all ts) d g (row_node t g b i) (rows_nodes ts g c j))
        ]
        | inr i ↦ elim (in_either (child_rows t) (child_rows_all ts) (g, c) k) [
          | inl j ↦ absurd (distinct_apart (node_ids t) (node_ids_all ts) d g (row_node t g c j) (rows_nodes ts g b i))
          | inr j ↦ one_rows ts g b c (distinct_back (node_ids t) (node_ids_all ts) d) i j
        ]
      ]

mutual
  pub entry_node : (t : Tree) (u : NodeId) (e : EntryRecord) → IsIn (u, e) (entry_rows t) → IsIn u (below_ids t)
  entry_node (node v r es ts) u e h =
      elim (in_either es (entry_rows_all ts) (u, e) h) [
        | inl i ↦ in_front (entry_ids es) (node_ids_all ts) u (in_map (λ (x : NodeId × EntryRecord). x.0) es (u, e) i)
        | inr i ↦ in_back (entry_ids es) (node_ids_all ts) u (entries_nodes ts u e i)
      ]

  pub entries_nodes : (ts : Trees) (u : NodeId) (e : EntryRecord) → IsIn (u, e) (entry_rows_all ts) → IsIn u (node_ids_all ts)
  entries_nodes none u e h = absurd h
  entries_nodes (beside t ts) u e h =
      elim (in_either (entry_rows t) (entry_rows_all ts) (u, e) h) [
        | inl i ↦ in_front (node_ids t) (node_ids_all ts) u (below_node t u (entry_node t u e i))
        | inr i ↦ in_back (node_ids t) (node_ids_all ts) u (entries_nodes ts u e i)
      ]

mutual
  pub group_node : (t : Tree) (u : NodeId) (g : GroupRecord) → IsIn (u, g) (group_rows t) → IsIn u (node_ids t)
  group_node (node v r es ts) u g (inl p) = inl (ap (λ (x : NodeId × GroupRecord). x.0) p)
  group_node (node v r es ts) u g (inr h) = inr (in_back (entry_ids es) (node_ids_all ts) u (groups_nodes ts u g h))

  pub groups_nodes : (ts : Trees) (u : NodeId) (g : GroupRecord) → IsIn (u, g) (group_rows_all ts) → IsIn u (node_ids_all ts)
  groups_nodes none u g h = absurd h
  groups_nodes (beside t ts) u g h =
      elim (in_either (group_rows t) (group_rows_all ts) (u, g) h) [
        | inl i ↦ in_front (node_ids t) (node_ids_all ts) u (group_node t u g i)
        | inr i ↦ in_back (node_ids t) (node_ids_all ts) u (groups_nodes ts u g i)
      ]

-- no id is an entry's and a group's
mutual
  pub kinds_apart : (t : Tree) (u : NodeId) (e : EntryRecord) (g : GroupRecord) → AreDistinct (node_ids t) → IsIn (u, e) (entry_rows t) → IsIn (u, g) (group_rows t) → ⊥
  kinds_apart (node v r es ts) u e g d h (inl q) =
      distinct_head v (entry_ids es ++ node_ids_all ts) d (subst (λ (x : NodeId). IsIn x (entry_ids es ++ node_ids_all ts)) (ap (λ (x : NodeId × GroupRecord). x.0) (sym q)) (entry_node (node v r es ts) u e h))
  kinds_apart (node v r es ts) u e g d h (inr j) =
      elim (in_either es (entry_rows_all ts) (u, e) h) [
        | inl i ↦ distinct_apart (entry_ids es) (node_ids_all ts) d.1 u (in_map (λ (x : NodeId × EntryRecord). x.0) es (u, e) i) (groups_nodes ts u g j)
        | inr i ↦ kinds_all_apart ts u e g (distinct_back (entry_ids es) (node_ids_all ts) d.1) i j
      ]

  kinds_all_apart : (ts : Trees) (u : NodeId) (e : EntryRecord) (g : GroupRecord) → AreDistinct (node_ids_all ts) → IsIn (u, e) (entry_rows_all ts) → IsIn (u, g) (group_rows_all ts) → ⊥
  kinds_all_apart none u e g d h k = h
  kinds_all_apart (beside t ts) u e g d h k =
      elim (in_either (entry_rows t) (entry_rows_all ts) (u, e) h) [
        | inl i ↦ elim (in_either (group_rows t) (group_rows_all ts) (u, g) k) [
          | inl j ↦ kinds_apart t u e g (distinct_front (node_ids t) (node_ids_all ts) d) i j
          | inr j ↦ distinct_apart (node_ids t) (node_ids_all ts) d u (below_node t u (entry_node t u e i)) (groups_nodes ts u g j)
        ]
        | inr i ↦ elim (in_either (group_rows t) (group_rows_all ts) (u, g) k) [
          | inl j ↦ distinct_apart (node_ids t) (node_ids_all ts) d u (group_node t u g j) (entries_nodes ts u e i)
          | inr j ↦ kinds_all_apart ts u e g (distinct_back (node_ids t) (node_ids_all ts) d) i j
        ]
      ]

-- each node is an entry or a group, and each group has a row of children
abbrev pub IsNode : List (NodeId × EntryRecord) → List (NodeId × GroupRecord) → NodeId → Type 0
IsNode es gs u = ((e : EntryRecord) × IsIn (u, e) es) ⊎ ((g : GroupRecord) × IsIn (u, g) gs)

mutual
  pub is_node : (t : Tree) (u : NodeId) → IsIn u (node_ids t) → IsNode (entry_rows t) (group_rows t) u
  is_node (node v r es ts) u (inl p) = inr (r, inl (λ i. (p i, r)))
  is_node (node v r es ts) u (inr h) =
      elim (in_either (entry_ids es) (node_ids_all ts) u h) [
        | inl i ↦
            let f = from_map (λ (x : NodeId × EntryRecord). x.0) es u i in
            inl (f.0.1, in_front es (entry_rows_all ts) (u, f.0.1) (subst (λ (x : NodeId). IsIn (x, f.0.1) es) f.1.1 f.1.0))
        | inr i ↦ elim (are_nodes ts u i) [
          | inl e ↦ inl (e.0, in_back es (entry_rows_all ts) (u, e.0) e.1)
          | inr g ↦ inr (g.0, inr g.1)
        ]
      ]

  are_nodes : (ts : Trees) (u : NodeId) → IsIn u (node_ids_all ts) → IsNode (entry_rows_all ts) (group_rows_all ts) u
  are_nodes none u h = absurd h
  are_nodes (beside t ts) u h =
      elim (in_either (node_ids t) (node_ids_all ts) u h) [
        | inl i ↦ elim (is_node t u i) [
          | inl e ↦ inl (e.0, in_front (entry_rows t) (entry_rows_all ts) (u, e.0) e.1)
          | inr g ↦ inr (g.0, in_front (group_rows t) (group_rows_all ts) (u, g.0) g.1)
        ]
        | inr i ↦ elim (are_nodes ts u i) [
          | inl e ↦ inl (e.0, in_back (entry_rows t) (entry_rows_all ts) (u, e.0) e.1)
          | inr g ↦ inr (g.0, in_back (group_rows t) (group_rows_all ts) (u, g.0) g.1)
        ]
      ]

mutual
  pub row_group : (t : Tree) (g : NodeId) (c : Children) → IsIn (g, c) (child_rows t) → (r : GroupRecord) × IsIn (g, r) (group_rows t)
  row_group (node v r es ts) g c (inl p) = (r, inl (λ i. (ap (λ (x : NodeId × Children). x.0) p i, r)))
  row_group (node v r es ts) g c (inr h) = let f = rows_groups ts g c h in (f.0, inr f.1)

  rows_groups : (ts : Trees) (g : NodeId) (c : Children) → IsIn (g, c) (child_rows_all ts) → (r : GroupRecord) × IsIn (g, r) (group_rows_all ts)
  rows_groups none g c h = absurd h
  rows_groups (beside t ts) g c h =
      elim (in_either (child_rows t) (child_rows_all ts) (g, c) h) [
        | inl i ↦ let f = row_group t g c i in (f.0, in_front (group_rows t) (group_rows_all ts) (g, f.0) f.1)
        | inr i ↦ let f = rows_groups ts g c i in (f.0, in_back (group_rows t) (group_rows_all ts) (g, f.0) f.1)
      ]

-- ---- walks up, for parents that are each child's one parent

module _ (up : NodeId → NodeId) where
  mutual
    climbs : (t : Tree) → ((g u : NodeId) → IsKid (child_rows t) g u → up u ≡ g) → (u : NodeId) → IsIn u (node_ids t) → (n : ℕ) × (steps up n u ≡ id_of t)
    climbs (node v r es ts) parent u (inl p) = (zero, sym p)
    climbs (node v r es ts) parent u (inr h) =
        elim (in_either (entry_ids es) (node_ids_all ts) u h) [
          | inl i ↦ (suc zero, parent v u (record { entries = entry_ids es; groups = ids_of ts }, (inl refl, in_front (entry_ids es) (ids_of ts) u i)))
          | inr i ↦
              let f = all_climb ts (λ g w k. parent g w (k.0, (inr k.1.0, k.1.1))) u i in (
                f.0 + 1,
                steps_add up f.0 1 u ∙ ap (steps up 1) f.1.1
                    ∙ parent v f.1.0.0 (record { entries = entry_ids es; groups = ids_of ts }, (inl refl, in_back (entry_ids es) (ids_of ts) f.1.0.0 f.1.0.1)),
              )
        ]

    all_climb : (ts : Trees) → ((g u : NodeId) → IsKid (child_rows_all ts) g u → up u ≡ g) → (u : NodeId) → IsIn u (node_ids_all ts)
        → (n : ℕ) × ((h : (v : NodeId) × IsIn v (ids_of ts)) × (steps up n u ≡ h.0))
    all_climb none parent u h = absurd h
    all_climb (beside t ts) parent u h =
        elim (in_either (node_ids t) (node_ids_all ts) u h) [
          | inl i ↦
              let f = climbs t (λ g w k. parent g w (k.0, (in_front (child_rows t) (child_rows_all ts) (g, k.0) k.1.0, k.1.1))) u i in
              (f.0, ((id_of t, inl refl), f.1))
          | inr i ↦
              let f = all_climb ts (λ g w k. parent g w (k.0, (in_back (child_rows t) (child_rows_all ts) (g, k.0) k.1.0, k.1.1))) u i in
              (f.0, ((f.1.0.0, inr f.1.0.1), f.1.1))
        ]

-- each node but the root is a child
mutual
  pub is_kid : (t : Tree) (u : NodeId) → IsIn u (below_ids t) → (g : NodeId) × IsKid (child_rows t) g u
  is_kid (node v r es ts) u h =
      elim (in_either (entry_ids es) (node_ids_all ts) u h) [
        | inl i ↦ (v, (record { entries = entry_ids es; groups = ids_of ts }, (inl refl, in_front (entry_ids es) (ids_of ts) u i)))
        | inr i ↦ elim (are_kids ts u i) [
          | inl k ↦ (v, (record { entries = entry_ids es; groups = ids_of ts }, (inl refl, in_back (entry_ids es) (ids_of ts) u k)))
          | inr k ↦ (k.0, (k.1.0, (inr k.1.1.0, k.1.1.1)))
        ]
      ]

  are_kids : (ts : Trees) (u : NodeId) → IsIn u (node_ids_all ts) → IsIn u (ids_of ts) ⊎ ((g : NodeId) × IsKid (child_rows_all ts) g u)
  are_kids none u h = absurd h
  are_kids (beside t ts) u h =
      elim (in_either (node_ids t) (node_ids_all ts) u h) [
        | inl i ↦ elim (node_below t u i) [
          | inl p ↦ inl (inl p)
          | inr k ↦ let f = is_kid t u k in inr (f.0, (f.1.0, (in_front (child_rows t) (child_rows_all ts) (f.0, f.1.0) f.1.1.0, f.1.1.1)))
        ]
        | inr i ↦ elim (are_kids ts u i) [
          | inl k ↦ inl (inr k)
          | inr f ↦ inr (f.0, (f.1.0, (in_back (child_rows t) (child_rows_all ts) (f.0, f.1.0) f.1.1.0, f.1.1.1)))
        ]
      ]

-- ---- versions of a record

one_mark : (v : BareVersion) (k : Mark) (s : Stats) → get (insert (empty {R = mark_cmp}) v.mark v.stats) k ≡ Some s → k ≡ v.mark
one_mark v k s e =
    elim (decide (eq_by_cmp mark_cmp k v.mark)) [
      | inl t ↦ tie mark_order.total mark_order.same k v.mark t
      | inr t ↦ never s (sym (get_single mark_order.total mark_order.same (v.mark, v.stats) k ∙ ap (λ b. cond b (Some v.stats) None) t) ∙ e)
    ]

abbrev pub as_map : BareVersion → Versions
as_map v = insert empty v.mark v.stats

pub version_marks : (e : EntryRecord) (k : Mark) (s : Stats) → get (versions_of e) k ≡ Some s → (v : BareVersion) × (IsIn v (e.current ∷ e.history) × (k ≡ v.mark))
version_marks e k s q =
    let all = sym (get-unite_all mark_order.total mark_order.same stats_join (map as_map (e.current ∷ e.history)) k) ∙ q in
    let one = some_from stats_join (map (λ (m : Versions). get m k) (map as_map (e.current ∷ e.history))) s all in
    let m = from_map (λ (m : Versions). get m k) (map as_map (e.current ∷ e.history)) (Some one.0) one.1 in
    let v = from_map as_map (e.current ∷ e.history) m.0 m.1.0 in
    (v.0, (v.1.0, one_mark v.0 k one.0 (ap (λ (x : Versions). get x k) v.1.1 ∙ m.1.1)))

versions_not_empty : (e : EntryRecord) → keys (versions_of e) ≢ []
versions_not_empty e =
    let k = e.current.mark in
    let here : get (as_map e.current) k ≡ Some e.current.stats =
    get_single mark_order.total mark_order.same (e.current.mark, e.current.stats) k ∙ ap (λ b. cond b (Some e.current.stats) None) (ties mark_order.total mark_order.same k) in
    let all = some-gather stats_join (map (λ (m : Versions). get m k) (map as_map (e.current ∷ e.history))) e.current.stats (inl here) in
    some_versions (versions_of e) k all.0 (get-unite_all mark_order.total mark_order.same stats_join (map as_map (e.current ∷ e.history)) k ∙ all.1)

-- ---- the database

module _ (d : BareDoc) (is : IsDoc d) where
  pub distinct : AreDistinct (node_ids d.tree)
  distinct = distinct_from (node_ids d.tree) is.distinct

  abbrev pub s : Shape
  s = shape_of d

  abbrev pub db : Db
  db = db_of s

  pub shape_entry : (u : NodeId) → get s.entries u ≡ find id_cmp u (entry_rows d.tree)
  unfolding shape_of
  shape_entry u = get-from_entries id_order.total (entry_rows d.tree) u

  pub shape_group : (u : NodeId) → get s.groups u ≡ find id_cmp u (group_rows d.tree)
  unfolding shape_of
  shape_group u = get-from_entries id_order.total (group_rows d.tree) u

  pub shape_kids : (u : NodeId) → get s.children u ≡ find id_cmp u (child_rows d.tree)
  unfolding shape_of
  shape_kids u = get-from_entries id_order.total (child_rows d.tree) u

  pub db_place : (u : NodeId) → get db.places u ≡ find id_cmp u (place_rows s)
  unfolding db_of
  db_place u = get-from_entries id_order.total (place_rows s) u

  pub db_tomb : (u : NodeId) → get db.tombs u ≡ find id_cmp u (map (λ (t : Tombstone). (t.id, t.deleted)) d.tombs)
  unfolding db_of shape_of
  db_tomb u = get-from_entries id_order.total (map (λ (t : Tombstone). (t.id, t.deleted)) d.tombs) u

  pub db_root : db.root ≡ id_of d.tree
  unfolding db_of shape_of
  db_root = refl

  pub db_shared : db.meta ≡ shared_of d.meta
  unfolding db_of shape_of
  db_shared = refl

  option_some : {A B : Type 0} (f : A → B) (o : Option A) (b : B) → option_map f o ≡ Some b → (a : A) × ((o ≡ Some a) × (f a ≡ b))
  option_some f None b e = never b e
  option_some f (Some a) b e = (a, (refl, same_Some _ _ e))

  pub entry_at : (u : NodeId) (v : Versions) → get db.entries u ≡ Some v → (e : EntryRecord) × (IsIn (u, e) (entry_rows d.tree) × (versions_of e ≡ v))
  entry_at u v e =
      let o = option_some versions_of (get s.entries u) v (sym (db_entries s u) ∙ e) in
      (o.0, (find_in id_order.total id_order.same (entry_rows d.tree) u o.0 (sym (shape_entry u) ∙ o.1.0), o.1.1))

  pub group_at : (u : NodeId) (g : GroupState) → get db.groups u ≡ Some g → (r : GroupRecord) × (IsIn (u, r) (group_rows d.tree) × (r.state ≡ g))
  group_at u g e =
      let o = option_some (λ (r : GroupRecord). r.state) (get s.groups u) g (sym (db_groups s u) ∙ e) in
      (o.0, (find_in id_order.total id_order.same (group_rows d.tree) u o.0 (sym (shape_group u) ∙ o.1.0), o.1.1))

  pub entry_there : (u : NodeId) (e : EntryRecord) → IsIn (u, e) (entry_rows d.tree) → contains_key db.entries u ≡ true
  entry_there u e h =
      let f = some_find id_order.total id_order.same (entry_rows d.tree) u e h in
      ap is_some (db_entries s u ∙ ap (option_map versions_of) (shape_entry u ∙ f.1))

  pub group_there : (u : NodeId) (r : GroupRecord) → IsIn (u, r) (group_rows d.tree) → contains_key db.groups u ≡ true
  group_there u r h =
      let f = some_find id_order.total id_order.same (group_rows d.tree) u r h in
      ap is_some (db_groups s u ∙ ap (option_map (λ (g : GroupRecord). g.state)) (shape_group u ∙ f.1))

  -- the places are those of the children
  pub place_kid : (u : NodeId) (p : Place) → get db.places u ≡ Some p → IsKid (child_rows d.tree) p.parent u
  place_kid u p e =
      let row = find_in id_order.total id_order.same (place_rows s) u p (sym (db_place u) ∙ e) in
      let f = from_flat (λ (r : NodeId × Children). map (λ v. (v, place_at (stay_of s v) r.0)) (r.1.entries ++ r.1.groups)) (entries s.children) (u, p) row in
      let g = from_map (λ v. (v, place_at (stay_of s v) f.0.0)) (f.0.1.entries ++ f.0.1.groups) (u, p) f.1.1 in
      let here : IsIn f.0 (child_rows d.tree) =
      find_in id_order.total id_order.same (child_rows d.tree) f.0.0 f.0.1 (sym (shape_kids f.0.0) ∙ entry_get id_order.total id_order.same s.children f.0 f.1.0) in
      let same_u : g.0 ≡ u = ap (λ (x : NodeId × Place). x.0) g.1.1 in
      let same_p : f.0.0 ≡ p.parent = ap (λ (x : NodeId × Place). x.1.parent) g.1.1 in
      (f.0.1, (subst (λ (x : NodeId). IsIn (x, f.0.1) (child_rows d.tree)) same_p here, subst (λ (x : NodeId). IsIn x (f.0.1.entries ++ f.0.1.groups)) same_u g.1.0))

  pub kid_place : (g u : NodeId) → IsKid (child_rows d.tree) g u → (p : Place) × ((get db.places u ≡ Some p) × (p.parent ≡ g))
  kid_place g u k =
      let there = some_find id_order.total id_order.same (child_rows d.tree) g k.0 k.1.0 in
      let same = one_row d.tree g there.0 k.0 distinct (find_in id_order.total id_order.same (child_rows d.tree) g there.0 there.1) k.1.0 in
      let entry = get_entry id_order.total id_order.same s.children g k.0 (shape_kids g ∙ there.1 ∙ ap Some same) in
      let row = in_flat (λ (r : NodeId × Children). map (λ v. (v, place_at (stay_of s v) r.0)) (r.1.entries ++ r.1.groups)) (entries s.children)
      (g, k.0) (u, place_at (stay_of s u) g) entry
      (in_map (λ v. (v, place_at (stay_of s v) g)) (k.0.entries ++ k.0.groups) u k.1.1) in
      let found = some_find id_order.total id_order.same (place_rows s) u (place_at (stay_of s u) g) row in
      let at : get db.places u ≡ Some found.0 = db_place u ∙ found.1 in
      (found.0, (at, one_parent d.tree found.0.parent g u distinct (place_kid u found.0 at) k))

  parent_is : (g u : NodeId) → IsKid (child_rows d.tree) g u → parent_in db u ≡ g
  parent_is g u k = let p = kid_place g u k in ap (parent_or u) p.1.0 ∙ p.1.1

  pub holds_node : (u : NodeId) → holds db u ≡ true → IsIn u (node_ids d.tree)
  holds_node u e =
      elim (or_cases (contains_key db.entries u) (contains_key db.groups u) e) [
        | inl h ↦ let v = some_of (get db.entries u) h in let x = entry_at u v.0 v.1 in below_node d.tree u (entry_node d.tree u x.0 x.1.0)
        | inr h ↦ let g = some_of (get db.groups u) h in let x = group_at u g.0 g.1 in group_node d.tree u x.0 x.1.0
      ]

  pub node_holds : (u : NodeId) → IsIn u (node_ids d.tree) → holds db u ≡ true
  node_holds u h =
      elim (is_node d.tree u h) [
        | inl e ↦ or_left (contains_key db.entries u) (contains_key db.groups u) (entry_there u e.0 e.1)
        | inr g ↦ or_right (contains_key db.entries u) (contains_key db.groups u) (group_there u g.0 g.1)
      ]

  root_row : (t : Tree) → (r : GroupRecord) × IsIn (id_of t, r) (group_rows t)
  root_row (node v r es ts) = (r, inl refl)

  no_top : get db.places db.root ≡ None
  no_top = none_of (get db.places db.root) (is_false (contains_key db.places db.root) (λ e.
      let p = some_of (get db.places db.root) e in
      root_apart d.tree distinct (subst (λ (x : NodeId). IsIn x (below_ids d.tree)) db_root (kid_below d.tree p.0.parent db.root (place_kid db.root p.0 p.1)))))

  placed_held : (u : NodeId) → (u ≢ db.root) → contains_key db.places u ≡ holds db u
  placed_held u off = both_ways (contains_key db.places u) (holds db u)
      (λ e. let p = some_of (get db.places u) e in node_holds u (below_node d.tree u (kid_below d.tree p.0.parent u (place_kid u p.0 p.1))))
      (λ e. elim (node_below d.tree u (holds_node u e)) [
        | inl p ↦ absurd (off (sym p ∙ sym db_root))
        | inr h ↦ let k = is_kid d.tree u h in let p = kid_place k.0 u k.1 in some_is (get db.places u) p.0 p.1.0
      ])

  parents_groups : (u : NodeId) (p : Place) → get db.places u ≡ Some p → contains_key db.groups p.parent ≡ true
  parents_groups u p e =
      let k = place_kid u p e in
      let r = row_group d.tree p.parent k.0 k.1.0 in
      group_there p.parent r.0 r.1

  no_tombs : (u : NodeId) → holds db u ≡ true → get db.tombs u ≡ None
  no_tombs u e = none_of (get db.tombs u) (is_false (contains_key db.tombs u) (λ t.
      let x = some_of (get db.tombs u) t in
      let row = find_in id_order.total id_order.same (map (λ (y : Tombstone). (y.id, y.deleted)) d.tombs) u x.0 (sym (db_tomb u) ∙ x.1) in
      let f = from_map (λ (y : Tombstone). (y.id, y.deleted)) d.tombs (u, x.0) row in
      let apart_it = not_true _ (all_in (λ (y : Tombstone). is_elsewhere d.tree y.id) d.tombs f.0 is.tombs_apart f.1.0) in
      let same : f.0.id ≡ u = ap (λ (y : NodeId × ℕ). y.0) f.1.1 in
      apart (list_any (is_id u) (node_ids d.tree)) (list_in u (node_ids d.tree) (holds_node u e)) (ap (λ (y : NodeId). list_any (is_id y) (node_ids d.tree)) (sym same) ∙ apart_it)))

  proper_entries : (u : NodeId) (v : Versions) (k : Mark) (x : Stats) → get db.entries u ≡ Some v → get v k ≡ Some x → is_proper_content k.content ≡ true
  proper_entries u v k x e g =
      let at = entry_at u v e in
      let row = all_in (λ (r : NodeId × EntryRecord). is_proper_entry r.1) (entry_rows d.tree) (u, at.0) is.entries_proper at.1.0 in
      let m = version_marks at.0 k x (ap (λ (y : Versions). get y k) at.1.1 ∙ g) in
      ap (λ (y : Mark). is_proper_content y.content) m.1.1 ∙ all_in (λ (y : BareVersion). is_proper_content y.mark.content) (at.0.current ∷ at.0.history) m.0 row m.1.0

  proper_groups : (u : NodeId) (g : GroupState) → get db.groups u ≡ Some g → is_proper_group_content g.content ≡ true
  proper_groups u g e =
      let at = group_at u g e in
      ap (λ (y : GroupState). is_proper_group_content y.content) (sym at.1.1)
      ∙ all_in (λ (r : NodeId × GroupRecord). is_proper_group_content r.1.state.content) (group_rows d.tree) (u, at.0) is.groups_proper at.1.0

  proper_meta : IsProperMeta (shared_of d.meta)
  proper_meta =
      let name = is_utf8 d.meta.name.value in
      let description = is_utf8 d.meta.description.value in
      let user = is_utf8 d.meta.user.value in
      let color = is_utf8 d.meta.settings.value.color in
      let icons = list_all is_text_icon d.meta.icons in
      let to_items = and_true (name && description && user && color && icons) (list_all is_text_item d.meta.items) is.meta_texts in
      let to_icons = and_true (name && description && user && color) icons to_items.0 in
      let to_color = and_true (name && description && user) color to_icons.0 in
      let to_user = and_true (name && description) user to_color.0 in
      let to_description = and_true name description to_user.0 in
      record {
        name = to_description.0;
        description = to_description.1;
        user = to_user.1;
        color = to_color.1;
        icons = λ u icon e.
            let row = find_in id_order.total id_order.same (map (λ (i : Icon). (i.id, i)) d.meta.icons) u icon (sym (get-from_entries id_order.total (map (λ (i : Icon). (i.id, i)) d.meta.icons) u) ∙ e) in
            let f = from_map (λ (i : Icon). (i.id, i)) d.meta.icons (u, icon) row in
            let same = ap (λ (y : NodeId × Icon). y.1) f.1.1 in (
              sym (ap (λ (i : Icon). i.id) same) ∙ ap (λ (y : NodeId × Icon). y.0) f.1.1,
              ap is_text_icon (sym same) ∙ all_in is_text_icon d.meta.icons f.0 to_icons.1 f.1.0,
            );
        items = λ k item e.
            let row = find_in bytes_order.total bytes_order.same (map (λ (i : Item). (i.key, i)) d.meta.items) k item (sym (get-from_entries bytes_order.total (map (λ (i : Item). (i.key, i)) d.meta.items) k) ∙ e) in
            let f = from_map (λ (i : Item). (i.key, i)) d.meta.items (k, item) row in
            let same = ap (λ (y : List ℕ × Item). y.1) f.1.1 in (
              sym (ap (λ (i : Item). i.key) same) ∙ ap (λ (y : List ℕ × Item). y.0) f.1.1,
              ap is_text_item (sym same) ∙ all_in is_text_item d.meta.items f.0 to_items.1 f.1.0,
            );
      }

  -- the database of a document is sound
  pub document_sound : Sound (db_in d)
  document_sound = record {
    root = ap (contains_key db.groups) db_root ∙ (let r = root_row d.tree in group_there (id_of d.tree) r.0 r.1);
    top = no_top;
    kinds = λ u e. is_false (contains_key db.groups u) (λ g.
        let v = some_of (get db.entries u) e in
        let x = entry_at u v.0 v.1 in
        let r = some_of (get db.groups u) g in
        let y = group_at u r.0 r.1 in
        kinds_apart d.tree u x.0 y.0 distinct x.1.0 y.1.0);
    no_nil = is_false (holds db nil_id) (λ e. apart (list_any (is_id nil_id) (node_ids d.tree)) (list_in nil_id (node_ids d.tree) (holds_node nil_id e)) (not_true _ is.no_nil));
    placed = placed_held;
    parents = parents_groups;
    rooted = λ u e. let c = climbs (parent_in db) d.tree parent_is u (holds_node u e) in (c.0, c.1 ∙ sym db_root);
    alive = no_tombs;
    versions = λ u v e. let x = entry_at u v e in subst (λ (y : Versions). keys y ≢ []) x.1.1 (versions_not_empty x.0);
    contents = proper_entries;
    group_contents = proper_groups;
    meta = subst IsProperMeta (sym db_shared) proper_meta;
  }
