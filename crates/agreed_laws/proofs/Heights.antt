-- The database of a document fits its levels.
use Rattle.std.proofs.Common.{◌≡◌, ◌<◌, ℕ, zero, suc, true, inl, inr, ◌⊎◌, ◌++◌, Some, sym, ap, subst, ◌∙◌, arith}
use Rattle.std.specs.FinMap.{get, contains_key}
use Rattle.vault_model.specs.Db.{NodeId, Place, Sound}
use Rattle.vault_model.specs.Join.{IsIn}
use Rattle.vault_model.specs.Shape.{Children, EntryRecord}
use Rattle.vault_model.specs.Tree.{Tree, node, Trees, none, beside, BareDoc, IsDeep, IsDoc, LEVELS, FitsLevels, child_rows, child_rows_all, db_in, entry_rows, entry_rows_all, height, height_all, id_of, ids_of, node_ids, node_ids_all}
use Rattle.vault_model.proofs.Tests.{apart, from_map, in_back, in_either, in_front}
use Rattle.merge_core.proofs.SoundDoc.{AreDistinct, db_root, distinct_apart, distinct_back, distinct_from, distinct_front, distinct_head, document_sound, entry_ids, entry_there, one_row, place_kid, row_node}

-- ---- groups so many levels below a root

abbrev mutual
  AtDepth : Tree → ℕ → NodeId → Type 0
  AtDepth (node v r es ts) zero u = v ≡ u
  AtDepth (node v r es ts) (suc k) u = AreAtDepth ts k u

  AreAtDepth : Trees → ℕ → NodeId → Type 0
  AreAtDepth none k u = ⊥
  AreAtDepth (beside t ts) k u = AtDepth t k u ⊎ AreAtDepth ts k u

root_at : (t : Tree) (u : NodeId) → id_of t ≡ u → AtDepth t zero u
root_at (node v r es ts) u e = e

heads_at : (ts : Trees) (u : NodeId) → IsIn u (ids_of ts) → AreAtDepth ts zero u
heads_at none u h = h
heads_at (beside t ts) u (inl p) = inl (root_at t u p)
heads_at (beside t ts) u (inr h) = inr (heads_at ts u h)

mutual
  low : (t : Tree) (k : ℕ) (u : NodeId) → AtDepth t k u → k < height t
  low (node v r es ts) zero u h = omega arith
  low (node v r es ts) (suc k) u h = let less = all_low ts k u h in omega (arith, less)

  all_low : (ts : Trees) (k : ℕ) (u : NodeId) → AreAtDepth ts k u → k < height_all ts
  all_low none k u h = absurd h
  all_low (beside t ts) k u (inl h) = let less = low t k u h in omega (arith, less)
  all_low (beside t ts) k u (inr h) = let less = all_low ts k u h in omega (arith, less)

mutual
  at_node : (t : Tree) (k : ℕ) (u : NodeId) → AtDepth t k u → IsIn u (node_ids t)
  at_node (node v r es ts) zero u h = inl h
  at_node (node v r es ts) (suc k) u h = inr (in_back (entry_ids es) (node_ids_all ts) u (at_nodes ts k u h))

  at_nodes : (ts : Trees) (k : ℕ) (u : NodeId) → AreAtDepth ts k u → IsIn u (node_ids_all ts)
  at_nodes none k u h = absurd h
  at_nodes (beside t ts) k u (inl h) = in_front (node_ids t) (node_ids_all ts) u (at_node t k u h)
  at_nodes (beside t ts) k u (inr h) = in_back (node_ids t) (node_ids_all ts) u (at_nodes ts k u h)

rows_node : (ts : Trees) (g : NodeId) (c : Children) → IsIn (g, c) (child_rows_all ts) → IsIn g (node_ids_all ts)
rows_node none g c h = absurd h
rows_node (beside t ts) g c h =
    elim (in_either (child_rows t) (child_rows_all ts) (g, c) h) [
      | inl i ↦ in_front (node_ids t) (node_ids_all ts) g (row_node t g c i)
      | inr i ↦ in_back (node_ids t) (node_ids_all ts) g (rows_node ts g c i)
    ]

-- the groups of a group are one level below it
mutual
  kid_at : (t : Tree) (k : ℕ) (g u : NodeId) (c : Children) → AreDistinct (node_ids t) → AtDepth t k g → IsIn (g, c) (child_rows t) → IsIn u c.groups → AtDepth t (suc k) u
  kid_at (node v r es ts) zero g u c d p row h =
      let own : Children = record { entries = entry_ids es; groups = ids_of ts } in
      let same : own ≡ c = one_row (node v r es ts) g own c d (inl (λ i. (p i, own))) row in
      heads_at ts u (subst (λ (x : Children). IsIn u x.groups) (sym same) h)
  kid_at (node v r es ts) (suc k) g u c d below (inl q) h =
      absurd (distinct_head v (entry_ids es ++ node_ids_all ts) d
      (subst (λ (x : NodeId). IsIn x (entry_ids es ++ node_ids_all ts)) (ap (λ (x : NodeId × Children). x.0) (sym q))
      (in_back (entry_ids es) (node_ids_all ts) g (at_nodes ts k g below))))
  kid_at (node v r es ts) (suc k) g u c d below (inr row) h = kids_at ts k g u c (distinct_back (entry_ids es) (node_ids_all ts) d.1) below row h

  kids_at : (ts : Trees) (k : ℕ) (g u : NodeId) (c : Children) → AreDistinct (node_ids_all ts) → AreAtDepth ts k g → IsIn (g, c) (child_rows_all ts) → IsIn u c.groups → AreAtDepth ts (suc k) u
  kids_at none k g u c d below row h = absurd below
  kids_at (beside t ts) k g u c d (inl below) row h =
      elim (in_either (child_rows t) (child_rows_all ts) (g, c) row) [
        | inl i ↦ inl (kid_at t k g u c (distinct_front (node_ids t) (node_ids_all ts) d) below i h)
        | inr i ↦ absurd (distinct_apart (node_ids t) (node_ids_all ts) d g (at_node t k g below) (rows_node ts g c i))
      ]
  kids_at (beside t ts) k g u c d (inr below) row h =
      elim (in_either (child_rows t) (child_rows_all ts) (g, c) row) [
        | inl i ↦ absurd (distinct_apart (node_ids t) (node_ids_all ts) d g (row_node t g c i) (at_nodes ts k g below))
        | inr i ↦ inr (kids_at ts k g u c (distinct_back (node_ids t) (node_ids_all ts) d) below i h)
      ]

-- the entries of a group are entries of the tree
mutual
  kid_entry : (t : Tree) (g u : NodeId) (c : Children) → IsIn (g, c) (child_rows t) → IsIn u c.entries → (e : EntryRecord) × IsIn (u, e) (entry_rows t)
  kid_entry (node v r es ts) g u c (inl q) h =
      let f = from_map (λ (e : NodeId × EntryRecord). e.0) es u (subst (λ (x : NodeId × Children). IsIn u x.1.entries) (sym q) h) in
      (f.0.1, in_front es (entry_rows_all ts) (u, f.0.1) (subst (λ (x : NodeId). IsIn (x, f.0.1) es) f.1.1 f.1.0))
  kid_entry (node v r es ts) g u c (inr row) h =
      let f = kid_entries ts g u c row h in
      (f.0, in_back es (entry_rows_all ts) (u, f.0) f.1)

  kid_entries : (ts : Trees) (g u : NodeId) (c : Children) → IsIn (g, c) (child_rows_all ts) → IsIn u c.entries → (e : EntryRecord) × IsIn (u, e) (entry_rows_all ts)
  kid_entries none g u c row h = absurd row
  kid_entries (beside t ts) g u c row h =
      elim (in_either (child_rows t) (child_rows_all ts) (g, c) row) [
        | inl i ↦ let f = kid_entry t g u c i h in (f.0, in_front (entry_rows t) (entry_rows_all ts) (u, f.0) f.1)
        | inr i ↦ let f = kid_entries ts g u c i h in (f.0, in_back (entry_rows t) (entry_rows_all ts) (u, f.0) f.1)
      ]

-- ---- documents

module _ (d : BareDoc) (is : IsDoc d) where
  good : Sound (db_in d)
  good = document_sound d is

  distinct : AreDistinct (node_ids d.tree)
  distinct = distinct_from (node_ids d.tree) is.distinct

  group_kid : (u : NodeId) (p : Place) → contains_key (db_in d).groups u ≡ true → get (db_in d).places u ≡ Some p → (c : Children) × (IsIn (p.parent, c) (child_rows d.tree) × IsIn u c.groups)
  group_kid u p group place =
      let kid = place_kid d is u p place in
      elim (in_either kid.0.entries kid.0.groups u kid.1.1) [
        | inl i ↦
            let e = kid_entry d.tree p.parent u kid.0 kid.1.0 i in
            apart (contains_key (db_in d).groups u) group (good.kinds u (entry_there d is u e.0 e.1))
        | inr i ↦ (kid.0, (kid.1.0, i))
      ]

  deep_at : (k : ℕ) (u : NodeId) → contains_key (db_in d).groups u ≡ true → IsDeep (db_in d) k u → AtDepth d.tree k u
  deep_at zero u group deep = root_at d.tree u (sym (deep ∙ db_root d is))
  deep_at (suc k) u group deep =
      let kid = group_kid u deep.0 group deep.1 in
      kid_at d.tree k deep.0.parent u kid.0 distinct (deep_at k deep.0.parent (good.parents u deep.0 deep.1) deep.2) kid.1.0 kid.1.1

  pub document_fits : FitsLevels LEVELS (db_in d)
  document_fits k u group deep =
      let less = low d.tree k u (deep_at k u group deep) in
      let levels = is.levels in
      omega (arith, less, levels)
