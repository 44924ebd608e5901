-- The tree of the shape of a document is the document's.
use Rattle.std.proofs.Common.{◌≡◌, ◌≤◌, ℕ, zero, suc, inl, inr, List, [], ◌∷◌, Some, map, refl, ap, ◌∙◌, arith}
use Rattle.std.specs.FinMap.{FinMap, entries, get}
use Rattle.std.specs.Option.{unwrap_or}
use Rattle.vault_model.specs.declared.nodes.Tombstone.{Tombstone}
use Rattle.vault_model.specs.Db.{NodeId, id_cmp}
use Rattle.vault_model.specs.Join.{IsIn}
use Rattle.vault_model.specs.Shape.{Children, EntryRecord, GroupRecord, Shape, kids, no_children}
use Rattle.vault_model.specs.Tree.{BareDoc, IsDoc, LEVELS, Tree, Trees, all_trees, beside, child_rows, child_rows_all, doc_of, entry_rows, entry_rows_all, group_rows, group_rows_all, height, height_all, id_of, ids_of, no_group, node, none, shape_of, tree_of, with_record, with_records}
use Rattle.vault_model.proofs.Orders.{id_order}
use Rattle.vault_model.proofs.Tests.{in_back, in_front, map_map}
use Rattle.merge_core.proofs.SoundDoc.{distinct, one_row, shape_kids}
use Rattle.merge_core.proofs.Tables.{find_in, some_find}
use Rattle.growth_laws.proofs.Stays.{entry_is, group_is}
use Rattle.settled_laws.proofs.Sorted.{map_same, rows_back}
use Rattle.settled_laws.specs.Settled.{ShapeIsAll}

abbrev pub record_in : Tree → GroupRecord
record_in (node u r es ts) = r

pub records_back : {A : Type 0} (m : FinMap id_cmp A) (rows : List (NodeId × A)) → ((e : NodeId × A) → IsIn e rows → get m e.0 ≡ Some e.1)
    → with_records m (map (λ (e : NodeId × A). e.0) rows) ≡ rows
records_back m [] each = refl
records_back {A} m (e ∷ es) each =
    ap (λ o. with_record e.0 o (with_records m (map (λ (x : NodeId × A). x.0) es))) (each e (inl refl))
    ∙ ap (λ rows. e ∷ rows) (records_back m es (λ x h. each x (inr h)))

has_level : (t : Tree) → 1 ≤ height t
has_level (node u r es ts) = omega arith

module _ (s : Shape) where
  -- The rows of a tree are a shape's.
  pub record HasRows (es : List (NodeId × EntryRecord)) (gs : List (NodeId × GroupRecord)) (cs : List (NodeId × Children)) : Type 0 where
    pub entries : (e : NodeId × EntryRecord) → IsIn e es → get s.entries e.0 ≡ Some e.1
    pub groups : (e : NodeId × GroupRecord) → IsIn e gs → get s.groups e.0 ≡ Some e.1
    pub children : (e : NodeId × Children) → IsIn e cs → get s.children e.0 ≡ Some e.1

  abbrev pub HasTree : Tree → Type 0
  HasTree t = HasRows (entry_rows t) (group_rows t) (child_rows t)

  abbrev pub HasTrees : Trees → Type 0
  HasTrees ts = HasRows (entry_rows_all ts) (group_rows_all ts) (child_rows_all ts)

  below : (u : NodeId) (r : GroupRecord) (es : List (NodeId × EntryRecord)) (ts : Trees) → HasTree (node u r es ts) → HasTrees ts
  below u r es ts has = record {
    entries = λ e h. has.entries e (in_back es (entry_rows_all ts) e h);
    groups = λ e h. has.groups e (inr h);
    children = λ e h. has.children e (inr h);
  }

  first : (t : Tree) (ts : Trees) → HasTrees (beside t ts) → HasTree t
  first t ts has = record {
    entries = λ e h. has.entries e (in_front (entry_rows t) (entry_rows_all ts) e h);
    groups = λ e h. has.groups e (in_front (group_rows t) (group_rows_all ts) e h);
    children = λ e h. has.children e (in_front (child_rows t) (child_rows_all ts) e h);
  }

  others : (t : Tree) (ts : Trees) → HasTrees (beside t ts) → HasTrees ts
  others t ts has = record {
    entries = λ e h. has.entries e (in_back (entry_rows t) (entry_rows_all ts) e h);
    groups = λ e h. has.groups e (in_back (group_rows t) (group_rows_all ts) e h);
    children = λ e h. has.children e (in_back (child_rows t) (child_rows_all ts) e h);
  }

  own_kids : (u : NodeId) (r : GroupRecord) (es : List (NodeId × EntryRecord)) (ts : Trees) → HasTree (node u r es ts)
      → kids s u ≡ record { entries = map (λ (e : NodeId × EntryRecord). e.0) es; groups = ids_of ts }
  own_kids u r es ts has = ap (λ o. unwrap_or o no_children) (has.children (u, record { entries = map (λ (e : NodeId × EntryRecord). e.0) es; groups = ids_of ts }) (inl refl))

  own_entries : (u : NodeId) (r : GroupRecord) (es : List (NodeId × EntryRecord)) (ts : Trees) → HasTree (node u r es ts)
      → with_records s.entries (kids s u).entries ≡ es
  own_entries u r es ts has =
      ap (λ (c : Children). with_records s.entries c.entries) (own_kids u r es ts has)
      ∙ records_back s.entries es (λ e h. has.entries e (in_front es (entry_rows_all ts) e h))

  own_group : (t : Tree) → HasTree t → get s.groups (id_of t) ≡ Some (record_in t)
  own_group (node u r es ts) has = has.groups (u, r) (inl refl)

  abbrev tree_at : ℕ → NodeId × GroupRecord → Tree
  tree_at n c = tree_of s n c.0 c.1

  mutual
    pub tree_back : (n : ℕ) (t : Tree) → height t ≤ suc n → HasTree t → tree_of s n (id_of t) (record_in t) ≡ t
    tree_back zero (node u r es none) low has = ap (λ xs. node u r xs none) (own_entries u r es none has)
    tree_back zero (node u r es (beside t ts)) low has = let some = has_level t in absurd (omega (arith, low, some))
    tree_back (suc n) (node u r es ts) low has =
        let fits : height_all ts ≤ suc n = omega (arith, low) in
        λ i. node u r (own_entries u r es ts has i)
        ((ap (λ (c : Children). all_trees (map (tree_at n) (with_records s.groups c.groups))) (own_kids u r es ts has)
        ∙ trees_back n ts fits (below u r es ts has)) i)

    trees_back : (n : ℕ) (ts : Trees) → height_all ts ≤ suc n → HasTrees ts → all_trees (map (tree_at n) (with_records s.groups (ids_of ts))) ≡ ts
    trees_back n none low has = refl
    trees_back n (beside t ts) low has =
        let one : height t ≤ suc n = omega (arith, low) in
        let rest : height_all ts ≤ suc n = omega (arith, low) in
        ap (λ o. all_trees (map (tree_at n) (with_record (id_of t) o (with_records s.groups (ids_of ts))))) (own_group t (first t ts has))
        ∙ (λ i. beside (tree_back n t one (first t ts has) i) (trees_back n ts rest (others t ts has) i))

module _ (d : BareDoc) (is : IsDoc d) where
  pub kids_are : (u : NodeId) (c : Children) → IsIn (u, c) (child_rows d.tree) → get (shape_of d).children u ≡ Some c
  kids_are u c h =
      let there = some_find id_order.total id_order.same (child_rows d.tree) u c h in
      let same = one_row d.tree u there.0 c (distinct d is) (find_in id_order.total id_order.same (child_rows d.tree) u there.0 there.1) h in
      shape_kids d is u ∙ there.1 ∙ ap Some same

  pub all_rows : HasTree (shape_of d) d.tree
  all_rows = record {
    entries = λ e h. entry_is d is e.0 e.1 h;
    groups = λ e h. group_is d is e.0 e.1 h;
    children = λ e h. kids_are e.0 e.1 h;
  }

  abbrev tomb_of : NodeId × ℕ → Tombstone
  tomb_of e = record { id = e.0; deleted = e.1 }

  tombs_back : map tomb_of (entries (shape_of d).tombs) ≡ d.tombs
  unfolding shape_of
  tombs_back =
      ap (map tomb_of) (rows_back (λ (t : Tombstone). t.id) (λ (t : Tombstone). t.deleted) d.tombs is.tombs_rise)
      ∙ map_map (λ (t : Tombstone). (t.id, t.deleted)) tomb_of d.tombs ∙ map_same d.tombs

  root_is : (shape_of d).root ≡ id_of d.tree
  unfolding shape_of
  root_is = refl

  pub meta_is : (shape_of d).meta ≡ d.meta
  unfolding shape_of
  meta_is = refl

  tree_is : tree_of (shape_of d) LEVELS (shape_of d).root (unwrap_or (get (shape_of d).groups (shape_of d).root) no_group) ≡ d.tree
  tree_is =
      let levels = is.levels in
      let low : height d.tree ≤ suc LEVELS = omega (arith, levels) in
      ap (λ u. tree_of (shape_of d) LEVELS u (unwrap_or (get (shape_of d).groups u) no_group)) root_is
      ∙ ap (λ o. tree_of (shape_of d) LEVELS (id_of d.tree) (unwrap_or o no_group)) (own_group (shape_of d) d.tree all_rows)
      ∙ tree_back (shape_of d) LEVELS d.tree low all_rows

-- a document is that of its shape
pub shape_is_all : ShapeIsAll
unfolding doc_of
shape_is_all d is = λ i. record { tree = tree_is d is i; tombs = tombs_back d is i; meta = meta_is d is i }
