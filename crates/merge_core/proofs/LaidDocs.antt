-- What is laid over a document keeps what every document keeps.
use Rattle.std.proofs.Common.{◌≡◌, ◌≤◌, ◌+◌, ℕ, zero, true, false, inl, inr, ◌++◌, Option, Some, None, map, is_some, refl, sym, ap, subst, ◌∙◌, arith}
use Rattle.std.specs.FinMap.{FinMap, get, entries, entries_sorted}
use Rattle.std.specs.List.{list_any, list_all}
use Rattle.std.specs.Option.{option_map, unwrap_or}
use Rattle.vault_model.specs.declared.metas.Icon.{Icon}
use Rattle.vault_model.specs.declared.contents.Item.{Item}
use Rattle.vault_model.specs.declared.metas.Meta.{Meta}
use Rattle.vault_model.specs.declared.nodes.GroupState.{GroupState}
use Rattle.vault_model.specs.declared.nodes.Tombstone.{Tombstone}
use Rattle.vault_model.specs.Db.{NodeId, id_cmp, nil_id, Db, holds, Sound}
use Rattle.vault_model.specs.Join.{is_id, IsIn}
use Rattle.vault_model.specs.Proper.{rises, is_proper_group_content, is_text_meta}
use Rattle.vault_model.specs.Shape.{EntryRecord, GroupRecord, Children, Shape, no_children, kids, laid_group, laid_meta, lay}
use Rattle.vault_model.specs.Tree.{Tree, node, Trees, none, beside, BareDoc, ids_of, node_ids, node_ids_all, child_rows, child_rows_all, entry_rows, group_rows, are_distinct, is_elsewhere, is_proper_entry, height, shape_of, no_group, tree_of, doc_of, lay_doc, LEVELS, FitsLevels, IsDoc}
use Rattle.merge_core.proofs.Laid.{lay_groups, lay_root, lay_tombs, lay_meta}
use Rattle.vault_model.proofs.Orders.{id_order}
use Rattle.merge_core.proofs.Tables.{find_in, entry_get}
use Rattle.vault_model.proofs.Tests.{apart, not_false, is_false, in_back, in_either, from_map}
use Rattle.merge_core.proofs.Versions.{never}
use Rattle.merge_core.proofs.SoundDoc.{AreDistinct, entry_ids, heads_nodes, distinct_from, distinct_head, distinct_front, distinct_back, shape_kids}
use Rattle.merge_core.proofs.TreeShape.{entries_right, groups_right}
use Rattle.merge_core.proofs.Distinct.{distinct_to, not_among, in_all, sorted_rises}
use Rattle.merge_core.proofs.LaidParts.{proper_entry, proper_group, laid_icons_rise, laid_items_rise, laid_meta_text}
use Rattle.merge_core.proofs.LaidTrees.{node_under, distinct_tree, fits_height}

-- ---- the children of a document's groups stand once

distinct_heads : (ts : Trees) → AreDistinct (node_ids_all ts) → AreDistinct (ids_of ts)
distinct_heads none d = tt
distinct_heads (beside (node v r es us) ts) d = (
  not_among v (ids_of ts) (λ h. distinct_head v ((entry_ids es ++ node_ids_all us) ++ node_ids_all ts) d (in_back (entry_ids es ++ node_ids_all us) (node_ids_all ts) v (heads_nodes ts v h))),
  distinct_heads ts (distinct_back (node_ids (node v r es us)) (node_ids_all ts) d),
)

abbrev AreOnce : Children → Type 0
AreOnce c = AreDistinct c.entries × AreDistinct c.groups

mutual
  row_once : (t : Tree) (g : NodeId) (c : Children) → AreDistinct (node_ids t) → IsIn (g, c) (child_rows t) → AreOnce c
  row_once (node v r es ts) g c d (inl p) =
      subst (λ (x : NodeId × Children). AreOnce x.1) p
      (distinct_front (entry_ids es) (node_ids_all ts) d.1, distinct_heads ts (distinct_back (entry_ids es) (node_ids_all ts) d.1))
  row_once (node v r es ts) g c d (inr h) = rows_once ts g c (distinct_back (entry_ids es) (node_ids_all ts) d.1) h

  rows_once : (ts : Trees) (g : NodeId) (c : Children) → AreDistinct (node_ids_all ts) → IsIn (g, c) (child_rows_all ts) → AreOnce c
  rows_once none g c d h = absurd h
  rows_once (beside t ts) g c d h =
      elim (in_either (child_rows t) (child_rows_all ts) (g, c) h) [
        | inl i ↦ row_once t g c (distinct_front (node_ids t) (node_ids_all ts) d) i
        | inr i ↦ rows_once ts g c (distinct_back (node_ids t) (node_ids_all ts) d) i
      ]

kids_once : (d : BareDoc) → IsDoc d → (g : NodeId) → AreOnce (kids (shape_of d) g)
kids_once d is g = at (get (shape_of d).children g) refl
  where
    at : (o : Option Children) → get (shape_of d).children g ≡ o → AreOnce (unwrap_or o no_children)
    at None e = (tt, tt)
    at (Some c) e =
        row_once d.tree g c (distinct_from (node_ids d.tree) is.distinct)
        (find_in id_order.total id_order.same (child_rows d.tree) g c (sym (shape_kids d is g) ∙ e))

-- ---- the laid document

module _ (n : ℕ) (m : Db) (t : BareDoc) (s : Sound m) (fits : FitsLevels n m) (is : IsDoc t) where
  abbrev laid : Shape
  laid = lay m (shape_of t)

  abbrev rec : GroupRecord
  rec = unwrap_or (get laid.groups m.root) no_group

  abbrev whole : Tree
  whole = tree_of laid n m.root rec

  doc_tree : (lay_doc n m t).tree ≡ whole
  unfolding doc_of
  doc_tree = λ i. tree_of laid n (lay_root m (shape_of t) i) (unwrap_or (get laid.groups (lay_root m (shape_of t) i)) no_group)

  abbrev tomb_of : NodeId × ℕ → Tombstone
  tomb_of e = record { id = e.0; deleted = e.1 }

  doc_tombs : (lay_doc n m t).tombs ≡ map tomb_of (entries m.tombs)
  unfolding doc_of
  doc_tombs = ap (λ (x : FinMap id_cmp ℕ). map tomb_of (entries x)) (lay_tombs m (shape_of t))

  doc_meta : (lay_doc n m t).meta ≡ laid_meta m.meta (shape_of t).meta
  unfolding doc_of
  doc_meta = lay_meta m (shape_of t)

  root_at : (o : Option GroupState) → get m.groups m.root ≡ o → is_some o ≡ true → get laid.groups m.root ≡ Some rec
  root_at None q e = apart false e refl
  root_at (Some x) q e =
      let here : get laid.groups m.root ≡ Some (laid_group m (shape_of t) m.root x) = lay_groups m (shape_of t) m.root ∙ ap (option_map (laid_group m (shape_of t) m.root)) q in
      here ∙ ap Some (sym (ap (λ o. unwrap_or o no_group) here))

  root_is : get laid.groups m.root ≡ Some rec
  root_is = root_at (get m.groups m.root) refl s.root

  node_held : (u : NodeId) → IsIn u (node_ids whole) → holds m u ≡ true
  node_held u h = (node_under m s (shape_of t) (kids_once t is) n m.root rec u s.root h).0

  elsewhere : (u : NodeId) → holds m u ≡ false → is_elsewhere whole u ≡ true
  elsewhere u e = not_false (list_any (is_id u) (node_ids whole)) (not_among u (node_ids whole) (λ h. apart (holds m u) (node_held u h) e))

  tomb_off : (e : NodeId × ℕ) → IsIn e (entries m.tombs) → holds m e.0 ≡ false
  tomb_off e h = is_false (holds m e.0) (λ x. never e.1 (sym (s.alive e.0 x) ∙ entry_get id_order.total id_order.same m.tombs e h))

  tombs_off : list_all (λ (x : Tombstone). is_elsewhere whole x.id) (map tomb_of (entries m.tombs)) ≡ true
  tombs_off =
      in_all (λ (x : Tombstone). is_elsewhere whole x.id) (map tomb_of (entries m.tombs)) (λ x h.
      let f = from_map tomb_of (entries m.tombs) x h in
      ap (λ (y : Tombstone). is_elsewhere whole y.id) (sym f.1.1) ∙ elsewhere f.0.0 (tomb_off f.0 f.1.0))

  sum : zero + n ≡ n
  sum = omega arith

  low : height whole ≤ n
  low = fits_height m s (shape_of t) (kids_once t is) n fits n zero m.root rec refl s.root sum

  entries_ok : list_all (λ (r : NodeId × EntryRecord). is_proper_entry r.1) (entry_rows whole) ≡ true
  entries_ok =
      in_all (λ (r : NodeId × EntryRecord). is_proper_entry r.1) (entry_rows whole)
      (λ e h. proper_entry m s (shape_of t) e.0 e.1 (entries_right laid n m.root rec e h))

  groups_ok : list_all (λ (r : NodeId × GroupRecord). is_proper_group_content r.1.state.content) (group_rows whole) ≡ true
  groups_ok =
      in_all (λ (r : NodeId × GroupRecord). is_proper_group_content r.1.state.content) (group_rows whole)
      (λ e h. proper_group m s (shape_of t) e.0 e.1 (groups_right laid n m.root rec e root_is h))

  pub laid_at : n ≡ LEVELS → IsDoc (lay_doc n m t)
  laid_at limit = record {
    distinct =
        ap (λ (x : Tree). are_distinct (node_ids x)) doc_tree
        ∙ distinct_to (node_ids whole) (distinct_tree m s (shape_of t) (kids_once t is) n zero m.root rec refl s.root);
    no_nil = ap (λ (x : Tree). is_elsewhere x nil_id) doc_tree ∙ elsewhere nil_id s.no_nil;
    levels = subst (λ (x : Tree). height x ≤ LEVELS) (sym doc_tree) (subst (λ (l : ℕ). height whole ≤ l) limit low);
    tombs_rise =
        ap (rises (λ (x : Tombstone). x.id)) doc_tombs
        ∙ sorted_rises (λ (x : Tombstone). x.id) tomb_of (entries m.tombs) (entries_sorted m.tombs) (λ e h. refl);
    tombs_apart = (λ i. list_all (λ (x : Tombstone). is_elsewhere (doc_tree i) x.id) (doc_tombs i)) ∙ tombs_off;
    entries_proper = ap (λ (x : Tree). list_all (λ (r : NodeId × EntryRecord). is_proper_entry r.1) (entry_rows x)) doc_tree ∙ entries_ok;
    groups_proper = ap (λ (x : Tree). list_all (λ (r : NodeId × GroupRecord). is_proper_group_content r.1.state.content) (group_rows x)) doc_tree ∙ groups_ok;
    icons_rise = ap (λ (x : Meta). rises (λ (i : Icon). i.id) x.icons) doc_meta ∙ laid_icons_rise m.meta (shape_of t).meta s.meta;
    items_rise = ap (λ (x : Meta). rises (λ (i : Item). i.key) x.items) doc_meta ∙ laid_items_rise m.meta (shape_of t).meta s.meta;
    meta_texts = ap is_text_meta doc_meta ∙ laid_meta_text m.meta (shape_of t).meta s.meta;
  }

pub laid_is_doc : (m : Db) (t : BareDoc) → Sound m → FitsLevels LEVELS m → IsDoc t → IsDoc (lay_doc LEVELS m t)
laid_is_doc m t s fits is = laid_at LEVELS m t s fits is refl
