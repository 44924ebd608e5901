-- What is found in a tree by ids that are in one group of it alone.
use Rattle.std.proofs.Common.{◌≡◌, ◌++◌, false, cond, inl, inr, List, [], ◌∷◌, Option, Some, None, refl, sym, ap, ◌∙◌}
use Rattle.std.proofs.lemmas.Option.{same_Some}
use Rattle.std.specs.FinMap.{find}
use Rattle.vault_model.specs.Db.{NodeId, id_cmp}
use Rattle.vault_model.specs.Join.{is_id}
use Rattle.vault_model.specs.Shape.{Children}
use Rattle.vault_model.specs.Tree.{Tree, Trees, beside, child_rows, child_rows_all, entry_rows, entry_rows_all, group_rows, group_rows_all, id_of, ids_of, node, none}
use Rattle.vault_model.proofs.Tests.{decide, is_false}
use Rattle.tree_core.specs.Changes.{but_group, changed_at, child_with, group_with, own_group, with_group, with_last, without_group}
use Rattle.tree_core.specs.Finding.{or_else}
use Rattle.tree_core.proofs.Around.{AreRows, children_rows, entries_rows, found_id, groups_rows, rows_change}
use Rattle.tree_core.proofs.Options.{never}
use Rattle.tree_core.proofs.Rows.{keys}
use Rattle.frame_laws.proofs.Finds.{find_append, or_none, passed}

-- ---- rows that are found in one part alone

none_both : {X : Type 0} (a b : Option X) → or_else a b ≡ None → (a ≡ None) × (b ≡ None)
none_both None b e = (refl, e)
none_both (Some x) b e = never x (sym e)

module _ {X : Type 0} (rows : Tree → List (NodeId × X)) (rows_all : Trees → List (NodeId × X)) (are : AreRows rows rows_all) (q : NodeId) where
  abbrev F : List (NodeId × X) → Option X
  F = find id_cmp q

  alone : (xs ys zs : List (NodeId × X)) → F xs ≡ None → F zs ≡ None → F (xs ++ (ys ++ zs)) ≡ F ys
  alone xs ys zs x z = find_append q xs (ys ++ zs) ∙ ap (λ o. or_else o (F (ys ++ zs))) x ∙ find_append q ys zs ∙ ap (or_else (F ys)) z ∙ or_none (F ys)

  none_parts : (xs ys : List (NodeId × X)) → F (xs ++ ys) ≡ None → (F xs ≡ None) × (F ys ≡ None)
  none_parts xs ys e = none_both (F xs) (F ys) (sym (find_append q xs ys) ∙ e)

  module _ (g : NodeId) (f : Tree → Tree) (t b : Tree) (there : group_with g t ≡ Some b) (keeps : id_of (f b) ≡ id_of b) where
    -- what is not found after a change was in the group that was changed, or it was not there
    pub was_in : F (rows (changed_at g f t)) ≡ None → (F (rows t) ≡ F (rows b)) × (F (rows (f b)) ≡ None)
    was_in off =
        let c = rows_change rows rows_all are g f t b there (keeps ∙ found_id g t b there) in
        let outer = none_parts c.front (rows (f b) ++ c.back) (ap F (sym c.now) ∙ off) in
        let inner = none_parts (rows (f b)) c.back outer.1 in
        (ap F c.was ∙ alone c.front (rows b) c.back outer.0 inner.1, inner.0)

    -- what was not found before is in the group that was changed, or it is not there
    pub now_in : F (rows t) ≡ None → (F (rows (changed_at g f t)) ≡ F (rows (f b))) × (F (rows b) ≡ None)
    now_in off =
        let c = rows_change rows rows_all are g f t b there (keeps ∙ found_id g t b there) in
        let outer = none_parts c.front (rows b ++ c.back) (ap F (sym c.was) ∙ off) in
        let inner = none_parts (rows b) c.back outer.1 in
        (ap F c.now ∙ alone c.front (rows (f b)) c.back outer.0 inner.1, inner.0)

  last_found : (w : Tree) (ts : Trees) → F (rows_all ts) ≡ None → F (rows_all (with_last w ts)) ≡ F (rows w)
  last_found w none off = ap F (are.at_beside w none ∙ ap (λ xs. rows w ++ xs) are.at_none) ∙ find_append q (rows w) [] ∙ or_none (F (rows w))
  last_found w (beside t ts) off =
      let both = none_parts (rows t) (rows_all ts) (ap F (sym (are.at_beside t ts)) ∙ off) in
      ap F (are.at_beside t (with_last w ts)) ∙ find_append q (rows t) (rows_all (with_last w ts)) ∙ ap (λ o. or_else o (F (rows_all (with_last w ts)))) both.0 ∙ last_found w ts both.1

  but_found : (u : NodeId) (c : Tree) (ts : Trees) → own_group u ts ≡ Some c → F (rows_all (but_group u ts)) ≡ None → F (rows_all ts) ≡ F (rows c)
  but_found u c none own off = never c own
  but_found u c (beside t ts) own off =
      elim (decide (is_id (id_of t) u)) [
        | inl p ↦
            let same : t ≡ c = same_Some t c (ap (λ b. cond b (Some t) (own_group u ts)) (sym p) ∙ own) in
            let rest : F (rows_all ts) ≡ None = ap (λ b. F (rows_all (cond b ts (beside t (but_group u ts))))) (sym p) ∙ off in
            ap F (are.at_beside t ts) ∙ find_append q (rows t) (rows_all ts) ∙ ap (or_else (F (rows t))) rest ∙ or_none (F (rows t)) ∙ ap (λ w. F (rows w)) same
        | inr p ↦
            let made : F (rows_all (beside t (but_group u ts))) ≡ None = ap (λ b. F (rows_all (cond b ts (beside t (but_group u ts))))) (sym p) ∙ off in
            let both = none_parts (rows t) (rows_all (but_group u ts)) (ap F (sym (are.at_beside t (but_group u ts))) ∙ made) in
            ap F (are.at_beside t ts) ∙ find_append q (rows t) (rows_all ts) ∙ ap (λ o. or_else o (F (rows_all ts))) both.0
            ∙ but_found u c ts (ap (λ b. cond b (Some t) (own_group u ts)) (sym p) ∙ own) both.1
      ]

-- ---- the rows of a group with one group more, and of one with one group less

module _ (q : NodeId) where
  pub put_entries : (w b : Tree) → find id_cmp q (entry_rows b) ≡ None → find id_cmp q (entry_rows (with_group w b)) ≡ find id_cmp q (entry_rows w)
  put_entries w (node v r es ts) off =
      let both = none_parts entry_rows entry_rows_all entries_rows q es (entry_rows_all ts) off in
      find_append q es (entry_rows_all (with_last w ts)) ∙ ap (λ o. or_else o (find id_cmp q (entry_rows_all (with_last w ts)))) both.0 ∙ last_found entry_rows entry_rows_all entries_rows q w ts both.1

  pub put_groups : (w b : Tree) → find id_cmp q (group_rows b) ≡ None → find id_cmp q (group_rows (with_group w b)) ≡ find id_cmp q (group_rows w)
  put_groups w (node v r es ts) off =
      let both = none_parts group_rows group_rows_all groups_rows q ((v, r) ∷ []) (group_rows_all ts) off in
      find_append q ((v, r) ∷ []) (group_rows_all (with_last w ts)) ∙ ap (λ o. or_else o (find id_cmp q (group_rows_all (with_last w ts)))) both.0 ∙ last_found group_rows group_rows_all groups_rows q w ts both.1

  other_key : {X : Type 0} (v : NodeId) (x : X) → find id_cmp q ((v, x) ∷ []) ≡ None → is_id q v ≡ false
  other_key v x off = is_false (is_id q v) (λ p. never x (sym off ∙ ap (λ b. cond b (Some x) None) p))

  pub put_lists : (w b : Tree) → find id_cmp q (child_rows b) ≡ None → find id_cmp q (child_rows (with_group w b)) ≡ find id_cmp q (child_rows w)
  put_lists w (node v r es ts) off =
      let own : Children = record { entries = keys es; groups = ids_of ts } in
      let both = none_parts child_rows child_rows_all children_rows q ((v, own) ∷ []) (child_rows_all ts) off in
      passed q (v, record { entries = keys es; groups = ids_of (with_last w ts) }) (child_rows_all (with_last w ts)) (other_key v own both.0) ∙ last_found child_rows child_rows_all children_rows q w ts both.1

  module _ (u : NodeId) (c : Tree) where
    pub take_entries : (b : Tree) → child_with u b ≡ Some c → find id_cmp q (entry_rows (without_group u b)) ≡ None → find id_cmp q (entry_rows b) ≡ find id_cmp q (entry_rows c)
    take_entries (node v r es ts) own off =
        let both = none_parts entry_rows entry_rows_all entries_rows q es (entry_rows_all (but_group u ts)) off in
        find_append q es (entry_rows_all ts) ∙ ap (λ o. or_else o (find id_cmp q (entry_rows_all ts))) both.0 ∙ but_found entry_rows entry_rows_all entries_rows q u c ts own both.1

    pub take_groups : (b : Tree) → child_with u b ≡ Some c → find id_cmp q (group_rows (without_group u b)) ≡ None → find id_cmp q (group_rows b) ≡ find id_cmp q (group_rows c)
    take_groups (node v r es ts) own off =
        let both = none_parts group_rows group_rows_all groups_rows q ((v, r) ∷ []) (group_rows_all (but_group u ts)) off in
        find_append q ((v, r) ∷ []) (group_rows_all ts) ∙ ap (λ o. or_else o (find id_cmp q (group_rows_all ts))) both.0 ∙ but_found group_rows group_rows_all groups_rows q u c ts own both.1

    pub take_lists : (b : Tree) → child_with u b ≡ Some c → find id_cmp q (child_rows (without_group u b)) ≡ None → find id_cmp q (child_rows b) ≡ find id_cmp q (child_rows c)
    take_lists (node v r es ts) own off =
        let less : Children = record { entries = keys es; groups = ids_of (but_group u ts) } in
        let both = none_parts child_rows child_rows_all children_rows q ((v, less) ∷ []) (child_rows_all (but_group u ts)) off in
        passed q (v, record { entries = keys es; groups = ids_of ts }) (child_rows_all ts) (other_key v less both.0) ∙ but_found child_rows child_rows_all children_rows q u c ts own both.1
