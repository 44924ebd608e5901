-- Trees without what is hidden, changed in the same way.
use Rattle.std.proofs.Common.{◌≡◌, ◌||◌, ℕ, suc, max, Bool, true, false, not, ◌&&◌, cond, List, [], ◌∷◌, ◌++◌, Option, None, Some, is_some, map, refl, sym, ap, ◌∙◌}
use Rattle.std.specs.List.{find, list_all, list_any}
use Rattle.std.specs.Option.{option_and_then, option_map}
use Rattle.vault_model.specs.declared.nodes.Tombstone.{Tombstone}
use Rattle.vault_model.specs.Bare.{BareField}
use Rattle.vault_model.specs.Db.{NodeId, greatest, nil_id}
use Rattle.vault_model.specs.Join.{is_id}
use Rattle.vault_model.specs.SeenNodes.{entry_time}
use Rattle.vault_model.specs.Shape.{BareVersion, EntryRecord}
use Rattle.vault_model.specs.Tree.{BareDoc, Tree, Trees, beside, entry_rows, group_rows, height, height_all, id_of, node, node_ids, node_ids_all, none}
use Rattle.vault_model.proofs.Tests.{map_append, map_map}
use Rattle.tree_core.specs.Changes.{but_group, changed_at, changed_in, entries_buried, entry_at, entry_moved, group_among, group_moved, group_with, groups_buried, has_group, have_group, holder, holder_among, is_free, level_among, level_of, moved_entry, moved_group, own_entry, own_group, parent_among, parent_of, placed_of, tomb_at, tree_buried, with_entry, with_group, with_last, with_tomb, without, without_entry, without_group}
use Rattle.tree_core.specs.Finding.{or_else}
use Rattle.noninterference_laws.specs.Masks.{ShowsTitles, mask, mask_entry, mask_row, mask_tree, mask_trees, mask_version}
use Rattle.noninterference_laws.proofs.Screens.{groups_same, rows_same}

module _ (p : BareField → Bool) (titles : ShowsTitles p) where
  -- ---- choices

  cond_mask : {A B : Type 0} (f : A → B) (b : Bool) (x y : A) (x' y' : B) → x' ≡ f x → y' ≡ f y → cond b x' y' ≡ f (cond b x y)
  cond_mask f true x y x' y' p q = p
  cond_mask f false x y x' y' p q = q

  or_map : {A B : Type 0} (f : A → B) (a b : Option A) → or_else (option_map f a) (option_map f b) ≡ option_map f (or_else a b)
  or_map f None b = refl
  or_map f (Some x) b = refl

  some_map : {A B : Type 0} (f : A → B) (o : Option A) → is_some (option_map f o) ≡ is_some o
  some_map f None = refl
  some_map f (Some x) = refl

  -- ---- what is asked of a tree

  pub id_mask : (t : Tree) → id_of (mask_tree p t) ≡ id_of t
  id_mask (node v r es ts) = refl

  keys_mask : (es : List (NodeId × EntryRecord)) → map (λ (e : NodeId × EntryRecord). e.0) (map (mask_row p) es) ≡ map (λ (e : NodeId × EntryRecord). e.0) es
  keys_mask es = map_map (mask_row p) (λ (e : NodeId × EntryRecord). e.0) es

  mutual
    pub has_mask : (u : NodeId) (t : Tree) → has_group u (mask_tree p t) ≡ has_group u t
    has_mask u (node v r es ts) = ap (λ b. is_id v u || b) (have_mask u ts)

    have_mask : (u : NodeId) (ts : Trees) → have_group u (mask_trees p ts) ≡ have_group u ts
    have_mask u none = refl
    have_mask u (beside t ts) = λ i. has_mask u t i || have_mask u ts i

  mutual
    pub level_mask : (u : NodeId) (t : Tree) → level_of u (mask_tree p t) ≡ level_of u t
    level_mask u (node v r es ts) = ap (λ n. cond (is_id v u) 1 (suc n)) (levels_mask u ts)

    levels_mask : (u : NodeId) (ts : Trees) → level_among u (mask_trees p ts) ≡ level_among u ts
    levels_mask u none = refl
    levels_mask u (beside t ts) = λ i. cond (has_mask u t i) (level_mask u t i) (levels_mask u ts i)

  mutual
    pub height_mask : (t : Tree) → height (mask_tree p t) ≡ height t
    height_mask (node v r es ts) = ap (λ n. suc n) (heights_mask ts)

    heights_mask : (ts : Trees) → height_all (mask_trees p ts) ≡ height_all ts
    heights_mask none = refl
    heights_mask (beside t ts) = λ i. max (height_mask t i) (heights_mask ts i)

  mutual
    ids_mask : (t : Tree) → node_ids (mask_tree p t) ≡ node_ids t
    ids_mask (node v r es ts) = λ i. v ∷ (keys_mask es i ++ all_ids_mask ts i)

    all_ids_mask : (ts : Trees) → node_ids_all (mask_trees p ts) ≡ node_ids_all ts
    all_ids_mask none = refl
    all_ids_mask (beside t ts) = λ i. ids_mask t i ++ all_ids_mask ts i

  pub free_mask : (u : NodeId) (d : BareDoc) → is_free u (mask p d) ≡ is_free u d
  free_mask u d = ap (λ us. (not (is_id nil_id u) && not (list_any (is_id u) us)) && list_all (λ (t : Tombstone). not (is_id t.id u)) d.tombs) (ids_mask d.tree)

  -- ---- what is found in a tree

  pub find_mask : (u : NodeId) (es : List (NodeId × EntryRecord)) → find (λ (e : NodeId × EntryRecord). is_id e.0 u) (map (mask_row p) es) ≡ option_map (mask_row p) (find (λ (e : NodeId × EntryRecord). is_id e.0 u) es)
  find_mask u [] = refl
  find_mask u (e ∷ es) = cond_mask (option_map (mask_row p)) (is_id e.0 u) (Some e) (find (λ (x : NodeId × EntryRecord). is_id x.0 u) es) (Some (mask_row p e)) (find (λ (x : NodeId × EntryRecord). is_id x.0 u) (map (mask_row p) es)) refl (find_mask u es)

  mutual
    pub holder_mask : (u : NodeId) (t : Tree) → holder u (mask_tree p t) ≡ holder u t
    holder_mask u (node v r es ts) = λ i. cond ((ap is_some (find_mask u es) ∙ some_map (mask_row p) (find (λ (e : NodeId × EntryRecord). is_id e.0 u) es)) i) (Some v) (holders_mask u ts i)

    holders_mask : (u : NodeId) (ts : Trees) → holder_among u (mask_trees p ts) ≡ holder_among u ts
    holders_mask u none = refl
    holders_mask u (beside t ts) = λ i. or_else (holder_mask u t i) (holders_mask u ts i)

  mutual
    pub group_mask : (u : NodeId) (t : Tree) → group_with u (mask_tree p t) ≡ option_map (mask_tree p) (group_with u t)
    group_mask u (node v r es ts) = cond_mask (option_map (mask_tree p)) (is_id v u) (Some (node v r es ts)) (group_among u ts) (Some (mask_tree p (node v r es ts))) (group_among u (mask_trees p ts)) refl (among_mask u ts)

    among_mask : (u : NodeId) (ts : Trees) → group_among u (mask_trees p ts) ≡ option_map (mask_tree p) (group_among u ts)
    among_mask u none = refl
    among_mask u (beside t ts) =
        ap (λ b. cond b (group_with u (mask_tree p t)) (group_among u (mask_trees p ts))) (has_mask u t)
        ∙ cond_mask (option_map (mask_tree p)) (has_group u t) (group_with u t) (group_among u ts) (group_with u (mask_tree p t)) (group_among u (mask_trees p ts)) (group_mask u t) (among_mask u ts)

  own_mask : (u : NodeId) (t : Tree) → own_entry u (mask_tree p t) ≡ option_map (mask_row p) (own_entry u t)
  own_mask u (node v r es ts) = find_mask u es

  pub entry_mask : (g u : NodeId) (t : Tree) → entry_at g u (mask_tree p t) ≡ option_map (mask_row p) (entry_at g u t)
  entry_mask g u t = ap (option_and_then (own_entry u)) (group_mask g t) ∙ of (group_with g t)
    where
      of : (o : Option Tree) → option_and_then (own_entry u) (option_map (mask_tree p) o) ≡ option_map (mask_row p) (option_and_then (own_entry u) o)
      of None = refl
      of (Some b) = own_mask u b

  child_mask : (u : NodeId) (ts : Trees) → own_group u (mask_trees p ts) ≡ option_map (mask_tree p) (own_group u ts)
  child_mask u none = refl
  child_mask u (beside t ts) =
      ap (λ v. cond (is_id v u) (Some (mask_tree p t)) (own_group u (mask_trees p ts))) (id_mask t)
      ∙ cond_mask (option_map (mask_tree p)) (is_id (id_of t) u) (Some t) (own_group u ts) (Some (mask_tree p t)) (own_group u (mask_trees p ts)) refl (child_mask u ts)

  mutual
    pub parent_mask : (u : NodeId) (t : Tree) → parent_of u (mask_tree p t) ≡ parent_of u t
    parent_mask u (node v r es ts) = λ i. cond ((ap is_some (child_mask u ts) ∙ some_map (mask_tree p) (own_group u ts)) i) (Some v) (parents_mask u ts i)

    parents_mask : (u : NodeId) (ts : Trees) → parent_among u (mask_trees p ts) ≡ parent_among u ts
    parents_mask u none = refl
    parents_mask u (beside t ts) = λ i. or_else (parent_mask u t i) (parents_mask u ts i)

  pub placed_mask : (t : Tree) → placed_of (mask_tree p t) ≡ placed_of t
  placed_mask (node v r es ts) = refl

  -- ---- one group changed

  module _ (g : NodeId) (f f' : Tree → Tree) (same : (b : Tree) → f' (mask_tree p b) ≡ mask_tree p (f b)) where
    mutual
      pub changed_mask : (t : Tree) → changed_at g f' (mask_tree p t) ≡ mask_tree p (changed_at g f t)
      changed_mask (node v r es ts) = cond_mask (mask_tree p) (is_id v g) (f (node v r es ts)) (node v r es (changed_in g f ts)) (f' (mask_tree p (node v r es ts))) (node v r (map (mask_row p) es) (changed_in g f' (mask_trees p ts)))
          (same (node v r es ts)) (ap (node v r (map (mask_row p) es)) (changes_mask ts))

      changes_mask : (ts : Trees) → changed_in g f' (mask_trees p ts) ≡ mask_trees p (changed_in g f ts)
      changes_mask none = refl
      changes_mask (beside t ts) =
          ap (λ b. cond b (beside (changed_at g f' (mask_tree p t)) (mask_trees p ts)) (beside (mask_tree p t) (changed_in g f' (mask_trees p ts)))) (has_mask g t)
          ∙ cond_mask (mask_trees p) (has_group g t) (beside (changed_at g f t) ts) (beside t (changed_in g f ts)) (beside (changed_at g f' (mask_tree p t)) (mask_trees p ts)) (beside (mask_tree p t) (changed_in g f' (mask_trees p ts)))
          (ap (λ w. beside w (mask_trees p ts)) (changed_mask t)) (ap (beside (mask_tree p t)) (changes_mask ts))

  put_mask : (x : NodeId × EntryRecord) (b : Tree) → with_entry (mask_row p x) (mask_tree p b) ≡ mask_tree p (with_entry x b)
  put_mask x (node v r es ts) = ap (λ xs. node v r xs (mask_trees p ts)) (sym (map_append (mask_row p) es (x ∷ [])))

  without_mask : (u : NodeId) (es : List (NodeId × EntryRecord)) → without u (map (mask_row p) es) ≡ map (mask_row p) (without u es)
  without_mask u [] = refl
  without_mask u (e ∷ es) = cond_mask (map (mask_row p)) (is_id e.0 u) es (e ∷ without u es) (map (mask_row p) es) (mask_row p e ∷ without u (map (mask_row p) es)) refl (ap (λ xs. (mask_row p) e ∷ xs) (without_mask u es))

  take_mask : (u : NodeId) (b : Tree) → without_entry u (mask_tree p b) ≡ mask_tree p (without_entry u b)
  take_mask u (node v r es ts) = ap (λ xs. node v r xs (mask_trees p ts)) (without_mask u es)

  last_mask : (w : Tree) (ts : Trees) → with_last (mask_tree p w) (mask_trees p ts) ≡ mask_trees p (with_last w ts)
  last_mask w none = refl
  last_mask w (beside t ts) = ap (beside (mask_tree p t)) (last_mask w ts)

  pub put_group_mask : (w b : Tree) → with_group (mask_tree p w) (mask_tree p b) ≡ mask_tree p (with_group w b)
  put_group_mask w (node v r es ts) = ap (node v r (map (mask_row p) es)) (last_mask w ts)

  but_mask : (u : NodeId) (ts : Trees) → but_group u (mask_trees p ts) ≡ mask_trees p (but_group u ts)
  but_mask u none = refl
  but_mask u (beside t ts) =
      ap (λ v. cond (is_id v u) (mask_trees p ts) (beside (mask_tree p t) (but_group u (mask_trees p ts)))) (id_mask t)
      ∙ cond_mask (mask_trees p) (is_id (id_of t) u) ts (beside t (but_group u ts)) (mask_trees p ts) (beside (mask_tree p t) (but_group u (mask_trees p ts))) refl (ap (beside (mask_tree p t)) (but_mask u ts))

  pub take_group_mask : (u : NodeId) (b : Tree) → without_group u (mask_tree p b) ≡ mask_tree p (without_group u b)
  take_group_mask u (node v r es ts) = ap (node v r (map (mask_row p) es)) (but_mask u ts)

  moved_mask : (from : NodeId) (time : ℕ) (t : Tree) → moved_group from time (mask_tree p t) ≡ mask_tree p (moved_group from time t)
  moved_mask from time (node v r es ts) = refl

  -- ---- nodes that are moved and removed

  pub entry_moved_mask : (from to : NodeId) (time : ℕ) (x : NodeId × EntryRecord) (t : Tree) → entry_moved from to time (mask_row p x) (mask_tree p t) ≡ mask_tree p (entry_moved from to time x t)
  entry_moved_mask from to time x t =
      ap (changed_at to (with_entry (mask_row p (x.0, moved_entry from time x.1)))) (changed_mask from (without_entry x.0) (without_entry x.0) (take_mask x.0) t)
      ∙ changed_mask to (with_entry (x.0, moved_entry from time x.1)) (with_entry (mask_row p (x.0, moved_entry from time x.1))) (put_mask (x.0, moved_entry from time x.1)) (changed_at from (without_entry x.0) t)

  pub group_moved_mask : (from to : NodeId) (time : ℕ) (c t : Tree) → group_moved from to time (mask_tree p c) (mask_tree p t) ≡ mask_tree p (group_moved from to time c t)
  group_moved_mask from to time c t =
      ap (λ v. changed_at to (with_group (moved_group from time (mask_tree p c))) (changed_at from (without_group v) (mask_tree p t))) (id_mask c)
      ∙ ap (λ w. changed_at to (with_group w) (changed_at from (without_group (id_of c)) (mask_tree p t))) (moved_mask from time c)
      ∙ ap (changed_at to (with_group (mask_tree p (moved_group from time c)))) (changed_mask from (without_group (id_of c)) (without_group (id_of c)) (take_group_mask (id_of c)) t)
      ∙ changed_mask to (with_group (moved_group from time c)) (with_group (mask_tree p (moved_group from time c))) (put_group_mask (moved_group from time c)) (changed_at from (without_group (id_of c)) t)

  pub entry_taken_mask : (from u : NodeId) (t : Tree) → changed_at from (without_entry u) (mask_tree p t) ≡ mask_tree p (changed_at from (without_entry u) t)
  entry_taken_mask from u t = changed_mask from (without_entry u) (without_entry u) (take_mask u) t

  pub group_taken_mask : (from u : NodeId) (t : Tree) → changed_at from (without_group u) (mask_tree p t) ≡ mask_tree p (changed_at from (without_group u) t)
  group_taken_mask from u t = changed_mask from (without_group u) (without_group u) (take_group_mask u) t

  pub group_put_mask : (to : NodeId) (w t : Tree) → changed_at to (with_group (mask_tree p w)) (mask_tree p t) ≡ mask_tree p (changed_at to (with_group w) t)
  group_put_mask to w t = changed_mask to (with_group w) (with_group (mask_tree p w)) (put_group_mask w) t

  -- ---- tombstones

  abbrev times : List BareVersion → List ℕ
  times vs = map (λ (v : BareVersion). v.mark.modified) vs

  pub time_mask : (e : EntryRecord) → entry_time (mask_entry p e) ≡ entry_time e
  time_mask e = ap (λ ns. greatest (e.current.mark.modified ∷ ns)) (map_map (mask_version p) (λ (v : BareVersion). v.mark.modified) e.history)

  buried_mask : (now : ℕ) (es : List (NodeId × EntryRecord)) (ts : List Tombstone) → entries_buried now (map (mask_row p) es) ts ≡ entries_buried now es ts
  buried_mask now [] ts = refl
  buried_mask now (e ∷ es) ts = λ i. with_tomb (tomb_at now e.0 (time_mask e.1 i)) (buried_mask now es ts i)

  pub entry_buried_mask : (now : ℕ) (x : NodeId × EntryRecord) (ts : List Tombstone) → entries_buried now (mask_row p x ∷ []) ts ≡ entries_buried now (x ∷ []) ts
  entry_buried_mask now x ts = buried_mask now (x ∷ []) ts

  pub tree_buried_mask : (now : ℕ) (t : Tree) (ts : List Tombstone) → tree_buried now (mask_tree p t) ts ≡ tree_buried now t ts
  tree_buried_mask now t ts = (λ i. entries_buried now (rows_same p titles t i) (groups_buried now (groups_same p titles t i) ts)) ∙ buried_mask now (entry_rows t) (groups_buried now (group_rows t) ts)
