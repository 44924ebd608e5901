-- A document with a group put in, or with one taken out, is a document.
use Rattle.std.proofs.Common.{◌≡◌, ◌≤◌, ◌+◌, Bool, true, cond, inl, inr, ◌++◌, Some, refl, sym, ap, ◌∙◌, arith, append_assoc, append-nil}
use Rattle.std.proofs.lemmas.Option.{same_Some}
use Rattle.std.specs.List.{list_all}
use Rattle.vault_model.specs.declared.nodes.Tombstone.{Tombstone}
use Rattle.vault_model.specs.Db.{NodeId, nil_id}
use Rattle.vault_model.specs.Join.{is_id}
use Rattle.vault_model.specs.Proper.{is_proper_group_content}
use Rattle.vault_model.specs.Shape.{EntryRecord, GroupRecord}
use Rattle.vault_model.specs.Tree.{BareDoc, IsDoc, LEVELS, Tree, Trees, beside, entry_rows, entry_rows_all, group_rows, group_rows_all, height, height_all, id_of, is_elsewhere, is_proper_entry, node, node_ids, node_ids_all, none}
use Rattle.vault_model.proofs.Tests.{and_both, and_true, decide}
use Rattle.tree_core.proofs.Options.{never}
use Rattle.tree_core.specs.Changes.{but_group, changed_at, child_with, group_with, level_of, own_group, with_group, with_last, without_group}
use Rattle.tree_core.proofs.Around.{all_change, entries_rows, found_id, groups_rows, ids_rows, no_higher, occurs_change, rows_change}
use Rattle.tree_core.proofs.Changed.{changed_by}
use Rattle.tree_core.proofs.Counted.{all_append, all_both, all_front, distinct, elsewhere_occurs, occurs, occurs-append, occurs_elsewhere, once}
use Rattle.tree_core.proofs.GroupMoves.{put_height}
use Rattle.tree_core.proofs.Rows.{keys}

abbrev proper_entry : NodeId × EntryRecord → Bool
proper_entry r = is_proper_entry r.1

abbrev proper_group : NodeId × GroupRecord → Bool
proper_group r = is_proper_group_content r.1.state.content

-- ---- a group more at the end

last_ids : (w : Tree) (ts : Trees) → node_ids_all (with_last w ts) ≡ node_ids_all ts ++ node_ids w
last_ids w none = append-nil (node_ids w)
last_ids w (beside t ts) = ap (λ xs. node_ids t ++ xs) (last_ids w ts) ∙ sym (append_assoc (node_ids t) (node_ids_all ts) (node_ids w))

last_entries : (w : Tree) (ts : Trees) → entry_rows_all (with_last w ts) ≡ entry_rows_all ts ++ entry_rows w
last_entries w none = append-nil (entry_rows w)
last_entries w (beside t ts) = ap (λ xs. entry_rows t ++ xs) (last_entries w ts) ∙ sym (append_assoc (entry_rows t) (entry_rows_all ts) (entry_rows w))

last_groups : (w : Tree) (ts : Trees) → group_rows_all (with_last w ts) ≡ group_rows_all ts ++ group_rows w
last_groups w none = append-nil (group_rows w)
last_groups w (beside t ts) = ap (λ xs. group_rows t ++ xs) (last_groups w ts) ∙ sym (append_assoc (group_rows t) (group_rows_all ts) (group_rows w))

pub put_root : (w t : Tree) → id_of (with_group w t) ≡ id_of t
put_root w (node v r es ts) = refl

put_counts : (x : NodeId) (w t : Tree) → occurs x (node_ids (with_group w t)) ≡ occurs x (node_ids t) + occurs x (node_ids w)
put_counts x w (node v r es ts) =
    let now = ap (λ xs. occurs x (keys es ++ xs)) (last_ids w ts) in
    let now2 = occurs-append x (keys es) (node_ids_all ts ++ node_ids w) in
    let now3 = occurs-append x (node_ids_all ts) (node_ids w) in
    let was = occurs-append x (keys es) (node_ids_all ts) in
    omega (arith, now, now2, now3, was)

put_entries : (test : NodeId × EntryRecord → Bool) (w t : Tree) → list_all test (entry_rows w) ≡ true → list_all test (entry_rows t) ≡ true → list_all test (entry_rows (with_group w t)) ≡ true
put_entries test w (node v r es ts) more all =
    let parts = all_front test es (entry_rows_all ts) all in
    all_append test es (entry_rows_all (with_last w ts)) parts.0 (ap (list_all test) (last_entries w ts) ∙ all_append test (entry_rows_all ts) (entry_rows w) parts.1 more)

put_groups : (test : NodeId × GroupRecord → Bool) (w t : Tree) → list_all test (group_rows w) ≡ true → list_all test (group_rows t) ≡ true → list_all test (group_rows (with_group w t)) ≡ true
put_groups test w (node v r es ts) more all =
    let parts = and_true (test (v, r)) (list_all test (group_rows_all ts)) all in
    and_both (test (v, r)) (list_all test (group_rows_all (with_last w ts))) parts.0 (ap (list_all test) (last_groups w ts) ∙ all_append test (group_rows_all ts) (group_rows w) parts.1 more)

module _ (d : BareDoc) (is : IsDoc d) (g : NodeId) (w b : Tree) (there : group_with g d.tree ≡ Some b) where
  abbrev new : Tree
  new = changed_at g (with_group w) d.tree

  stays : id_of (with_group w b) ≡ g
  stays = put_root w b ∙ found_id g d.tree b there

  counted : (x : NodeId) → occurs x (node_ids new) ≡ occurs x (node_ids d.tree) + occurs x (node_ids w)
  counted x =
      let change = occurs_change x d.tree new b (with_group w b) (rows_change node_ids node_ids_all ids_rows g (with_group w) d.tree b there stays) in
      let more = put_counts x w b in
      omega (arith, change, more)

  -- a group put in: its ids are new and not nil, no tombstone names one, all in it is in order, and no level passes the limit
  pub put_is_doc : ((x : NodeId) → occurs x (node_ids d.tree) + occurs x (node_ids w) ≤ 1) → is_elsewhere w nil_id ≡ true → list_all (λ (t : Tombstone). is_elsewhere w t.id) d.tombs ≡ true
      → list_all proper_entry (entry_rows w) ≡ true → list_all proper_group (group_rows w) ≡ true → level_of g d.tree + height w ≤ LEVELS → IsDoc (record d { tree = new })
  put_is_doc apart no_nil off_tombs entries groups fits =
      let off : (x : NodeId) → is_elsewhere d.tree x ≡ true → is_elsewhere w x ≡ true → is_elsewhere new x ≡ true =
      λ x p q. (let now = counted x in let a = elsewhere_occurs d.tree x p in let c = elsewhere_occurs w x q in let zero : occurs x (node_ids new) ≡ 0 = omega (arith, now, a, c) in occurs_elsewhere new x zero) in
      record {
        distinct = distinct (node_ids new) (λ x. let now = counted x in let most = apart x in omega (arith, now, most));
        no_nil = off nil_id is.no_nil no_nil;
        levels = (let most = is.levels in let up = put_height g w d.tree in omega (arith, most, up, fits));
        tombs_rise = is.tombs_rise;
        tombs_apart = all_both (λ (t : Tombstone). is_elsewhere d.tree t.id) (λ (t : Tombstone). is_elsewhere w t.id) (λ (t : Tombstone). is_elsewhere new t.id) d.tombs (λ t. off t.id) is.tombs_apart off_tombs;
        entries_proper = all_change entry_rows proper_entry d.tree new b (with_group w b) (rows_change entry_rows entry_rows_all entries_rows g (with_group w) d.tree b there stays) is.entries_proper (put_entries proper_entry w b entries);
        groups_proper = all_change group_rows proper_group d.tree new b (with_group w b) (rows_change group_rows group_rows_all groups_rows g (with_group w) d.tree b there stays) is.groups_proper (put_groups proper_group w b groups);
        icons_rise = is.icons_rise;
        items_rise = is.items_rise;
        meta_texts = is.meta_texts;
      }

-- ---- a group less

but_ids : (x u : NodeId) (c : Tree) (ts : Trees) → own_group u ts ≡ Some c → occurs x (node_ids_all (but_group u ts)) + occurs x (node_ids c) ≡ occurs x (node_ids_all ts)
but_ids x u c none h = never c h
but_ids x u c (beside t ts) h =
    let all = occurs-append x (node_ids t) (node_ids_all ts) in
    elim (decide (is_id (id_of t) u)) [
      | inl p ↦
          let same = ap (λ y. occurs x (node_ids y)) (same_Some t c (ap (λ b. cond b (Some t) (own_group u ts)) (sym p) ∙ h)) in
          let now = ap (λ b. occurs x (node_ids_all (cond b ts (beside t (but_group u ts))))) p in
          omega (arith, all, same, now)
      | inr p ↦
          let rest = but_ids x u c ts (ap (λ b. cond b (Some t) (own_group u ts)) (sym p) ∙ h) in
          let now = ap (λ b. occurs x (node_ids_all (cond b ts (beside t (but_group u ts))))) p in
          let split = occurs-append x (node_ids t) (node_ids_all (but_group u ts)) in
          omega (arith, all, rest, now, split)
    ]

pub take_counts : (x u : NodeId) (c t : Tree) → child_with u t ≡ Some c → occurs x (node_ids (without_group u t)) + occurs x (node_ids c) ≡ occurs x (node_ids t)
take_counts x u c (node v r es ts) h =
    let less = but_ids x u c ts h in
    let now = occurs-append x (keys es) (node_ids_all (but_group u ts)) in
    let was = occurs-append x (keys es) (node_ids_all ts) in
    omega (arith, less, now, was)

but_entries : (test : NodeId × EntryRecord → Bool) (u : NodeId) (ts : Trees) → list_all test (entry_rows_all ts) ≡ true → list_all test (entry_rows_all (but_group u ts)) ≡ true
but_entries test u none all = refl
but_entries test u (beside t ts) all =
    let parts = all_front test (entry_rows t) (entry_rows_all ts) all in
    elim (decide (is_id (id_of t) u)) [
      | inl p ↦ ap (λ b. list_all test (entry_rows_all (cond b ts (beside t (but_group u ts))))) p ∙ parts.1
      | inr p ↦ ap (λ b. list_all test (entry_rows_all (cond b ts (beside t (but_group u ts))))) p ∙ all_append test (entry_rows t) (entry_rows_all (but_group u ts)) parts.0 (but_entries test u ts parts.1)
    ]

but_groups : (test : NodeId × GroupRecord → Bool) (u : NodeId) (ts : Trees) → list_all test (group_rows_all ts) ≡ true → list_all test (group_rows_all (but_group u ts)) ≡ true
but_groups test u none all = refl
but_groups test u (beside t ts) all =
    let parts = all_front test (group_rows t) (group_rows_all ts) all in
    elim (decide (is_id (id_of t) u)) [
      | inl p ↦ ap (λ b. list_all test (group_rows_all (cond b ts (beside t (but_group u ts))))) p ∙ parts.1
      | inr p ↦ ap (λ b. list_all test (group_rows_all (cond b ts (beside t (but_group u ts))))) p ∙ all_append test (group_rows t) (group_rows_all (but_group u ts)) parts.0 (but_groups test u ts parts.1)
    ]

but_height : (u : NodeId) (ts : Trees) → height_all (but_group u ts) ≤ height_all ts
but_height u none = omega arith
but_height u (beside t ts) =
    let rest = but_height u ts in
    elim (decide (is_id (id_of t) u)) [
      | inl p ↦ let now = ap (λ b. height_all (cond b ts (beside t (but_group u ts)))) p in omega (arith, rest, now)
      | inr p ↦ let now = ap (λ b. height_all (cond b ts (beside t (but_group u ts)))) p in omega (arith, rest, now)
    ]

pub take_root : (u : NodeId) (t : Tree) → id_of (without_group u t) ≡ id_of t
take_root u (node v r es ts) = refl

take_height : (u : NodeId) (t : Tree) → height (without_group u t) ≤ height t
take_height u (node v r es ts) = let less = but_height u ts in omega (arith, less)

take_entries : (test : NodeId × EntryRecord → Bool) (u : NodeId) (t : Tree) → list_all test (entry_rows t) ≡ true → list_all test (entry_rows (without_group u t)) ≡ true
take_entries test u (node v r es ts) all =
    let parts = all_front test es (entry_rows_all ts) all in
    all_append test es (entry_rows_all (but_group u ts)) parts.0 (but_entries test u ts parts.1)

take_groups : (test : NodeId × GroupRecord → Bool) (u : NodeId) (t : Tree) → list_all test (group_rows t) ≡ true → list_all test (group_rows (without_group u t)) ≡ true
take_groups test u (node v r es ts) all =
    let parts = and_true (test (v, r)) (list_all test (group_rows_all ts)) all in
    and_both (test (v, r)) (list_all test (group_rows_all (but_group u ts))) parts.0 (but_groups test u ts parts.1)

module _ (d : BareDoc) (is : IsDoc d) (g u : NodeId) (c b : Tree) (there : group_with g d.tree ≡ Some b) (own : child_with u b ≡ Some c) where
  abbrev rest : Tree
  rest = changed_at g (without_group u) d.tree

  keeps : id_of (without_group u b) ≡ g
  keeps = take_root u b ∙ found_id g d.tree b there

  pub counted_less : (x : NodeId) → occurs x (node_ids rest) + occurs x (node_ids c) ≡ occurs x (node_ids d.tree)
  counted_less x =
      let change = occurs_change x d.tree rest b (without_group u b) (rows_change node_ids node_ids_all ids_rows g (without_group u) d.tree b there keeps) in
      let less = take_counts x u c b own in
      omega (arith, change, less)

  pub take_is_doc : IsDoc (record d { tree = rest })
  take_is_doc =
      let off : (x : NodeId) → is_elsewhere d.tree x ≡ true → is_elsewhere rest x ≡ true =
      λ x p. (let now = counted_less x in let a = elsewhere_occurs d.tree x p in let zero : occurs x (node_ids rest) ≡ 0 = omega (arith, now, a) in occurs_elsewhere rest x zero) in
      record {
        distinct = distinct (node_ids rest) (λ x. let now = counted_less x in let most = once (node_ids d.tree) is.distinct x in omega (arith, now, most));
        no_nil = off nil_id is.no_nil;
        levels = (
            let by = ap height (changed_by g (without_group u) d.tree b there) in
            let lower = no_higher g (without_group u b) d.tree b there (take_height u b) in
            let most = is.levels in
            omega (arith, by, lower, most));
        tombs_rise = is.tombs_rise;
        tombs_apart = all_both (λ (t : Tombstone). is_elsewhere d.tree t.id) (λ (t : Tombstone). is_elsewhere d.tree t.id) (λ (t : Tombstone). is_elsewhere rest t.id) d.tombs (λ t p q. off t.id p) is.tombs_apart is.tombs_apart;
        entries_proper = all_change entry_rows proper_entry d.tree rest b (without_group u b) (rows_change entry_rows entry_rows_all entries_rows g (without_group u) d.tree b there keeps) is.entries_proper (take_entries proper_entry u b);
        groups_proper = all_change group_rows proper_group d.tree rest b (without_group u b) (rows_change group_rows group_rows_all groups_rows g (without_group u) d.tree b there keeps) is.groups_proper (take_groups proper_group u b);
        icons_rise = is.icons_rise;
        items_rise = is.items_rise;
        meta_texts = is.meta_texts;
      }
