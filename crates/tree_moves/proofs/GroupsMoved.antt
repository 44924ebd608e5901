-- A document with a group moved from one group to another is a document.
use Rattle.std.proofs.Common.{◌≡◌, ◌≤◌, ◌+◌, ℕ, Bool, true, false, cond, inl, inr, List, ◌++◌, MatchResult, Option, Result, Some, Ok, Err, IfSome, subst, refl, sym, ap, ◌∙◌, arith}
use Rattle.std.proofs.lemmas.Option.{same_Some}
use Rattle.std.specs.List.{list_all}
use Rattle.vault_model.specs.declared.nodes.Tombstone.{Tombstone}
use Rattle.vault_model.specs.Db.{NodeId, nil_id}
use Rattle.vault_model.specs.Join.{is_id}
use Rattle.vault_model.specs.Proper.{is_proper_group_content}
use Rattle.vault_model.specs.Shape.{EntryRecord, GroupRecord}
use Rattle.vault_model.specs.Tree.{BareDoc, IsDoc, LEVELS, Tree, Trees, beside, entry_rows, entry_rows_all, group_rows, group_rows_all, height, id_of, is_elsewhere, is_proper_entry, node, node_ids, none}
use Rattle.vault_model.proofs.Tests.{decide}
use Rattle.tree_core.specs.Changes.{changed_at, child_with, group_moved, has_group, level_of, moved_group, own_group, with_group, without_group}
use Rattle.tree_core.proofs.Around.{AreRows, entries_rows, found_group, found_id, groups_rows, rows_change}
use Rattle.tree_core.proofs.Counted.{all_both, all_front, elsewhere_occurs, occurs, occurs_elsewhere, once}
use Rattle.tree_core.proofs.GroupDocs.{counted_less, put_is_doc, take_is_doc}
use Rattle.tree_core.proofs.GroupMoves.{level_there, to_there}
use Rattle.tree_core.proofs.Options.{never}
use Rattle.tree_moves.proofs.GroupChildren.{found_child, found_child_id, off_goal}
use Rattle.tree_moves.specs.GroupPlaces.{group_at}

-- ---- what holds of all in a tree holds of all in a group of it

module _ {A : Type 0} (rows : Tree → List A) (rows_all : Trees → List A) (are : AreRows rows rows_all) (test : A → Bool) where
  own_all : (u : NodeId) (ts : Trees) (c : Tree) → own_group u ts ≡ Some c → list_all test (rows_all ts) ≡ true → list_all test (rows c) ≡ true
  own_all u none c h all = never c h
  own_all u (beside t ts) c h all =
      let parts = all_front test (rows t) (rows_all ts) (ap (list_all test) (sym (are.at_beside t ts)) ∙ all) in
      elim (decide (is_id (id_of t) u)) [
        | inl p ↦ ap (λ y. list_all test (rows y)) (sym (same_Some t c (ap (λ b. cond b (Some t) (own_group u ts)) (sym p) ∙ h))) ∙ parts.0
        | inr p ↦ own_all u ts c (ap (λ b. cond b (Some t) (own_group u ts)) (sym p) ∙ h) parts.1
      ]

  child_all : (u : NodeId) (b c : Tree) → child_with u b ≡ Some c → list_all test (rows b) ≡ true → list_all test (rows c) ≡ true
  child_all u (node v r es ts) c h all =
      own_all u ts c h (all_front test _ (rows_all ts) (ap (list_all test) (sym (are.at_node v r es ts)) ∙ all)).1

  pub found_all : (g u : NodeId) (t c : Tree) → group_at g u t ≡ Some c → list_all test (rows t) ≡ true → list_all test (rows c) ≡ true
  found_all g u t c there all =
      let f = found_child g u t c there in
      let change = rows_change rows rows_all are g (λ x. x) t f.0 f.1.0 (found_id g t f.0 f.1.0) in
      let outer = all_front test change.front (rows f.0 ++ change.back) (ap (list_all test) (sym change.was) ∙ all) in
      child_all u f.0 c f.1.1 (all_front test (rows f.0) change.back outer.1).0

-- ---- a group that is moved is the same but for its place

moved_ids : (from : NodeId) (time : ℕ) (g : Tree) → node_ids (moved_group from time g) ≡ node_ids g
moved_ids from time (node u r es ts) = refl

moved_height : (from : NodeId) (time : ℕ) (g : Tree) → height (moved_group from time g) ≡ height g
moved_height from time (node u r es ts) = refl

moved_entries : (from : NodeId) (time : ℕ) (g : Tree) → entry_rows (moved_group from time g) ≡ entry_rows g
moved_entries from time (node u r es ts) = refl

abbrev proper_entry : NodeId × EntryRecord → Bool
proper_entry r = is_proper_entry r.1

abbrev proper_group : NodeId × GroupRecord → Bool
proper_group r = is_proper_group_content r.1.state.content

moved_groups : (from : NodeId) (time : ℕ) (g : Tree) → list_all proper_group (group_rows (moved_group from time g)) ≡ list_all proper_group (group_rows g)
moved_groups from time (node u r es ts) = refl

-- ---- the document

module _ (d : BareDoc) (is : IsDoc d) (from to u : NodeId) (time : ℕ) (g : Tree) (has : has_group to d.tree ≡ true) (there : group_at from u d.tree ≡ Some g) (outside : has_group to g ≡ false)
    (fits : level_of to d.tree + height g ≤ LEVELS) where
  abbrev w : Tree
  w = moved_group from time g

  abbrev rest : Tree
  rest = changed_at from (without_group u) d.tree

  counted : (x : NodeId) → occurs x (node_ids rest) + occurs x (node_ids w) ≡ occurs x (node_ids d.tree)
  counted x =
      let f = found_child from u d.tree g there in
      let less = counted_less d is from u g f.0 f.1.0 f.1.1 x in
      let same = ap (occurs x) (moved_ids from time g) in
      omega (arith, less, same)

  off_moved : (x : NodeId) → is_elsewhere d.tree x ≡ true → is_elsewhere w x ≡ true
  off_moved x p =
      let all = counted x in
      let zero = elsewhere_occurs d.tree x p in
      let none_in : occurs x (node_ids w) ≡ 0 = omega (arith, all, zero) in
      occurs_elsewhere w x none_in

  taken : IsDoc (record d { tree = rest })
  taken = let f = found_child from u d.tree g there in take_is_doc d is from u g f.0 f.1.0 f.1.1

  by_id : IsDoc (record d { tree = changed_at to (with_group w) rest })
  by_id =
      let off = off_goal from to u d.tree g there outside in
      let goal = found_group to rest (to_there from to u d.tree off ∙ has) in
      put_is_doc (record d { tree = rest }) taken to w goal.0 goal.1
      (λ x. let all = counted x in let most = once (node_ids d.tree) is.distinct x in omega (arith, all, most))
      (off_moved nil_id is.no_nil)
      (all_both (λ (t : Tombstone). is_elsewhere d.tree t.id) (λ (t : Tombstone). is_elsewhere d.tree t.id) (λ (t : Tombstone). is_elsewhere w t.id) d.tombs (λ t p q. off_moved t.id p) is.tombs_apart is.tombs_apart)
      (ap (list_all proper_entry) (moved_entries from time g) ∙ found_all entry_rows entry_rows_all entries_rows proper_entry from u d.tree g there is.entries_proper)
      (moved_groups from time g ∙ found_all group_rows group_rows_all groups_rows proper_group from u d.tree g there is.groups_proper)
      (let level = level_there from to u d.tree off in let same = moved_height from time g in omega (arith, level, same, fits))

  pub moved_is_doc : IsDoc (record d { tree = group_moved from to time g d.tree })
  moved_is_doc = subst (λ (v : NodeId). IsDoc (record d { tree = changed_at to (with_group w) (changed_at from (without_group v) d.tree) })) (sym (found_child_id from u d.tree g there)) by_id

-- what a move leaves, whatever was answered
pub move_is_doc : {E : Type 0} (d : BareDoc) → IsDoc d → (from to u : NodeId) (time : ℕ) (g new : Tree) (result : Result (Unit {0}) E) → has_group to d.tree ≡ true → group_at from u d.tree ≡ Some g
    → has_group to g ≡ false → level_of to d.tree + height g ≤ LEVELS
    → MatchResult result (λ _. IfSome (group_at from u d.tree) (λ x. new ≡ group_moved from to time x d.tree)) (λ _. new ≡ d.tree) → IsDoc (record d { tree = new })
move_is_doc d is from to u time g new (Err e) has there outside fits h = subst (λ (t : Tree). IsDoc (record d { tree = t })) (sym h) is
move_is_doc d is from to u time g new (Ok x) has there outside fits h =
    subst (λ (t : Tree). IsDoc (record d { tree = t })) (sym (subst (λ (o : Option Tree). IfSome o (λ y. new ≡ group_moved from to time y d.tree)) there h))
    (moved_is_doc d is from to u time g has there outside fits)
