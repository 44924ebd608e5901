-- An entry that is moved by way of a place that is kept for it.
use Rattle.std.proofs.Common.{◌≡◌, ◌≢◌, ◌≤◌, ℕ, true, false, cond, inl, inr, IfSome, List, [], ◌∷◌, ◌++◌, Option, Some, sym, ap, subst, ◌∙◌, arith}
use Rattle.vault_model.specs.Db.{NodeId, nil_id}
use Rattle.vault_model.specs.Join.{is_id}
use Rattle.vault_model.specs.Shape.{EntryRecord}
use Rattle.vault_model.specs.Tree.{Tree, is_elsewhere, node, node_ids, node_ids_all}
use Rattle.vault_model.proofs.Ids.{is_same_id, same_id}
use Rattle.vault_model.proofs.Tests.{apart, decide}
use Rattle.tree_core.specs.Changes.{changed_at, entry_at, entry_moved, group_with, has_group, on_entries, own_entry, with_entry, without, without_entry}
use Rattle.tree_core.proofs.Around.{found_group, found_id, ids_rows, occurs_change, rows_change}
use Rattle.tree_core.proofs.Changed.{changed_by}
use Rattle.tree_core.proofs.Counted.{elsewhere_occurs, occurs, occurs-append, one_if}
use Rattle.tree_core.proofs.EntriesMoved.{at_once, either_order, placed_at, same_there, still_at}
use Rattle.tree_core.proofs.EntriesRemoved.{found_at, one_less, own_id, same_group}
use Rattle.tree_core.proofs.Rows.{keys}
use Rattle.tree_moves.specs.Places.{entries_filled}

abbrev Entries : Type 0
Entries = List (NodeId × EntryRecord)

-- ---- a place that is kept, and filled

pub fills : (e hole : NodeId × EntryRecord) (es : Entries) → hole.0 ≡ nil_id → occurs nil_id (keys es) ≡ 0 → entries_filled e (es ++ hole ∷ []) ≡ es ++ e ∷ []
fills e hole [] nil zeros = ap (λ b. cond b (e ∷ []) (hole ∷ [])) (is_same_id hole.0 nil_id nil)
fills e hole (x ∷ xs) nil zeros =
    elim (decide (is_id nil_id x.0)) [
      | inl p ↦ let one = ap one_if p in absurd (omega (arith, one, zeros))
      | inr p ↦
          let zero = ap one_if p in
          let rest : occurs nil_id (keys xs) ≡ 0 = omega (arith, zero, zeros) in
          ap (λ b. cond b (e ∷ (xs ++ hole ∷ [])) (x ∷ entries_filled e (xs ++ hole ∷ []))) (other x.0 p) ∙ ap (λ ys. x ∷ ys) (fills e hole xs nil rest)
    ]
  where
    other : (u : NodeId) → is_id nil_id u ≡ false → is_id u nil_id ≡ false
    other u p = elim (decide (is_id u nil_id)) [ inl q ↦ apart (is_id nil_id u) (is_same_id nil_id u (sym (same_id u nil_id q))) p | inr q ↦ q ]

-- ---- an entry that is moved by way of a place that is kept for it

own_keys : (x : NodeId) (t : Tree) → occurs x (node_ids t) ≡ 0 → (k : Entries → Entries) (l : Entries → Entries) → ((es : Entries) → occurs x (keys es) ≡ 0 → k es ≡ l es) → on_entries k t ≡ on_entries l t
own_keys x (node v r es ts) zero k l same =
    let split = occurs-append x (keys es) (node_ids_all ts) in
    let zeros : occurs x (keys es) ≡ 0 = omega (arith, split, zero) in
    ap (λ ys. node v r ys ts) (same es zeros)

fewer : (g u : NodeId) (t b : Tree) (e : NodeId × EntryRecord) → group_with g t ≡ Some b → own_entry u b ≡ Some e → (x : NodeId) → occurs x (node_ids (changed_at g (without_entry u) t)) ≤ occurs x (node_ids t)
fewer g u t b e there own x =
    let change = occurs_change x t (changed_at g (without_entry u) t) b (without_entry u b) (rows_change node_ids node_ids_all ids_rows g (without_entry u) t b there (same_group u b ∙ found_id g t b there)) in
    let less = one_less x u e b own in
    omega (arith, change, less)

moved_by_place : (from to u : NodeId) (old : Tree) (hole e : NodeId × EntryRecord) (time : ℕ) → from ≢ to → has_group to old ≡ true → hole.0 ≡ nil_id → is_elsewhere old nil_id ≡ true
    → entry_at from u old ≡ Some e
    → changed_at to (on_entries (entries_filled (placed_at from time e))) (changed_at from (without_entry u) (changed_at to (with_entry hole) old)) ≡ entry_moved from to time e old
moved_by_place from to u old hole e time other has nil off there =
    let f = found_at from u old e there in
    let id = own_id u f.0 e f.1.1 in
    let t = changed_at from (without_entry u) old in
    let goal = found_group to t (same_there to from (without u) old ∙ has) in
    let zero = elsewhere_occurs old nil_id off in
    let few = fewer from u old f.0 e f.1.0 f.1.1 nil_id in
    let none_in : occurs nil_id (node_ids t) ≡ 0 = omega (arith, zero, few) in
    let rows = rows_change node_ids node_ids_all ids_rows to (λ x. x) t goal.0 goal.1 (found_id to t goal.0 goal.1) in
    let split = ap (occurs nil_id) rows.was ∙ occurs-append nil_id rows.front (node_ids goal.0 ++ rows.back) in
    let split2 = occurs-append nil_id (node_ids goal.0) rows.back in
    let none_own : occurs nil_id (node_ids goal.0) ≡ 0 = omega (arith, none_in, split, split2) in
    ap (changed_at to (on_entries (entries_filled (placed_at from time e)))) (either_order from to (without u) (λ es. es ++ hole ∷ []) other old)
    ∙ at_once to (entries_filled (placed_at from time e)) (λ es. es ++ hole ∷ []) t
    ∙ sym (changed_by to (on_entries (λ es. entries_filled (placed_at from time e) (es ++ hole ∷ []))) t goal.0 goal.1)
    ∙ ap (λ w. changed_at to (λ x. w) t) (own_keys nil_id goal.0 none_own (λ es. entries_filled (placed_at from time e) (es ++ hole ∷ [])) (λ es. es ++ placed_at from time e ∷ []) (λ es zeros. fills (placed_at from time e) hole es nil zeros))
    ∙ changed_by to (with_entry (placed_at from time e)) t goal.0 goal.1
    ∙ ap (λ v. changed_at to (with_entry (placed_at from time e)) (changed_at from (without_entry v) old)) (sym id)

-- the three changes of a move, one after another
pub move_done : (from to u : NodeId) (old one two three : Tree) (hole e : NodeId × EntryRecord) (time : ℕ) → from ≢ to → has_group to old ≡ true → hole.0 ≡ nil_id → is_elsewhere old nil_id ≡ true
    → one ≡ changed_at to (with_entry hole) old → entry_at from u one ≡ Some e → two ≡ changed_at from (without_entry u) one → three ≡ changed_at to (on_entries (entries_filled (placed_at from time e))) two
    → IfSome (entry_at from u old) (λ x. three ≡ entry_moved from to time x old)
move_done from to u old one two three hole e time other has nil off p there q r =
    let at : entry_at from u old ≡ Some e = sym (still_at from to u (λ es. es ++ hole ∷ []) other old) ∙ ap (entry_at from u) (sym p) ∙ there in
    subst (λ (o : Option (NodeId × EntryRecord)). IfSome o (λ x. three ≡ entry_moved from to time x old)) (sym at)
    (r ∙ ap (λ t. changed_at to (on_entries (entries_filled (placed_at from time e))) t) (q ∙ ap (changed_at from (without_entry u)) p) ∙ moved_by_place from to u old hole e time other has nil off at)
