-- Entries moved to places that are kept for them.
use Rattle.std.proofs.Common.{◌≡◌, ◌≢◌, ℕ, true, [], ◌∷◌, ◌++◌, Option, Some, IfSome, IsSome, subst, refl, sym, ap, ◌∙◌}
use Rattle.vault_model.specs.Db.{NodeId, nil_id}
use Rattle.vault_model.specs.Shape.{EntryRecord}
use Rattle.vault_model.specs.Tree.{Tree, is_elsewhere}
use Rattle.vault_model.proofs.Tests.{some_of}
use Rattle.tree_core.proofs.EntriesMoved.{placed_at, still_at}
use Rattle.tree_core.proofs.EntriesRemoved.{found_at, own_id}
use Rattle.tree_core.specs.Changes.{changed_at, entry_at, entry_moved, has_group, on_entries, with_entry, without_entry}
use Rattle.tree_moves.specs.Places.{entry_placed, entries_filled}
use Rattle.tree_moves.proofs.KeptPlaces.{move_done}

-- the two changes of such a move, one after the other
pub placed_done : (from to u : NodeId) (time : ℕ) (old two new : Tree) (e : NodeId × EntryRecord) → entry_at from u old ≡ Some e → two ≡ changed_at from (without_entry u) old
    → new ≡ changed_at to (on_entries (entries_filled (placed_at from time e))) two → IfSome (entry_at from u old) (λ x. new ≡ entry_placed from to time x old)
placed_done from to u time old two new e there p q =
    let f = found_at from u old e there in
    subst (λ (o : Option (NodeId × EntryRecord)). IfSome o (λ x. new ≡ entry_placed from to time x old)) (sym there)
    (q ∙ ap (changed_at to (on_entries (entries_filled (placed_at from time e)))) (p ∙ ap (λ v. changed_at from (without_entry v) old) (sym (own_id u f.0 e f.1.1))))

-- a place that is made does not hide the entry
pub still_there : (from to u : NodeId) (old one : Tree) (hole : NodeId × EntryRecord) → from ≢ to → one ≡ changed_at to (with_entry hole) old → IsSome (entry_at from u old) → IsSome (entry_at from u one)
still_there from to u old one hole other p there =
    subst (λ (o : Option (NodeId × EntryRecord)). IsSome o) (sym (ap (entry_at from u) p ∙ still_at from to u (λ es. es ++ hole ∷ []) other old)) there

-- a place that is made and then filled
pub moved_in_place : (from to u : NodeId) (time : ℕ) (old one new : Tree) (hole : NodeId × EntryRecord) → from ≢ to → has_group to old ≡ true → hole.0 ≡ nil_id → is_elsewhere old nil_id ≡ true
    → one ≡ changed_at to (with_entry hole) old → IsSome (entry_at from u one) → IfSome (entry_at from u one) (λ x. new ≡ entry_placed from to time x one)
    → IfSome (entry_at from u old) (λ x. new ≡ entry_moved from to time x old)
moved_in_place from to u time old one new hole other has nil off p some h =
    let e = some_of (entry_at from u one) some in
    let f = found_at from u one e.0 e.1 in
    let placed = subst (λ (o : Option (NodeId × EntryRecord)). IfSome o (λ x. new ≡ entry_placed from to time x one)) e.1 h in
    move_done from to u old one (changed_at from (without_entry u) one) new hole e.0 time other has nil off p e.1 refl
    (placed ∙ ap (λ v. changed_at to (on_entries (entries_filled (placed_at from time e.0))) (changed_at from (without_entry v) one)) (own_id u f.0 e.0 f.1.1))
