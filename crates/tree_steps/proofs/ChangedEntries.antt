-- An entry of a list, changed in its place.
use Rattle.std.proofs.Common.{◌≡◌, ◌≤◌, ◌+◌, ℕ, suc, zero, Bool, true, false, not, cond, inl, inr, List, [], ◌∷◌, None, Some, length, map, nat_lt, position, refl, sym, ap, ◌∙◌, arith}
use Rattle.std.proofs.lemmas.Option.{same_Some}
use Rattle.std.specs.List.{position_or_len, slice_get, slice_set}
use Rattle.vault_model.specs.Db.{NodeId}
use Rattle.vault_model.specs.Join.{is_id}
use Rattle.vault_model.specs.SeenNodes.{entry_record, entry_row}
use Rattle.vault_model.specs.Shape.{EntryRecord}
use Rattle.vault_model.specs.declared.nodes.Entry.{Entry}
use Rattle.vault_model.proofs.Tests.{decide}
use Rattle.tree_core.proofs.Options.{never}
use Rattle.tree_core.specs.Changes.{with_changed}
use borrow.Author.Tests.{ltb-false}

abbrev there : NodeId → Entry → Bool
there u e = is_id e.id u

changed_place : (u : NodeId) (f : EntryRecord → EntryRecord) (es : List Entry) (at : ℕ) (old new : Entry) → position_or_len (there u) es ≡ at → slice_get es at ≡ Some old
    → new.id ≡ old.id → entry_record new ≡ f (entry_record old) → map entry_row (slice_set es at new) ≡ with_changed u f (map entry_row es)
changed_place u f [] at old new way is id e = never old is
changed_place u f (x ∷ xs) at old new way is id e =
    elim (decide (is_id x.id u)) [
      | inl p ↦
          let first : zero ≡ at = sym (ap (λ b. cond (not b) (1 + position_or_len (there u) xs) 0) p) ∙ way in
          let same : x ≡ old = same_Some x old (ap (slice_get (x ∷ xs)) first ∙ is) in
          let row : entry_row new ≡ (x.id, f (entry_record x)) = λ i. ((id ∙ ap (λ (y : Entry). y.id) (sym same)) i, (e ∙ ap (λ y. f (entry_record y)) (sym same)) i) in
          ap (λ n. map entry_row (slice_set (x ∷ xs) n new)) (sym first)
          ∙ ap (λ r. r ∷ map entry_row xs) row
          ∙ ap (λ b. cond b ((x.id, f (entry_record x)) ∷ map entry_row xs) (entry_row x ∷ with_changed u f (map entry_row xs))) (sym p)
      | inr p ↦
          let next : suc (position_or_len (there u) xs) ≡ at = omega (arith, ap (λ b. cond (not b) (1 + position_or_len (there u) xs) 0) p, way) in
          ap (λ n. map entry_row (slice_set (x ∷ xs) n new)) (sym next)
          ∙ ap (λ ys. entry_row x ∷ ys) (changed_place u f xs (position_or_len (there u) xs) old new refl (ap (slice_get (x ∷ xs)) next ∙ is) id e)
          ∙ ap (λ b. cond b ((x.id, f (entry_record x)) ∷ map entry_row xs) (entry_row x ∷ with_changed u f (map entry_row xs))) (sym p)
    ]

within : (b : Bool) (n at : ℕ) → cond b (Some n) None ≡ Some at → n ≡ at
within true n at e = same_Some n at e
within false n at e = never at e

pub changes_place : (u : NodeId) (f : EntryRecord → EntryRecord) (es : List Entry) (at : ℕ) (old new : Entry) → position (there u) es ≡ Some at → slice_get es at ≡ Some old
    → new.id ≡ old.id → entry_record new ≡ f (entry_record old) → map entry_row (slice_set es at new) ≡ with_changed u f (map entry_row es)
changes_place u f es at old new way is id e = changed_place u f es at old new (within (nat_lt (position_or_len (there u) es) (length es)) (position_or_len (there u) es) at way) is id e

unchanged : (u : NodeId) (f : EntryRecord → EntryRecord) (es : List Entry) → length es ≤ position_or_len (there u) es → map entry_row es ≡ with_changed u f (map entry_row es)
unchanged u f [] far = refl
unchanged u f (x ∷ xs) far =
    elim (decide (is_id x.id u)) [
      | inl p ↦
          let first : position_or_len (there u) (x ∷ xs) ≡ 0 = ap (λ b. cond (not b) (1 + position_or_len (there u) xs) 0) p in
          absurd (omega (arith, far, first))
      | inr p ↦
          let next : position_or_len (there u) (x ∷ xs) ≡ 1 + position_or_len (there u) xs = ap (λ b. cond (not b) (1 + position_or_len (there u) xs) 0) p in
          let rest : length xs ≤ position_or_len (there u) xs = omega (arith, far, next) in
          ap (λ ys. entry_row x ∷ ys) (unchanged u f xs rest)
          ∙ ap (λ b. cond b ((x.id, f (entry_record x)) ∷ map entry_row xs) (entry_row x ∷ with_changed u f (map entry_row xs))) (sym p)
    ]

pub changes_none : (u : NodeId) (f : EntryRecord → EntryRecord) (es : List Entry) → position (there u) es ≡ None → map entry_row es ≡ with_changed u f (map entry_row es)
changes_none u f es way = unchanged u f es (far (nat_lt (position_or_len (there u) es) (length es)) refl way)
  where
    far : (b : Bool) → nat_lt (position_or_len (there u) es) (length es) ≡ b → cond b (Some (position_or_len (there u) es)) None ≡ None → length es ≤ position_or_len (there u) es
    far true q k = never (position_or_len (there u) es) (sym k)
    far false q k = ltb-false (position_or_len (there u) es) (length es) q
