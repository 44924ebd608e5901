-- Tombstones stay in order.
use Rattle.std.proofs.Common.{◌≡◌, ◌+◌, ℕ, suc, zero, Bool, not, cond, inl, inr, List, [], ◌∷◌, None, Some, length, nat_lt, position, insert, refl, sym, ap, ◌∙◌, arith}
use Rattle.std.specs.List.{position_or_len}
use Rattle.std.proofs.lemmas.List.Sums.{prefix_len-le-length}
use Rattle.std.specs.Option.{unwrap_or}
use borrow.Author.Tests.{ltb-false}
use Rattle.std.specs.Ordering.{is_lt}
use Rattle.vault_model.specs.declared.nodes.Tombstone.{Tombstone}
use Rattle.vault_model.specs.Db.{id_cmp}
use Rattle.vault_model.proofs.Tests.{decide}
use Rattle.tree_core.specs.Changes.{with_tomb}

pub tomb_put : (t : Tombstone) (xs : List Tombstone) (at : ℕ) → position_or_len (λ (x : Tombstone). is_lt (id_cmp t.id x.id)) xs ≡ at → insert xs at t ≡ with_tomb t xs
tomb_put t [] at e = ap (λ n. insert [] n t) (sym e)
tomb_put t (x ∷ xs) at e =
    elim (decide (is_lt (id_cmp t.id x.id))) [
      | inl p ↦
          let here : zero ≡ at = sym (ap (λ b. cond (not b) (1 + position_or_len (λ (y : Tombstone). is_lt (id_cmp t.id y.id)) xs) 0) p) ∙ e in
          ap (λ n. insert (x ∷ xs) n t) (sym here) ∙ ap (λ b. cond b (t ∷ x ∷ xs) (x ∷ with_tomb t xs)) (sym p)
      | inr p ↦
          let there : suc (position_or_len (λ (y : Tombstone). is_lt (id_cmp t.id y.id)) xs) ≡ at =
          omega (arith, ap (λ b. cond (not b) (1 + position_or_len (λ (y : Tombstone). is_lt (id_cmp t.id y.id)) xs) 0) p, e) in
          ap (λ n. insert (x ∷ xs) n t) (sym there)
          ∙ ap (λ ys. x ∷ ys) (tomb_put t xs (position_or_len (λ (y : Tombstone). is_lt (id_cmp t.id y.id)) xs) refl)
          ∙ ap (λ b. cond b (t ∷ x ∷ xs) (x ∷ with_tomb t xs)) (sym p)
    ]

pub place_or_end : {X : Type 0} (p : X → Bool) (xs : List X) → unwrap_or (position p xs) (length xs) ≡ position_or_len p xs
place_or_end p xs =
    elim (decide (nat_lt (position_or_len p xs) (length xs))) [
      | inl h ↦ ap (λ b. unwrap_or (cond b (Some (position_or_len p xs)) None) (length xs)) h
      | inr h ↦
          let past = ltb-false (position_or_len p xs) (length xs) h in
          let most = prefix_len-le-length (λ x. not (p x)) xs in
          let same : length xs ≡ position_or_len p xs = omega (arith, past, most) in
          ap (λ b. unwrap_or (cond b (Some (position_or_len p xs)) None) (length xs)) h ∙ same
    ]
