-- Tombstones by their ids where some come to them.
use Rattle.std.proofs.Common.{◌≡◌, Bool, true, false, cond, inl, inr, List, [], ◌∷◌, None, Some, map, ℕ, refl, sym, ap, ◌∙◌, not}
use Rattle.std.specs.FinMap.{find, get-from_entries}
use Rattle.std.specs.List.{list_all}
use Rattle.std.specs.Ordering.{is_lt}
use Rattle.vault_model.specs.declared.nodes.Tombstone.{Tombstone}
use Rattle.vault_model.specs.Db.{NodeId, id_cmp}
use Rattle.vault_model.specs.Join.{is_id}
use Rattle.vault_model.specs.Tree.{BareDoc, shape_of}
use Rattle.vault_model.proofs.Ids.{is_same_id, same_id}
use Rattle.vault_model.proofs.Orders.{id_order}
use Rattle.vault_model.proofs.Tests.{and_true, apart, decide}
use Rattle.tree_core.proofs.Options.{never}
use Rattle.tree_core.specs.Changes.{with_tomb}
use Rattle.frame_laws.specs.Frame.{tomb_of}

abbrev pub tomb_rows : List Tombstone → List (NodeId × ℕ)
tomb_rows ts = map (λ (t : Tombstone). (t.id, t.deleted)) ts

pub tomb_is : (d : BareDoc) (q : NodeId) → tomb_of d q ≡ find id_cmp q (tomb_rows d.tombs)
unfolding shape_of
tomb_is d q = get-from_entries id_order.total (tomb_rows d.tombs) q

module _ (t : Tombstone) (q : NodeId) where
  -- another id's tombstone is passed over
  pub tomb_other : is_id q t.id ≡ false → (ts : List Tombstone) → find id_cmp q (tomb_rows (with_tomb t ts)) ≡ find id_cmp q (tomb_rows ts)
  tomb_other off [] = ap (λ b. cond b (Some t.deleted) None) off
  tomb_other off (x ∷ xs) =
      elim (decide (is_lt (id_cmp t.id x.id))) [
        | inl p ↦
            ap (λ b. find id_cmp q (tomb_rows (cond b (t ∷ x ∷ xs) (x ∷ with_tomb t xs)))) p
            ∙ ap (λ b. cond b (Some t.deleted) (find id_cmp q (tomb_rows (x ∷ xs)))) off
        | inr p ↦
            ap (λ b. find id_cmp q (tomb_rows (cond b (t ∷ x ∷ xs) (x ∷ with_tomb t xs)))) p
            ∙ ap (λ o. cond (is_id q x.id) (Some x.deleted) o) (tomb_other off xs)
      ]

  -- the tombstone of an id that has none is found
  pub tomb_own : is_id q t.id ≡ true → (ts : List Tombstone) → find id_cmp q (tomb_rows ts) ≡ None → find id_cmp q (tomb_rows (with_tomb t ts)) ≡ Some t.deleted
  tomb_own on [] none = ap (λ b. cond b (Some t.deleted) None) on
  tomb_own on (x ∷ xs) none =
      elim (decide (is_id q x.id)) [
        | inl s ↦ never x.deleted (sym none ∙ ap (λ b. cond b (Some x.deleted) (find id_cmp q (tomb_rows xs))) s)
        | inr s ↦ elim (decide (is_lt (id_cmp t.id x.id))) [
          | inl p ↦
              ap (λ b. find id_cmp q (tomb_rows (cond b (t ∷ x ∷ xs) (x ∷ with_tomb t xs)))) p
              ∙ ap (λ b. cond b (Some t.deleted) (find id_cmp q (tomb_rows (x ∷ xs)))) on
          | inr p ↦
              ap (λ b. find id_cmp q (tomb_rows (cond b (t ∷ x ∷ xs) (x ∷ with_tomb t xs)))) p
              ∙ ap (λ b. cond b (Some x.deleted) (find id_cmp q (tomb_rows (with_tomb t xs)))) s
              ∙ tomb_own on xs (sym (ap (λ b. cond b (Some x.deleted) (find id_cmp q (tomb_rows xs))) s) ∙ none)
        ]
      ]

-- no tombstone of an id that is none of theirs
pub no_tomb : (u : NodeId) (ts : List Tombstone) → list_all (λ (t : Tombstone). not (is_id t.id u)) ts ≡ true → find id_cmp u (tomb_rows ts) ≡ None
no_tomb u [] all = refl
no_tomb u (t ∷ ts) all =
    let parts = and_true (not (is_id t.id u)) (list_all (λ (x : Tombstone). not (is_id x.id u)) ts) all in
    elim (decide (is_id u t.id)) [
      | inl p ↦ apart (is_id t.id u) (is_same_id t.id u (sym (same_id u t.id p))) (not_so (is_id t.id u) parts.0)
      | inr p ↦ ap (λ b. cond b (Some t.deleted) (find id_cmp u (tomb_rows ts))) p ∙ no_tomb u ts parts.1
    ]
  where
    not_so : (b : Bool) → not b ≡ true → b ≡ false
    not_so true e = sym e
    not_so false e = refl
