-- Walks up: who reaches the root does so within as many steps as there are ids on the way.
use Rattle.std.proofs.Common.{◌≡◌, ◌≤◌, ◌<◌, ◌+◌, ◌-◌, ℕ, zero, suc, Bool, true, false, not, cond, ◌⊎◌, inl, inr, List, [], ◌∷◌, length, refl, sym, ap, subst, ◌∙◌, arith}
use Rattle.std.specs.List.{filter}
use Rattle.vault_model.specs.Db.{NodeId, steps}
use Rattle.vault_model.specs.Join.{IsIn, is_id}
use Rattle.vault_model.proofs.Ids.{same_id, is_same_id}
use Rattle.vault_model.proofs.Tests.{decide, apart, in_filter, is_false, not_false}

pub at_number : {A : Type 0} (f : ℕ → A) (m n : ℕ) → m ≡ n → f m ≡ f n
at_number f m n e = ap f e

pub steps_add : (up : NodeId → NodeId) (a b : ℕ) (v : NodeId) → steps up (a + b) v ≡ steps up b (steps up a v)
steps_add up zero b v = let e : zero + b ≡ b = omega arith in ap (λ n. steps up n v) e
steps_add up (suc a) b v = let e : suc a + b ≡ suc (a + b) = omega arith in ap (λ n. steps up n v) e ∙ steps_add up a b (up v)

-- the same steps from each of two walks that agree on the way
pub steps_same : (up down : NodeId → NodeId) (test : NodeId → Bool) → ((u : NodeId) → test u ≡ true → (up u ≡ down u) × (test (up u) ≡ true))
    → (n : ℕ) (u : NodeId) → test u ≡ true → steps up n u ≡ steps down n u
steps_same up down test same zero u e = refl
steps_same up down test same (suc n) u e =
    let s = same u e in
    steps_same up down test same n (up u) s.1 ∙ ap (steps down n) s.0

shorter : (test : NodeId → Bool) (us : List NodeId) → length (filter test us) ≤ length us
shorter test [] = omega arith
shorter test (u ∷ us) = one (test u) (shorter test us)
  where
    one : (b : Bool) → length (filter test us) ≤ length us → length (cond b (u ∷ filter test us) (filter test us)) ≤ length (u ∷ us)
    one true h = omega arith
    one false h = omega arith

-- the ids but one
abbrev others : NodeId → List NodeId → List NodeId
others v us = filter (λ u. not (is_id v u)) us

fewer : (v : NodeId) (us : List NodeId) → IsIn v us → length (others v us) < length us
fewer v [] h = absurd h
fewer v (u ∷ us) (inl p) =
    subst (λ b. length (cond (not b) (u ∷ others v us) (others v us)) < length (u ∷ us)) (sym (is_same_id v u (sym p)))
    (let s = shorter (λ w. not (is_id v w)) us in omega arith)
fewer v (u ∷ us) (inr h) = one (not (is_id v u)) (fewer v us h)
  where
    one : (b : Bool) → length (others v us) < length us → length (cond b (u ∷ others v us) (others v us)) < length (u ∷ us)
    one true k = omega arith
    one false k = omega arith

module _ (up : NodeId → NodeId) (root : NodeId) (stays : up root ≡ root) where
  pub stay : (n : ℕ) → steps up n root ≡ root
  stay zero = refl
  stay (suc n) = ap (steps up n) stays ∙ stay n

  -- who has come to the root is there after more steps too
  pub later : (k n : ℕ) (v : NodeId) → k ≤ n → steps up k v ≡ root → steps up n v ≡ root
  later k n v h e =
      let d : n ≡ k + (n - k) = omega arith in
      at_number (λ i. steps up i v) n (k + (n - k)) d ∙ steps_add up k (n - k) v ∙ ap (steps up (n - k)) e ∙ stay (n - k)

  -- round and round a cycle, at least so many steps
  around : (p : ℕ) (v : NodeId) → steps up (suc p) v ≡ v → (m : ℕ) → (n : ℕ) × ((m ≤ n) × (steps up n v ≡ v))
  around p v e zero = (zero, (omega arith, refl))
  around p v e (suc m) =
      let r = around p v e m in
      let more = r.1.0 in
      (suc p + r.0, (omega (arith, more), steps_add up (suc p) r.0 v ∙ ap (steps up r.0) e ∙ r.1.1))

  -- who comes back to where it was never reaches the root, unless it is there
  no_cycle : (p k : ℕ) (v : NodeId) → steps up (suc p) v ≡ v → steps up k v ≡ root → v ≡ root
  no_cycle p k v e h = let r = around p v e k in sym r.1.1 ∙ later k r.0 v r.1.0 h

  pub reached_within : (k : ℕ) (us : List NodeId) (v : NodeId) → ((i : ℕ) → (steps up i v ≡ root) ⊎ IsIn (steps up i v) us)
      → steps up k v ≡ root → steps up (length us) v ≡ root
  reached_within zero us v on e = later zero (length us) v (omega arith) e
  reached_within (suc k) us v on e =
      elim (on zero) [
        | inl r ↦ later zero (length us) v (omega arith) r
        | inr h ↦ beyond (decide (is_id v root)) h (λ more. reached_within k (others v us) (up v) more e)
      ]
    where
      beyond : ((is_id v root ≡ true) ⊎ (is_id v root ≡ false)) → IsIn v us
          → (((i : ℕ) → (steps up i (up v) ≡ root) ⊎ IsIn (steps up i (up v)) (others v us)) → steps up (length (others v us)) (up v) ≡ root)
          → steps up (length us) v ≡ root
      beyond (inl r) h more = later zero (length us) v (omega arith) (same_id v root r)
      beyond (inr r) h more =
          let rest = more (λ i. elim (on (suc i)) [
            | inl q ↦ inl q
            | inr q ↦ inr (in_filter (λ u. not (is_id v u)) us (steps up i (up v)) q (not_false (is_id v (steps up i (up v)))
                (is_false (is_id v (steps up i (up v))) (λ t.
                apart (is_id v root) (is_same_id v root (no_cycle i (suc k) v (sym (same_id v (steps up i (up v)) t)) e)) r))))
          ]) in
          let less = fewer v us h in
          later (suc (length (others v us))) (length us) v (omega arith) rest
