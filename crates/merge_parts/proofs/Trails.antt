-- A trail followed step by step.
use Rattle.std.proofs.Common.{◌≡◌, ◌-◌, ◌||◌, zero, ◌<◌, ℕ, suc, arith, Bool, true, false, List, ◌∷◌, refl, ap, ◌∙◌}
use Rattle.std.specs.List.{list_any}
use Rattle.vault_model.specs.Db.{NodeId, Db}
use Rattle.vault_model.specs.Join.{is_id, above, trail}

or_none : (b : Bool) → (b || false) ≡ b
or_none true = refl
or_none false = refl

pub trail_more : (S : List Db) (n : ℕ) (u : NodeId) → 0 < n → trail S n u ≡ u ∷ trail S (n - 1) (above S u)
trail_more S zero u h = absurd (omega arith)
trail_more S (suc n) u h = let back : n ≡ suc n - 1 = omega arith in ap (λ k. u ∷ trail S k (above S u)) back

pub trail_on : (S : List Db) (n : ℕ) (u v : NodeId) → 0 < n → is_id v u ≡ false → list_any (is_id v) (trail S n u) ≡ list_any (is_id v) (trail S (n - 1) (above S u))
trail_on S n u v h e = ap (list_any (is_id v)) (trail_more S n u h) ∙ ap (λ b. b || list_any (is_id v) (trail S (n - 1) (above S u))) e

pub trail_here : (S : List Db) (n : ℕ) (u v : NodeId) → is_id v u ≡ true → list_any (is_id v) (trail S n u) ≡ true
trail_here S zero u v e = ap (λ b. b || false) e
trail_here S (suc n) u v e = ap (λ b. b || list_any (is_id v) (trail S n (above S u))) e

pub trail_end : (S : List Db) (n : ℕ) (u v : NodeId) → n ≡ 0 → list_any (is_id v) (trail S n u) ≡ is_id v u
trail_end S zero u v e = or_none (is_id v u)
trail_end S (suc n) u v e = absurd (omega arith)
