-- Joining maps one entry at a time.
use Rattle.std.proofs.Common.{◌≡◌, cond, inl, inr, List, Option, None, Some, map, refl, sym, ap, ◌∙◌}
use Rattle.std.specs.declared.cmp.Ordering.{Ordering}
use Rattle.std.specs.Cmp.{IsTotalOrder}
use Rattle.std.specs.FinMap.{FinMap, IsAntisymmetric, empty, get, insert, entries, entries_sorted, get-entries, get-empty, get-insert, same_map}
use Rattle.std.specs.Ordering.{eq_by_cmp}
use Rattle.vault_model.specs.Unite.{join_options, gather, unite, unite_all}
use Rattle.merge_core.proofs.Semilattice.{IsJoin}
use Rattle.merge_core.proofs.Tables.{gathered_singles}
use Rattle.vault_model.proofs.Tests.{decide, map_map}
use Rattle.merge_core.proofs.Unite.{tie, get-unite, get-unite_all, unite_join}

-- the value that is put where a value comes to what stands there
abbrev pub join_with : {A : Type 0} → (A → A → A) → A → Option A → A
join_with f x None = x
join_with f x (Some y) = f x y

merged_some : {A : Type 0} (f : A → A → A) (x : A) (o : Option A) → Some (join_with f x o) ≡ join_options f (Some x) o
merged_some f x None = refl
merged_some f x (Some y) = refl

module _ {K X : Type 0} {R : K → K → Ordering} (o : IsTotalOrder R) (same : IsAntisymmetric R) (f : X → X → X) where
  pub add_one : (m : FinMap R X) (k : K) (v : X) → insert m k (join_with f v (get m k)) ≡ unite f (insert empty k v) m
  add_one m k v =
      same_map o same (insert m k (join_with f v (get m k))) (unite f (insert empty k v) m) (λ q.
      get-insert o m k (join_with f v (get m k)) q
      ∙ at_key q
      ∙ ap (λ w. join_options f w (get m q)) (sym (get-insert o empty k v q ∙ ap (cond (eq_by_cmp R q k) (Some v)) (get-empty R q)))
      ∙ sym (get-unite o same f (insert empty k v) m q))
    where
      at_key : (q : K) → cond (eq_by_cmp R q k) (Some (join_with f v (get m k))) (get m q) ≡ join_options f (cond (eq_by_cmp R q k) (Some v) None) (get m q)
      at_key q =
          elim (decide (eq_by_cmp R q k)) [
            | inl t ↦
                ap (λ b. cond b (Some (join_with f v (get m k))) (get m q)) t
                ∙ ap (λ x. Some (join_with f v (get m x))) (sym (tie o same q k t))
                ∙ merged_some f v (get m q)
                ∙ sym (ap (λ b. join_options f (cond b (Some v) None) (get m q)) t)
            | inr t ↦
                ap (λ b. cond b (Some (join_with f v (get m k))) (get m q)) t
                ∙ sym (ap (λ b. join_options f (cond b (Some v) None) (get m q)) t)
          ]

  -- entries, each a map of its own, joined
  abbrev pub unite_rows : List (K × X) → FinMap R X
  unite_rows es = unite_all f (map (λ (e : K × X). insert empty e.0 e.1) es)

  pub unite_entries : (m : FinMap R X) → unite_rows (entries m) ≡ m
  unite_entries m =
      same_map o same (unite_rows (entries m)) m (λ q.
      get-unite_all o same f (map (λ (e : K × X). insert empty e.0 e.1) (entries m)) q
      ∙ ap (gather f) (map_map (λ (e : K × X). insert empty e.0 e.1) (λ (n : FinMap R X). get n q) (entries m))
      ∙ gathered_singles o same f (entries m) (entries_sorted m) q
      ∙ sym (get-entries m q))

  pub unite_none : (m : FinMap R X) → unite f empty m ≡ m
  unite_none m = same_map o same (unite f empty m) m (λ q. get-unite o same f empty m q ∙ ap (λ w. join_options f w (get m q)) (get-empty R q))

  pub unite_with_none : (m : FinMap R X) → unite f m empty ≡ m
  unite_with_none m =
      same_map o same (unite f m empty) m (λ q.
      get-unite o same f m empty q ∙ ap (join_options f (get m q)) (get-empty R q) ∙ none_right (get m q))
    where
      none_right : (p : Option X) → join_options f p None ≡ p
      none_right None = refl
      none_right (Some x) = refl

  pub unite_next : IsJoin f → (e rest m : FinMap R X) → unite f (unite f e rest) m ≡ unite f rest (unite f e m)
  unite_next j e rest m =
      let w = unite_join o same j in
      ap (λ x. unite f x m) (w.comm e rest) ∙ w.assoc rest e m
