-- Finite maps and the lists of their entries.
use Rattle.std.proofs.Common.{◌≡◌, Bool, true, false, cond, ◌&&◌, inl, inr, List, [], ◌∷◌, Option, Some, None, map, refl, sym, ap, ◌∙◌}
use Rattle.std.proofs.lemmas.Option.{same_Some}
use Rattle.std.proofs.Math.Dec.{T}
use Rattle.std.specs.declared.cmp.Ordering.{Ordering}
use Rattle.std.specs.declared.cmp.Ordering.TheVariants.{Less, Equal, Greater}
use Rattle.std.specs.Cmp.{IsTotalOrder}
use Rattle.std.specs.FinMap.{FinMap, IsAntisymmetric, empty, get, insert, entries, contains_key, find, is_sorted, from_entries, entries_sorted, get-entries, get-empty, get-insert, get-from_entries, same_map}
use Rattle.std.specs.FinMap.Entries.{below_all}
use Rattle.std.specs.Ordering.{eq_by_cmp, is_eq, is_lt, ordering_reverse}
use Rattle.vault_model.specs.Join.{IsIn}
use Rattle.vault_model.specs.Unite.{gather, join_options}
use Rattle.merge_core.proofs.Semilattice.{none-gather}
use Rattle.vault_model.proofs.Tests.{decide, apart, some_of, none_of, is_false, from_map}
use Rattle.merge_core.proofs.Unite.{tie, ties}
use Rattle.merge_core.proofs.Versions.{never}

pub both_parts : (a b : Bool) → T (a && b) → T a × T b
both_parts true b h = (tt, h)
both_parts false b h = absurd h

pub is_less : (r : Ordering) → T (is_lt r) → r ≡ Less
is_less Less h = refl
is_less Equal h = absurd h
is_less Greater h = absurd h

-- a greater key does not tie
above_apart : {K : Type 0} {R : K → K → Ordering} (o : IsTotalOrder R) (k q : K) → R k q ≡ Less → eq_by_cmp R q k ≡ false
above_apart o k q e = ap is_eq (o.antisymm q k ∙ ap ordering_reverse e)

module _ {K X : Type 0} {R : K → K → Ordering} (o : IsTotalOrder R) (same : IsAntisymmetric R) where
  pub find_in : (es : List (K × X)) (q : K) (x : X) → find R q es ≡ Some x → IsIn (q, x) es
  find_in [] q x e = never x e
  find_in (d ∷ ds) q x e =
      elim (decide (eq_by_cmp R q d.0)) [
        | inl t ↦
            let is : d.1 ≡ x = same_Some _ _ (sym (ap (λ b. cond b (Some d.1) (find R q ds)) t) ∙ e) in
            inl (λ i. (sym (tie o same q d.0 t) i, is i))
        | inr t ↦ inr (find_in ds q x (sym (ap (λ b. cond b (Some d.1) (find R q ds)) t) ∙ e))
      ]

  pub below_in : (k : K) (es : List (K × X)) (e : K × X) → T (below_all R k es) → IsIn e es → R k e.0 ≡ Less
  below_in k [] e h i = absurd i
  below_in k (d ∷ ds) e h (inl p) = ap (λ (w : K × X). R k w.0) (sym p) ∙ is_less (R k d.0) (both_parts (is_lt (R k d.0)) (below_all R k ds) h).0
  below_in k (d ∷ ds) e h (inr i) = below_in k ds e (both_parts (is_lt (R k d.0)) (below_all R k ds) h).1 i

  pub in_find : (es : List (K × X)) → T (is_sorted R es) → (e : K × X) → IsIn e es → find R e.0 es ≡ Some e.1
  in_find [] h e i = absurd i
  in_find (d ∷ ds) h e (inl p) =
      ap (λ (w : K × X). find R w.0 (d ∷ ds)) (sym p) ∙ ap (λ b. cond b (Some d.1) (find R d.0 ds)) (ties o same d.0) ∙ ap (λ (w : K × X). Some w.1) p
  in_find (d ∷ ds) h e (inr i) =
      let parts = both_parts (below_all R d.0 ds) (is_sorted R ds) h in
      ap (λ b. cond b (Some d.1) (find R e.0 ds)) (above_apart o d.0 e.0 (below_in d.0 ds e parts.0 i)) ∙ in_find ds parts.1 e i

  pub some_find : (es : List (K × X)) (q : K) (x : X) → IsIn (q, x) es → (y : X) × (find R q es ≡ Some y)
  some_find [] q x i = absurd i
  some_find (d ∷ ds) q x i =
      elim (decide (eq_by_cmp R q d.0)) [
        | inl t ↦ (d.1, ap (λ b. cond b (Some d.1) (find R q ds)) t)
        | inr t ↦ elim i [
          | inl p ↦ apart (eq_by_cmp R q d.0) (ap (λ (w : K × X). eq_by_cmp R q w.0) p ∙ ties o same q) t
          | inr j ↦ let f = some_find ds q x j in (f.0, ap (λ b. cond b (Some d.1) (find R q ds)) t ∙ f.1)
        ]
      ]

  pub get_entry : (m : FinMap R X) (q : K) (x : X) → get m q ≡ Some x → IsIn (q, x) (entries m)
  get_entry m q x e = find_in (entries m) q x (sym (get-entries m q) ∙ e)

  pub entry_get : (m : FinMap R X) (e : K × X) → IsIn e (entries m) → get m e.0 ≡ Some e.1
  entry_get m e i = get-entries m e.0 ∙ in_find (entries m) (entries_sorted m) e i

  -- of any list that has just a map's entries, in any order and however often, that map is made
  pub made_from : (m : FinMap R X) (es : List (K × X)) → ((e : K × X) → IsIn e es → get m e.0 ≡ Some e.1)
      → ((q : K) (x : X) → get m q ≡ Some x → (y : X) × IsIn (q, y) es) → from_entries es ≡ m
  made_from m es right all = same_map o same (from_entries es) m (λ q. get-from_entries o es q ∙ found q (find R q es) refl)
    where
      found : (q : K) (r : Option X) → find R q es ≡ r → r ≡ get m q
      found q None e = sym (none_of (get m q) (is_false (contains_key m q) (λ t.
          let x = some_of (get m q) t in
          let y = all q x.0 x.1 in
          let f = some_find es q y.0 y.1 in
          never f.0 (sym e ∙ f.1))))
      found q (Some y) e = sym (right (q, y) (find_in es q y e))

  pub made_of_entries : (m : FinMap R X) → from_entries (entries m) ≡ m
  made_of_entries m = made_from m (entries m) (λ e i. entry_get m e i) (λ q x e. (x, get_entry m q x e))

  -- ---- one value at a time

  abbrev pub single : K × X → FinMap R X
  single e = insert empty e.0 e.1

  pub get_single : (e : K × X) (q : K) → get (single e) q ≡ cond (eq_by_cmp R q e.0) (Some e.1) None
  get_single e q = get-insert o empty e.0 e.1 q ∙ ap (λ r. cond (eq_by_cmp R q e.0) (Some e.1) r) (get-empty R q)

  none_below : (f : X → X → X) (es : List (K × X)) (q : K) → ((e : K × X) → IsIn e es → eq_by_cmp R q e.0 ≡ false)
      → gather f (map (λ (e : K × X). get (single e) q) es) ≡ None
  none_below f es q off = none-gather f (map (λ (e : K × X). get (single e) q) es) (λ r h.
      let g = from_map (λ (e : K × X). get (single e) q) es r h in
      sym g.1.1 ∙ get_single g.0 q ∙ ap (λ b. cond b (Some g.0.1) None) (off g.0 g.1.0))

  some_alone : (f : X → X → X) (x : X) (r : Option X) → r ≡ None → join_options f (Some x) r ≡ Some x
  some_alone f x r e = ap (join_options f (Some x)) e

  -- the entries of a map, each a map of its own, come to that map again
  pub gathered_singles : (f : X → X → X) (es : List (K × X)) → T (is_sorted R es) → (q : K)
      → gather f (map (λ (e : K × X). get (single e) q) es) ≡ find R q es
  gathered_singles f [] h q = refl
  gathered_singles f (d ∷ ds) h q =
      let parts = both_parts (below_all R d.0 ds) (is_sorted R ds) h in
      let rest = gathered_singles f ds parts.1 q in
      elim (decide (eq_by_cmp R q d.0)) [
        | inl t ↦
            let off = none_below f ds q (λ e i. ap (λ k. eq_by_cmp R k e.0) (tie o same q d.0 t) ∙ ap is_eq (below_in d.0 ds e parts.0 i)) in
            ap (λ w. join_options f w (gather f (map (λ (e : K × X). get (single e) q) ds))) (get_single d q ∙ ap (λ b. cond b (Some d.1) None) t)
            ∙ some_alone f d.1 (gather f (map (λ (e : K × X). get (single e) q) ds)) off
            ∙ sym (ap (λ b. cond b (Some d.1) (find R q ds)) t)
        | inr t ↦
            ap (λ w. join_options f w (gather f (map (λ (e : K × X). get (single e) q) ds))) (get_single d q ∙ ap (λ b. cond b (Some d.1) None) t)
            ∙ rest ∙ sym (ap (λ b. cond b (Some d.1) (find R q ds)) t)
      ]
