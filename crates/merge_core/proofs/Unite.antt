-- What joined maps have at a key.
use Rattle.std.proofs.Common.{◌≡◌, Bool, true, false, cond, ◌||◌, inl, inr, List, [], ◌∷◌, ◌++◌, Option, Some, None, map, is_some, refl, sym, ap, subst, ◌∙◌}
use Rattle.std.proofs.lemmas.List.Folds.{list_any-append}
use Rattle.std.specs.declared.cmp.Ordering.{Ordering}
use Rattle.std.specs.Cmp.{IsTotalOrder, Equal-is, tied_itself}
use Rattle.std.specs.FinMap.{FinMap, IsAntisymmetric, get, contains_key, keys, get-empty, get-insert, contains_key-keys, same_map}
use Rattle.std.specs.List.{list_any}
use Rattle.std.specs.Ordering.{eq_by_cmp, is_eq}
use Rattle.vault_model.specs.Join.{IsIn}
use Rattle.vault_model.specs.Unite.{join_options, gather, put_some, tabulate, unite, unite_all}
use Rattle.merge_core.proofs.Semilattice.{IsJoin, merged_join}
use Rattle.vault_model.proofs.Tests.{decide, any_true, any_found}

cond_same : {A : Type 0} (b : Bool) (x : A) → cond b x x ≡ x
cond_same true x = refl
cond_same false x = refl

some_either : {A : Type 0} (f : A → A → A) (a b : Option A) → cond (is_some a || is_some b) (join_options f a b) None ≡ join_options f a b
some_either f None None = refl
some_either f None (Some y) = refl
some_either f (Some x) None = refl
some_either f (Some x) (Some y) = refl

module _ {K : Type 0} {R : K → K → Ordering} (o : IsTotalOrder R) (same : IsAntisymmetric R) where
  pub tie : (q k : K) → eq_by_cmp R q k ≡ true → q ≡ k
  tie q k t = same q k ((Equal-is (R q k)).0 t)

  pub ties : (q : K) → eq_by_cmp R q q ≡ true
  ties q = ap is_eq (tied_itself o q)

  module _ {A : Type 0} where
    at_key : (v : Option A) (m : FinMap R A) (q k : K) (b : Bool) → eq_by_cmp R q k ≡ true → get m q ≡ cond b v None → get (put_some k v m) q ≡ v
    at_key None m q k b t e = e ∙ cond_same b None
    at_key (Some x) m q k b t e = get-insert o m k x q ∙ ap (λ c. cond c (Some x) (get m q)) t

    off_key : (v : Option A) (m : FinMap R A) (q k : K) → eq_by_cmp R q k ≡ false → get (put_some k v m) q ≡ get m q
    off_key None m q k t = refl
    off_key (Some x) m q k t = get-insert o m k x q ∙ ap (λ c. cond c (Some x) (get m q)) t

    pub get-tabulate : (ks : List K) (value : K → Option A) (q : K) → get (tabulate {R = R} ks value) q ≡ cond (list_any (eq_by_cmp R q) ks) (value q) None
    get-tabulate [] value q = get-empty R q
    get-tabulate (k ∷ ks) value q =
        let among = list_any (eq_by_cmp R q) ks in
        elim (decide (eq_by_cmp R q k)) [
          | inl t ↦
              at_key (value k) (tabulate ks value) q k among t (get-tabulate ks value q ∙ ap (λ x. cond among (value x) None) (tie q k t))
              ∙ ap value (sym (tie q k t)) ∙ sym (ap (λ b. cond (b || among) (value q) None) t)
          | inr t ↦
              off_key (value k) (tabulate ks value) q k t ∙ get-tabulate ks value q ∙ sym (ap (λ b. cond (b || among) (value q) None) t)
        ]

    pub get-unite : (f : A → A → A) (m n : FinMap R A) (q : K) → get (unite f m n) q ≡ join_options f (get m q) (get n q)
    unfolding unite
    get-unite f m n q =
        get-tabulate (keys m ++ keys n) (λ k. join_options f (get m k) (get n k)) q
        ∙ ap (λ b. cond b (join_options f (get m q) (get n q)) None)
        (list_any-append (eq_by_cmp R q) (keys m) (keys n)
        ∙ (λ i. sym (contains_key-keys m q) i || sym (contains_key-keys n q) i))
        ∙ some_either f (get m q) (get n q)

    pub get-unite_all : (f : A → A → A) (ms : List (FinMap R A)) (q : K) → get (unite_all f ms) q ≡ gather f (map (λ (m : FinMap R A). get m q) ms)
    get-unite_all f [] q = get-empty R q
    get-unite_all f (m ∷ ms) q = get-unite f m (unite_all f ms) q ∙ ap (join_options f (get m q)) (get-unite_all f ms q)

    pub unite_join : {f : A → A → A} → IsJoin f → IsJoin (unite {R = R} f)
    unite_join {f} j =
        let w = merged_join j in
        record {
          assoc = λ x y z. same_map o same _ _ (λ q.
              get-unite f (unite f x y) z q ∙ ap (λ p. join_options f p (get z q)) (get-unite f x y q)
              ∙ w.assoc (get x q) (get y q) (get z q)
              ∙ sym (get-unite f x (unite f y z) q ∙ ap (join_options f (get x q)) (get-unite f y z q)));
          comm = λ x y. same_map o same _ _ (λ q. get-unite f x y q ∙ w.comm (get x q) (get y q) ∙ sym (get-unite f y x q));
          idem = λ x. same_map o same _ _ (λ q. get-unite f x x q ∙ w.idem (get x q));
        }

    pub in_keys : (m : FinMap R A) (q : K) → contains_key m q ≡ true → IsIn q (keys m)
    in_keys m q e =
        let f = any_found (eq_by_cmp R q) (keys m) (sym (contains_key-keys m q) ∙ e) in
        subst (λ k. IsIn k (keys m)) (sym (tie q f.0 f.1.1)) f.1.0

    pub from_keys : (m : FinMap R A) (q : K) → IsIn q (keys m) → contains_key m q ≡ true
    from_keys m q h = contains_key-keys m q ∙ any_true (eq_by_cmp R q) (keys m) q h (ties q)
