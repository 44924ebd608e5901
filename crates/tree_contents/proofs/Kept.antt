-- Lists whose keys rise keep this when an item is put into its place, and when one is taken away.
use Rattle.std.proofs.Common.{◌≡◌, ◌&&◌, ℕ, Bool, true, false, cond, List, [], ◌∷◌, refl, ap, ◌∙◌}
use Rattle.std.specs.declared.cmp.Ordering.{Ordering}
use Rattle.std.specs.declared.cmp.Ordering.TheVariants.{Less, Equal, Greater}
use Rattle.std.specs.List.{list_all}
use Rattle.std.specs.Ordering.{is_lt, ordering_reverse}
use Rattle.vault_model.specs.Orders.{bytes_cmp}
use Rattle.vault_model.specs.Proper.{rises}
use Rattle.vault_model.specs.Unite.{by_order}
use Rattle.vault_model.proofs.Orders.{bytes_order}
use Rattle.vault_model.proofs.Tests.{and_both, and_true}
use Rattle.tree_core.specs.InOrder.{put_in_order}

is_less : (r : Ordering) → is_lt r ≡ true → r ≡ Less
is_less Less h = refl
is_less Equal h = cc h
is_less Greater h = cc h

module _ {A : Type 0} (key_of : A → List ℕ) where
  -- a key is below those of a list
  abbrev above : List ℕ → A → Bool
  above k x = is_lt (bytes_cmp k (key_of x))

  below : (k l : List ℕ) (xs : List A) → bytes_cmp k l ≡ Less → list_all (above l) xs ≡ true → list_all (above k) xs ≡ true
  below k l [] e h = refl
  below k l (x ∷ xs) e h =
      let both = and_true (above l x) (list_all (above l) xs) h in
      and_both (above k x) (list_all (above k) xs) (ap is_lt (bytes_order.total.trans k l (key_of x) e (is_less (bytes_cmp l (key_of x)) both.0))) (below k l xs e both.1)

  -- ---- an item that is put into its place

  module _ (k : List ℕ) (new : A) (joined : A → A) (own : key_of new ≡ k) (same : (x : A) → key_of (joined x) ≡ key_of x) where
    abbrev put : List A → List A
    put = put_in_order (λ x. bytes_cmp k (key_of x)) new joined

    pub all_put : (test : A → Bool) → test new ≡ true → ((x : A) → test x ≡ true → test (joined x) ≡ true) → (xs : List A) → list_all test xs ≡ true → list_all test (put xs) ≡ true
    all_put test here keeps [] h = and_both (test new) true here refl
    all_put test here keeps (x ∷ xs) h =
        let both = and_true (test x) (list_all test xs) h in
        let rest = all_put test here keeps xs both.1 in
        elim (bytes_cmp k (key_of x)) as (λ r. list_all test (by_order r (new ∷ x ∷ xs) (joined x ∷ xs) (x ∷ put xs)) ≡ true) [
          | Less ↦ and_both (test new) (list_all test (x ∷ xs)) here h
          | Equal ↦ and_both (test (joined x)) (list_all test xs) (keeps x both.0) both.1
          | Greater ↦ and_both (test x) (list_all test (put xs)) both.0 rest
        ]

    pub rises_put : (xs : List A) → rises key_of xs ≡ true → rises key_of (put xs) ≡ true
    rises_put [] h = refl
    rises_put (x ∷ xs) h = of (rises_put xs) (bytes_cmp k (key_of x)) refl
      where
        of : (rises key_of xs ≡ true → rises key_of (put xs) ≡ true) → (r : Ordering) → bytes_cmp k (key_of x) ≡ r → rises key_of (put (x ∷ xs)) ≡ true
        of rest Less p =
            let both = and_true (list_all (above (key_of x)) xs) (rises key_of xs) h in
            ap (λ r. rises key_of (by_order r (new ∷ x ∷ xs) (joined x ∷ xs) (x ∷ put xs))) p
            ∙ ap (λ l. list_all (above l) (x ∷ xs) && rises key_of (x ∷ xs)) own
            ∙ and_both (list_all (above k) (x ∷ xs)) (rises key_of (x ∷ xs)) (and_both (above k x) (list_all (above k) xs) (ap is_lt p) (below k (key_of x) xs p both.0)) h
        of rest Equal p =
            ap (λ r. rises key_of (by_order r (new ∷ x ∷ xs) (joined x ∷ xs) (x ∷ put xs))) p
            ∙ ap (λ l. list_all (above l) xs && rises key_of xs) (same x)
            ∙ h
        of rest Greater p =
            let test = above (key_of x) in
            let both = and_true (list_all test xs) (rises key_of xs) h in
            let back : bytes_cmp (key_of x) k ≡ Less = bytes_order.total.antisymm (key_of x) k ∙ ap ordering_reverse p in
            let here : test new ≡ true = ap (λ l. is_lt (bytes_cmp (key_of x) l)) own ∙ ap is_lt back in
            ap (λ r. rises key_of (by_order r (new ∷ x ∷ xs) (joined x ∷ xs) (x ∷ put xs))) p
            ∙ and_both (list_all test (put xs)) (rises key_of (put xs))
            (all_put test here (λ y passes. ap (λ l. is_lt (bytes_cmp (key_of x) l)) (same y) ∙ passes) xs both.0) (rest both.1)

  -- ---- the first that passes a test, taken away

  module _ (taken : A → Bool) (without : List A → List A) (nothing : without [] ≡ []) (one : (x : A) (xs : List A) → without (x ∷ xs) ≡ cond (taken x) xs (x ∷ without xs)) where
    pub all_without : (test : A → Bool) (xs : List A) → list_all test xs ≡ true → list_all test (without xs) ≡ true
    all_without test [] h = ap (list_all test) nothing
    all_without test (x ∷ xs) h =
        let both = and_true (test x) (list_all test xs) h in
        let rest = all_without test xs both.1 in
        ap (list_all test) (one x xs)
        ∙ elim (taken x) as (λ b. list_all test (cond b xs (x ∷ without xs)) ≡ true) [
          | true ↦ both.1
          | false ↦ and_both (test x) (list_all test (without xs)) both.0 rest
        ]

    pub rises_without : (xs : List A) → rises key_of xs ≡ true → rises key_of (without xs) ≡ true
    rises_without [] h = ap (rises key_of) nothing
    rises_without (x ∷ xs) h =
        let both = and_true (list_all (above (key_of x)) xs) (rises key_of xs) h in
        let apart = all_without (above (key_of x)) xs both.0 in
        let rest = rises_without xs both.1 in
        ap (rises key_of) (one x xs)
        ∙ elim (taken x) as (λ b. rises key_of (cond b xs (x ∷ without xs)) ≡ true) [
          | true ↦ both.1
          | false ↦ and_both (list_all (above (key_of x)) (without xs)) (rises key_of (without xs)) apart rest
        ]
