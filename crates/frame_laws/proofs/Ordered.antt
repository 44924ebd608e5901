-- Items whose names rise, of which one is put in its place or taken away.
use Rattle.std.proofs.Common.{◌≡◌, ◌&&◌, Bool, true, false, cond, inl, inr, List, [], ◌∷◌, Option, None, Some, find, ℕ, refl, sym, ap, ◌∙◌}
use Rattle.std.proofs.lemmas.Slice.Eq.{bytes_eq-Decides}
use Rattle.std.specs.List.{list_all}
use Rattle.std.specs.Ordering.{is_eq, is_lt, ordering_reverse}
use Rattle.std.specs.Str.{bytes_eq}
use Rattle.std.specs.declared.cmp.Ordering.{Ordering}
use Rattle.std.specs.declared.cmp.Ordering.TheVariants.{Less, Equal, Greater}
use Rattle.vault_model.specs.Orders.{bytes_cmp}
use Rattle.vault_model.specs.Proper.{rises}
use Rattle.vault_model.specs.Unite.{by_order}
use Rattle.vault_model.proofs.Orders.{bytes_order}
use Rattle.vault_model.proofs.Tests.{and_both, and_true, apart, decide, is_false}
use Rattle.merge_core.proofs.Unite.{tie, ties}
use Rattle.tree_core.specs.InOrder.{put_in_order}
use Rattle.frame_laws.specs.Entries.{is_key}

pub same_key : (a b : List ℕ) → is_key a b ≡ true → a ≡ b
same_key a b p = tie bytes_order.total bytes_order.same a b p

pub key_itself : (k : List ℕ) → is_key k k ≡ true
key_itself k = ties bytes_order.total bytes_order.same k

pub same_text : (a b : List ℕ) → bytes_eq a b ≡ true → a ≡ b
same_text a b p = (bytes_eq-Decides a b).0 p

pub text_itself : (a : List ℕ) → bytes_eq a a ≡ true
text_itself a = (bytes_eq-Decides a a).1 refl

pub other_key : (a b : List ℕ) → bytes_eq a b ≡ false → is_key a b ≡ false
other_key a b p = is_false (is_key a b) (λ q. apart (bytes_eq a b) ((bytes_eq-Decides a b).1 (same_key a b q)) p)

-- both tests of texts are the same
pub one_test : (a b : List ℕ) → bytes_eq a b ≡ is_key a b
one_test a b =
    elim (decide (bytes_eq a b)) [
      | inl p ↦ p ∙ sym (ap (is_key a) (sym (same_text a b p)) ∙ key_itself a)
      | inr p ↦ p ∙ sym (other_key a b p)
    ]

is_less : (o : Ordering) → is_lt o ≡ true → o ≡ Less
is_less Less h = refl
is_less Equal h = cc h
is_less Greater h = cc h

module _ {A : Type 0} (name : A → List ℕ) where
  -- the item of a name
  abbrev pub item_of : List ℕ → List A → Option A
  item_of k xs = find (λ x. is_key k (name x)) xs

  -- an item of another name is passed over
  pub skip : (k : List ℕ) (x : A) (xs : List A) → is_key k (name x) ≡ false → item_of k (x ∷ xs) ≡ item_of k xs
  skip k x xs p = ap (λ b. cond b (Some x) (item_of k xs)) p

  pub hit : (k : List ℕ) (x : A) (xs : List A) → is_key k (name x) ≡ true → item_of k (x ∷ xs) ≡ Some x
  hit k x xs p = ap (λ b. cond b (Some x) (item_of k xs)) p

  ahead : (k : List ℕ) (x : A) (xs ys : List A) → item_of k xs ≡ item_of k ys → item_of k (x ∷ xs) ≡ item_of k (x ∷ ys)
  ahead k x xs ys e = ap (λ o. cond (is_key k (name x)) (Some x) o) e

  abbrev above : List ℕ → A → Bool
  above k x = is_lt (bytes_cmp k (name x))

  -- a name is not among those that are greater
  absent : (k : List ℕ) (xs : List A) → list_all (above k) xs ≡ true → item_of k xs ≡ None
  absent k [] h = refl
  absent k (x ∷ xs) h =
      let both = and_true (above k x) (list_all (above k) xs) h in
      skip k x xs (ap is_eq (is_less (bytes_cmp k (name x)) both.0)) ∙ absent k xs both.1

  below : (k l : List ℕ) (xs : List A) → bytes_cmp k l ≡ Less → list_all (above l) xs ≡ true → list_all (above k) xs ≡ true
  below k l [] e h = refl
  below k l (x ∷ xs) e h =
      let both = and_true (above l x) (list_all (above l) xs) h in
      and_both (above k x) (list_all (above k) xs)
      (ap is_lt (bytes_order.total.trans k l (name x) e (is_less (bytes_cmp l (name x)) both.0))) (below k l xs e both.1)

  -- ---- one that is put in its place

  module _ (new : A) (joined : A → A) (keeps : (x : A) → name (joined x) ≡ name x) where
    abbrev put : List A → List A
    put = put_in_order (λ x. bytes_cmp (name new) (name x)) new joined

    abbrev at_place : Ordering → A → List A → List A
    at_place o x xs = by_order o (new ∷ x ∷ xs) (joined x ∷ xs) (x ∷ put xs)

    pub put_others : (k : List ℕ) → is_key k (name new) ≡ false → (xs : List A) → item_of k (put xs) ≡ item_of k xs
    put_others k off [] = skip k new [] off
    put_others k off (x ∷ xs) = at (put_others k off xs) (bytes_cmp (name new) (name x)) refl
      where
        at : item_of k (put xs) ≡ item_of k xs → (o : Ordering) → bytes_cmp (name new) (name x) ≡ o → item_of k (at_place (bytes_cmp (name new) (name x)) x xs) ≡ item_of k (x ∷ xs)
        at rest Less e = ap (λ o. item_of k (at_place o x xs)) e ∙ skip k new (x ∷ xs) off
        at rest Equal e =
            let other : is_key k (name x) ≡ false = ap (is_key k) (sym (bytes_order.same (name new) (name x) e)) ∙ off in
            ap (λ o. item_of k (at_place o x xs)) e ∙ skip k (joined x) xs (ap (is_key k) (keeps x) ∙ other) ∙ sym (skip k x xs other)
        at rest Greater e = ap (λ o. item_of k (at_place o x xs)) e ∙ ahead k x (put xs) xs rest

    -- what is there afterwards
    abbrev pub made : Option A → A
    made None = new
    made (Some x) = joined x

    pub put_own : (xs : List A) → rises name xs ≡ true → item_of (name new) (put xs) ≡ Some (made (item_of (name new) xs))
    put_own [] h = hit (name new) new [] (key_itself (name new))
    put_own (x ∷ xs) h = at (put_own xs (and_true (list_all (above (name x)) xs) (rises name xs) h).1) (bytes_cmp (name new) (name x)) refl
      where
        at : item_of (name new) (put xs) ≡ Some (made (item_of (name new) xs)) → (o : Ordering) → bytes_cmp (name new) (name x) ≡ o
            → item_of (name new) (at_place (bytes_cmp (name new) (name x)) x xs) ≡ Some (made (item_of (name new) (x ∷ xs)))
        at rest Less e =
            let both = and_true (list_all (above (name x)) xs) (rises name xs) h in
            let none = skip (name new) x xs (ap is_eq e) ∙ absent (name new) xs (below (name new) (name x) xs e both.0) in
            ap (λ o. item_of (name new) (at_place o x xs)) e ∙ hit (name new) new (x ∷ xs) (key_itself (name new)) ∙ sym (ap (λ o. Some (made o)) none)
        at rest Equal e =
            let on : is_key (name new) (name x) ≡ true = ap is_eq e in
            ap (λ o. item_of (name new) (at_place o x xs)) e ∙ hit (name new) (joined x) xs (ap (is_key (name new)) (keeps x) ∙ on)
            ∙ sym (ap (λ o. Some (made o)) (hit (name new) x xs on))
        at rest Greater e =
            let off : is_key (name new) (name x) ≡ false = ap is_eq e in
            ap (λ o. item_of (name new) (at_place o x xs)) e ∙ skip (name new) x (put xs) off ∙ rest ∙ sym (ap (λ o. Some (made o)) (skip (name new) x xs off))

    all_put : (l : List ℕ) (xs : List A) → bytes_cmp l (name new) ≡ Less → list_all (above l) xs ≡ true → list_all (above l) (put xs) ≡ true
    all_put l [] e h = and_both (above l new) true (ap is_lt e) refl
    all_put l (x ∷ xs) e h =
        let both = and_true (above l x) (list_all (above l) xs) h in
        let rest = all_put l xs e both.1 in
        elim (bytes_cmp (name new) (name x)) as (λ o. list_all (above l) (at_place o x xs) ≡ true) [
          | Less ↦ and_both (above l new) (list_all (above l) (x ∷ xs)) (ap is_lt e) h
          | Equal ↦ and_both (above l (joined x)) (list_all (above l) xs) (ap (λ m. is_lt (bytes_cmp l m)) (keeps x) ∙ both.0) both.1
          | Greater ↦ and_both (above l x) (list_all (above l) (put xs)) both.0 rest
        ]

    pub rises_put : (xs : List A) → rises name xs ≡ true → rises name (put xs) ≡ true
    rises_put [] h = refl
    rises_put (x ∷ xs) h = at (rises_put xs) (bytes_cmp (name new) (name x)) refl
      where
        at : (rises name xs ≡ true → rises name (put xs) ≡ true) → (o : Ordering) → bytes_cmp (name new) (name x) ≡ o → rises name (at_place (bytes_cmp (name new) (name x)) x xs) ≡ true
        at rest Less e =
            let both = and_true (list_all (above (name x)) xs) (rises name xs) h in
            ap (λ o. rises name (at_place o x xs)) e
            ∙ and_both (list_all (above (name new)) (x ∷ xs)) (rises name (x ∷ xs))
            (and_both (above (name new) x) (list_all (above (name new)) xs) (ap is_lt e) (below (name new) (name x) xs e both.0)) h
        at rest Equal e = ap (λ o. rises name (at_place o x xs)) e ∙ ap (λ m. list_all (above m) xs && rises name xs) (keeps x) ∙ h
        at rest Greater e =
            let both = and_true (list_all (above (name x)) xs) (rises name xs) h in
            let back : bytes_cmp (name x) (name new) ≡ Less = bytes_order.total.antisymm (name x) (name new) ∙ ap ordering_reverse e in
            ap (λ o. rises name (at_place o x xs)) e
            ∙ and_both (list_all (above (name x)) (put xs)) (rises name (put xs)) (all_put (name x) xs back both.0) (rest both.1)

  -- ---- one that is taken away

  abbrev pub but_item : List ℕ → List A → List A
  but_item key [] = []
  but_item key (x ∷ xs) = cond (bytes_eq key (name x)) xs (x ∷ but_item key xs)

  pub but_others : (k key : List ℕ) (xs : List A) → is_key k key ≡ false → item_of k (but_item key xs) ≡ item_of k xs
  but_others k key [] off = refl
  but_others k key (x ∷ xs) off = at (but_others k key xs off) (bytes_eq key (name x)) refl
    where
      at : item_of k (but_item key xs) ≡ item_of k xs → (b : Bool) → bytes_eq key (name x) ≡ b → item_of k (but_item key (x ∷ xs)) ≡ item_of k (x ∷ xs)
      at rest true e =
          let other : is_key k (name x) ≡ false = ap (is_key k) (sym (same_text key (name x) e)) ∙ off in
          ap (λ b. item_of k (cond b xs (x ∷ but_item key xs))) e ∙ sym (skip k x xs other)
      at rest false e = ap (λ b. item_of k (cond b xs (x ∷ but_item key xs))) e ∙ ahead k x (but_item key xs) xs rest

  pub but_own : (key : List ℕ) (xs : List A) → rises name xs ≡ true → item_of key (but_item key xs) ≡ None
  but_own key [] h = refl
  but_own key (x ∷ xs) h = at (but_own key xs (and_true (list_all (above (name x)) xs) (rises name xs) h).1) (bytes_eq key (name x)) refl
    where
      at : item_of key (but_item key xs) ≡ None → (b : Bool) → bytes_eq key (name x) ≡ b → item_of key (but_item key (x ∷ xs)) ≡ None
      at rest true e =
          let both = and_true (list_all (above (name x)) xs) (rises name xs) h in
          ap (λ b. item_of key (cond b xs (x ∷ but_item key xs))) e
          ∙ absent key xs (ap (λ m. list_all (above m) xs) (same_text key (name x) e) ∙ both.0)
      at rest false e = ap (λ b. item_of key (cond b xs (x ∷ but_item key xs))) e ∙ skip key x (but_item key xs) (other_key key (name x) e) ∙ rest

  all_but : (test : A → Bool) (key : List ℕ) (xs : List A) → list_all test xs ≡ true → list_all test (but_item key xs) ≡ true
  all_but test key [] h = h
  all_but test key (x ∷ xs) h =
      let both = and_true (test x) (list_all test xs) h in
      let rest = all_but test key xs both.1 in
      elim (bytes_eq key (name x)) as (λ b. list_all test (cond b xs (x ∷ but_item key xs)) ≡ true) [
        | true ↦ both.1
        | false ↦ and_both (test x) (list_all test (but_item key xs)) both.0 rest
      ]

  pub rises_but : (key : List ℕ) (xs : List A) → rises name xs ≡ true → rises name (but_item key xs) ≡ true
  rises_but key [] h = h
  rises_but key (x ∷ xs) h =
      let both = and_true (list_all (above (name x)) xs) (rises name xs) h in
      let over = all_but (above (name x)) key xs both.0 in
      let rest = rises_but key xs both.1 in
      elim (bytes_eq key (name x)) as (λ b. rises name (cond b xs (x ∷ but_item key xs)) ≡ true) [
        | true ↦ both.1
        | false ↦ and_both (list_all (above (name x)) (but_item key xs)) (rises name (but_item key xs)) over rest
      ]
