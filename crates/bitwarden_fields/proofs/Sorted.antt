-- Fields by their keys.
use Rattle.std.proofs.Common.{◌≡◌, ℕ, Bool, true, List, [], ◌∷◌, map, refl, sym, ap, subst, ◌∙◌}
use Rattle.std.specs.List.{list_all}
use Rattle.std.specs.Ordering.{is_lt, ordering_reverse}
use Rattle.std.specs.declared.cmp.Ordering.{Ordering}
use Rattle.std.specs.declared.cmp.Ordering.TheVariants.{Less, Equal, Greater}
use Rattle.doc_forms.specs.Tables.{put, put_beside}
use Rattle.vault_model.specs.Bare.{BareField}
use Rattle.vault_model.specs.Orders.{bytes_cmp}
use Rattle.vault_model.specs.Proper.{is_text_field, rises}
use Rattle.vault_model.specs.Seen.{bare_field}
use Rattle.vault_model.specs.declared.contents.Field.{Field}
use Rattle.vault_model.proofs.Orders.{bytes_order}
use Rattle.bitwarden_fields.specs.Keys.{put_all, with_fields}
use Rattle.bitwarden_fields.specs.Said.{fields_of, said_fields}
use Rattle.serde_json.specs.Data.{Data}
use Rattle.vault_model.proofs.Tests.{and_both, and_true}

map_beside : (o : Ordering) (x y : Field) (ys after : List Field) (rest : List BareField) → map bare_field after ≡ rest
    → map bare_field (put_beside o x y ys after) ≡ put_beside o (bare_field x) (bare_field y) (map bare_field ys) rest
map_beside Less x y ys after rest is = refl
map_beside Equal x y ys after rest is = refl
map_beside Greater x y ys after rest is = ap (λ fs. bare_field y ∷ fs) is

-- a field put among others is seen so
pub map_put : (x : Field) (xs : List Field) → map bare_field (put (λ (f : Field). f.key) x xs) ≡ put (λ (f : BareField). f.key) (bare_field x) (map bare_field xs)
map_put x [] = refl
map_put x (y ∷ ys) = map_beside (bytes_cmp x.key y.key) x y ys (put (λ (f : Field). f.key) x ys) (put (λ (f : BareField). f.key) (bare_field x) (map bare_field ys)) (map_put x ys)

module _ (test : BareField → Bool) where
  all_beside : (o : Ordering) (x y : BareField) (ys after : List BareField) → test x ≡ true → test y ≡ true → list_all test ys ≡ true → list_all test after ≡ true
      → list_all test (put_beside o x y ys after) ≡ true
  all_beside Less x y ys after tx ty tys rest = and_both (test x) (list_all test (y ∷ ys)) tx (and_both (test y) (list_all test ys) ty tys)
  all_beside Equal x y ys after tx ty tys rest = and_both (test x) (list_all test ys) tx tys
  all_beside Greater x y ys after tx ty tys rest = and_both (test y) (list_all test after) ty rest

  pub all_put : (x : BareField) (xs : List BareField) → test x ≡ true → list_all test xs ≡ true → list_all test (put (λ (f : BareField). f.key) x xs) ≡ true
  all_put x [] tx txs = and_both (test x) true tx refl
  all_put x (y ∷ ys) tx txs =
      let both = and_true (test y) (list_all test ys) txs in
      all_beside (bytes_cmp x.key y.key) x y ys (put (λ (f : BareField). f.key) x ys) tx both.0 both.1 (all_put x ys tx both.1)

-- texts stay texts
pub texts_put : (x : Field) (xs new : List Field) → new ≡ put (λ (f : Field). f.key) x xs → is_text_field (bare_field x) ≡ true
    → list_all is_text_field (map bare_field xs) ≡ true → list_all is_text_field (map bare_field new) ≡ true
texts_put x xs new is text all =
    ap (λ fs. list_all is_text_field (map bare_field fs)) is ∙ ap (list_all is_text_field) (map_put x xs) ∙ all_put is_text_field (bare_field x) (map bare_field xs) text all

-- ---- keys that rise

less_from : (r : Ordering) → is_lt r ≡ true → r ≡ Less
less_from Less e = refl
less_from Equal e = cc e
less_from Greater e = cc e

before_all : (a b c : List ℕ) → bytes_cmp a b ≡ Less → is_lt (bytes_cmp b c) ≡ true → is_lt (bytes_cmp a c) ≡ true
before_all a b c ab bc = ap is_lt (bytes_order.total.trans a b c ab (less_from (bytes_cmp b c) bc))

turned : (a b : List ℕ) → bytes_cmp a b ≡ Greater → bytes_cmp b a ≡ Less
turned a b e = bytes_order.total.antisymm b a ∙ ap ordering_reverse e

abbrev is_after : List ℕ → BareField → Bool
is_after key f = is_lt (bytes_cmp key f.key)

later_all : (x y : BareField) (ys : List BareField) → bytes_cmp x.key y.key ≡ Less → list_all (is_after y.key) ys ≡ true → list_all (is_after x.key) ys ≡ true
later_all x y [] less all = refl
later_all x y (z ∷ zs) less all =
    let both = and_true (is_after y.key z) (list_all (is_after y.key) zs) all in
    and_both (is_after x.key z) (list_all (is_after x.key) zs) (before_all x.key y.key z.key less both.0) (later_all x y zs less both.1)

rises_beside : (x y : BareField) (ys after : List BareField) (r : Ordering) → bytes_cmp x.key y.key ≡ r
    → list_all (is_after y.key) ys ≡ true → rises (λ (f : BareField). f.key) ys ≡ true
    → list_all (is_after y.key) ys ≡ true → (is_lt (bytes_cmp y.key x.key) ≡ true → list_all (is_after y.key) after ≡ true) → rises (λ (f : BareField). f.key) after ≡ true
    → rises (λ (f : BareField). f.key) (put_beside r x y ys after) ≡ true
rises_beside x y ys after Less e first rest all later rising =
    and_both (list_all (is_after x.key) (y ∷ ys)) (rises (λ (f : BareField). f.key) (y ∷ ys))
    (and_both (is_after x.key y) (list_all (is_after x.key) ys) (ap is_lt e) (later_all x y ys e first))
    (and_both (list_all (is_after y.key) ys) (rises (λ (f : BareField). f.key) ys) first rest)
rises_beside x y ys after Equal e first rest all later rising =
    and_both (list_all (is_after x.key) ys) (rises (λ (f : BareField). f.key) ys)
    (subst (λ (k : List ℕ). list_all (is_after k) ys ≡ true) (sym (bytes_order.same x.key y.key e)) first) rest
rises_beside x y ys after Greater e first rest all later rising =
    and_both (list_all (is_after y.key) after) (rises (λ (f : BareField). f.key) after) (later (ap is_lt (turned x.key y.key e))) rising

rises_put : (x : BareField) (xs : List BareField) → rises (λ (f : BareField). f.key) xs ≡ true → rises (λ (f : BareField). f.key) (put (λ (f : BareField). f.key) x xs) ≡ true
rises_put x [] up = refl
rises_put x (y ∷ ys) up =
    let both = and_true (list_all (is_after y.key) ys) (rises (λ (f : BareField). f.key) ys) up in
    rises_beside x y ys (put (λ (f : BareField). f.key) x ys) (bytes_cmp x.key y.key) refl both.0 both.1 both.0 (λ less. all_put (is_after y.key) x ys less both.0) (rises_put x ys both.1)

pub rises_all : (fields sorted : List BareField) → rises (λ (f : BareField). f.key) sorted ≡ true → rises (λ (f : BareField). f.key) (put_all fields sorted) ≡ true
rises_all [] sorted up = up
rises_all (f ∷ fields) sorted up = rises_all fields (put (λ (g : BareField). g.key) f sorted) (rises_put f sorted up)

-- the keys of an item's fields rise
pub fields_rise : (password : List ℕ) (item : Data) → rises (λ (f : BareField). f.key) (fields_of password item) ≡ true
fields_rise password item = rises_all (with_fields (said_fields password item) []) [] refl
