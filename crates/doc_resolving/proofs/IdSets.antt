-- Sets of ids, into which the ids of a list are put from the last to the first.
use Rattle.std.proofs.Common.{◌≡◌, ◌<◌, ◌≤◌, ◌-◌, ℕ, suc, Bool, true, false, not, cond, ◌||◌, List, ◌∷◌, Option, Some, length, drop, get_or, refl, sym, ap, ◌∙◌, arith}
use Rattle.std.proofs.Math.Seq.{drop-cons}
use Rattle.std.proofs.lemmas.Slice.Eq.{bytes_eq-Decides}
use Rattle.std.specs.BTreeSet.{BTreeSet, contains, Updates}
use Rattle.std.specs.Cmp.{both_ways}
use Rattle.std.specs.List.{list_any}
use Rattle.std.specs.Str.{bytes_eq}
use Rattle.vault_model.specs.Db.{NodeId, id_cmp}
use Rattle.vault_model.specs.Join.{is_id}
use Rattle.vault_model.proofs.Ids.{same_id, is_same_id}
use Rattle.vault_model.proofs.Tests.{any_same}
use Rattle.doc_forms.specs.Ids.{least_duplicate, lesser_id}

-- both ways of comparing ids
pub is_bytes : (u v : NodeId) → is_id u v ≡ bytes_eq u v
is_bytes u v =
    let bytes = bytes_eq-Decides u v in
    both_ways (is_id u v) (bytes_eq u v) (λ e. bytes.1 (same_id u v e)) (λ e. is_same_id u v (bytes.0 e))

pub either_way : (u v : NodeId) → is_id u v ≡ is_id v u
either_way u v = both_ways (is_id u v) (is_id v u) (λ e. is_same_id v u (sym (same_id u v e))) (λ e. is_same_id u v (sym (same_id v u e)))

pub among_bytes : (u : NodeId) (us : List NodeId) → list_any (is_id u) us ≡ list_any (bytes_eq u) us
among_bytes u us = any_same (is_id u) (bytes_eq u) us (λ v h. is_bytes u v)

-- a list from a position on, from the position before it on
pub from_before : {A : Type 0} (xs : List A) (at : ℕ) (x : A) → 0 < at → at ≤ length xs → x ≡ get_or xs (at - 1) x → drop (at - 1) xs ≡ x ∷ drop at xs
from_before xs at x some children_and_end is =
    let below : at - 1 < length xs = omega arith in
    let next : suc (at - 1) ≡ at = omega arith in
    drop-cons xs (at - 1) x below ∙ ap (λ y. y ∷ drop (suc (at - 1)) xs) (sym is) ∙ ap (λ n. x ∷ drop n xs) next

either_test : (b c : Bool) → cond b true c ≡ (b || c)
either_test true c = refl
either_test false c = refl

-- a set of ids with one more
pub one_more_id : (us : List NodeId) (u : NodeId) (before after : BTreeSet NodeId)
    → ((v : NodeId) → contains id_cmp before v ≡ list_any (is_id v) us)
    → Updates id_cmp before after u true
    → (v : NodeId) → contains id_cmp after v ≡ list_any (is_id v) (u ∷ us)
one_more_id us u before after set updates v =
    updates.0 v
    ∙ either_test (is_id u v) (contains id_cmp before v)
    ∙ ap (λ b. b || contains id_cmp before v) (either_way u v)
    ∙ ap (λ b. is_id v u || b) (set v)

-- What is known of the ids from a position on: the least duplicate, and which those are.
pub record SetFrom (ids : List NodeId) (at : ℕ) (least : Option NodeId) (set : BTreeSet NodeId) : Type 0 where
  pub least_is : least ≡ least_duplicate (drop at ids)
  pub ids_are : (u : NodeId) → contains id_cmp set u ≡ list_any (is_id u) (drop at ids)

cond_not : {A : Type 0} (b : Bool) (x y : A) → cond (not b) x y ≡ cond b y x
cond_not true x y = refl
cond_not false x y = refl

-- the least after one more
least_with : (us : List NodeId) (u : NodeId) (least : Option NodeId) (is_new again : Bool)
    → least ≡ least_duplicate us
    → is_new ≡ not again
    → again ≡ list_any (bytes_eq u) us
    → cond is_new least (Some (lesser_id u least)) ≡ least_duplicate (u ∷ us)
least_with us u least is_new again p q r =
    ap (λ b. cond b least (Some (lesser_id u least))) q
    ∙ cond_not again least (Some (lesser_id u least))
    ∙ ap (λ l. cond again (Some (lesser_id u l)) l) p
    ∙ ap (λ b. cond b (Some (lesser_id u (least_duplicate us))) (least_duplicate us)) r

-- one more id was put into the set: for the first time, or again
pub one_before : (ids : List NodeId) (at : ℕ) (u : NodeId) (least : Option NodeId) (before after : BTreeSet NodeId) (is_new : Bool)
    → SetFrom ids at least before
    → 0 < at
    → at ≤ length ids
    → u ≡ get_or ids (at - 1) u
    → is_new ≡ not (contains id_cmp before u)
    → Updates id_cmp before after u true
    → SetFrom ids (at - 1) (cond is_new least (Some (lesser_id u least))) after
one_before ids at u least before after is_new known some children_and_end is new updates =
    let us = drop at ids in
    let longer = from_before ids at u some children_and_end is in
    record {
      least_is = least_with us u least is_new (contains id_cmp before u) known.least_is new (known.ids_are u ∙ among_bytes u us) ∙ ap least_duplicate (sym longer);
      ids_are = λ v. one_more_id us u before after known.ids_are updates v ∙ ap (list_any (is_id v)) (sym longer);
    }
