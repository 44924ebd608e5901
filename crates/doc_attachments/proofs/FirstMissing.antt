-- Which of several missing references is first in the text.
use Rattle.std.proofs.Common.{◌≡◌, ◌<◌, ◌+◌, ℕ, Bool, true, false, Option, None, Some, List, [], ◌∷◌, ◌++◌, drop, get_or, length, map, refl, sym, ap, ◌∙◌, arith, leb}
use Rattle.std.proofs.lemmas.Bool.Decides.{nat_tests}
use Rattle.std.specs.List.{flat_map}
use Rattle.doc_attachments.proofs.Lists.{one_left}
use Rattle.doc_forms.specs.Attachments.{Missing, earlier_missing, first_missing, first_missing_of}

-- ---- the first of what is missing

transitive : (a b c : ℕ) → leb a b ≡ true → leb b c ≡ true → leb a c ≡ true
transitive a b c p q = grind (arith, nat_tests)

transitive_above : (a b c : ℕ) → leb a b ≡ false → leb b c ≡ false → leb a c ≡ false
transitive_above a b c p q = grind (arith, nat_tests)

first_of_three : (m n k : Missing) (a b : Bool) → leb m.0 n.0 ≡ a → leb n.0 k.0 ≡ b → earlier_missing m (Some (earlier_missing n (Some k))) ≡ earlier_missing (earlier_missing m (Some n)) (Some k)
first_of_three m n k true true p q = rw (q, p, transitive m.0 n.0 k.0 p q) refl
first_of_three m n k true false p q = rw (q, p) refl
first_of_three m n k false true p q = rw (q, p, q) refl
first_of_three m n k false false p q = rw (q, p, q, transitive_above m.0 n.0 k.0 p q) refl

earlier_assoc : (m : Missing) (n o : Option Missing) → earlier_missing m (first_missing_of n o) ≡ earlier_missing (earlier_missing m n) o
earlier_assoc m None o = refl
earlier_assoc m (Some n) None = refl
earlier_assoc m (Some n) (Some k) = first_of_three m n k (leb m.0 n.0) (leb n.0 k.0) refl refl

first_assoc : (a b c : Option Missing) → first_missing_of a (first_missing_of b c) ≡ first_missing_of (first_missing_of a b) c
first_assoc None b c = refl
first_assoc (Some m) b c = ap (λ (x : Missing). Some x) (earlier_assoc m b c)

pub first_alone : (a : Option Missing) → first_missing_of a None ≡ a
first_alone None = refl
first_alone (Some m) = refl

-- of two lists, one after the other
pub first_append : (ms ns : List Missing) → first_missing (ms ++ ns) ≡ first_missing_of (first_missing ms) (first_missing ns)
first_append [] ns = refl
first_append (m ∷ ms) ns =
    ap (λ o. Some (earlier_missing m o)) (first_append ms ns) ∙ ap (λ (x : Missing). Some x) (earlier_assoc m (first_missing ms) (first_missing ns))

-- one item more has been gone through
pub first_more : {X : Type 0} (missing : X → List Missing) (so_far : Option Missing) (x : X) (xs : List X)
    → first_missing_of (first_missing_of so_far (first_missing (missing x))) (first_missing (flat_map missing xs)) ≡ first_missing_of so_far (first_missing (flat_map missing (x ∷ xs)))
first_more missing so_far x xs =
    sym (ap (first_missing_of so_far) (first_append (missing x) (flat_map missing xs)) ∙ first_assoc so_far (first_missing (missing x)) (first_missing (flat_map missing xs)))

-- ---- what is missing of two parts

pub first_both : (one other : Option Missing) (ms ns : List Missing) → one ≡ first_missing ms → other ≡ first_missing ns → first_missing_of one other ≡ first_missing (ms ++ ns)
first_both one other ms ns e f = ap (λ o. first_missing_of o other) e ∙ (ap (first_missing_of (first_missing ms)) f ∙ sym (first_append ms ns))

-- ---- loops

-- what is missing first so far, or in what is left, once one item more has been gone through
pub one_passed : {X Y : Type 0} (view : X → Y) (missing : Y → List Missing) (items : List X) (at : ℕ) (x : X)
    (so_far its later whole : Option Missing)
    → at < length items → x ≡ get_or items at x
    → first_missing_of so_far (first_missing (flat_map missing (map view (drop at items)))) ≡ whole
    → its ≡ first_missing (missing (view x)) → later ≡ first_missing_of so_far its
    → first_missing_of later (first_missing (flat_map missing (map view (drop (at + 1) items)))) ≡ whole
one_passed view missing items at x so_far its later whole within is known of_item is_later =
    let left : drop at items ≡ x ∷ drop (at + 1) items = one_left items at x within is in
    ap (λ o. first_missing_of o (first_missing (flat_map missing (map view (drop (at + 1) items)))))
    (is_later ∙ ap (first_missing_of so_far) of_item)
    ∙ (first_more missing so_far (view x) (map view (drop (at + 1) items))
    ∙ (ap (λ t. first_missing_of so_far (first_missing (flat_map missing (map view t)))) (sym left) ∙ known))
