-- Ids that stand once, and keys that rise.
use Rattle.std.proofs.Common.{◌≡◌, ℕ, Bool, true, false, not, cond, inl, inr, List, [], ◌∷◌, ◌++◌, map, refl, sym, ap, ◌∙◌}
use Rattle.std.proofs.Math.Dec.{T}
use Rattle.std.specs.FinMap.{is_sorted}
use Rattle.std.specs.FinMap.Entries.{below_all}
use Rattle.std.specs.List.{list_any, list_all, filter}
use Rattle.std.specs.Ordering.{is_eq, is_lt}
use Rattle.vault_model.specs.Db.{NodeId, id_cmp}
use Rattle.vault_model.specs.Join.{is_id, IsIn}
use Rattle.vault_model.specs.Orders.{bytes_cmp}
use Rattle.vault_model.specs.Proper.{rises}
use Rattle.vault_model.specs.Shape.{in_order}
use Rattle.vault_model.specs.Tree.{are_distinct}
use Rattle.vault_model.proofs.Ids.{is_same_id}
use Rattle.merge_core.proofs.SoundDoc.{AreDistinct, distinct_head}
use Rattle.merge_core.proofs.Tables.{both_parts, below_in}
use Rattle.merge_core.proofs.Laid.{in_list, list_in}
use Rattle.vault_model.proofs.Orders.{id_order}
use Rattle.vault_model.proofs.Tests.{and_both, not_true, not_false, is_false, apart, in_either, from_filter, from_map}

pub distinct_to : (us : List NodeId) → AreDistinct us → are_distinct us ≡ true
distinct_to [] d = refl
distinct_to (u ∷ us) d =
    and_both (not (list_any (is_id u) us)) (are_distinct us) (not_false (list_any (is_id u) us) d.0) (distinct_to us d.1)

pub not_among : (u : NodeId) (us : List NodeId) → (IsIn u us → ⊥) → list_any (is_id u) us ≡ false
not_among u us f = is_false (list_any (is_id u) us) (λ e. f (in_list u us e))

pub distinct_both : (xs ys : List NodeId) → AreDistinct xs → AreDistinct ys → ((u : NodeId) → IsIn u xs → IsIn u ys → ⊥) → AreDistinct (xs ++ ys)
distinct_both [] ys d e off = e
distinct_both (x ∷ xs) ys d e off = (
  not_among x (xs ++ ys) (λ h. elim (in_either xs ys x h) [ inl k ↦ distinct_head x xs d k | inr k ↦ off x (inl refl) k ]),
  distinct_both xs ys d.1 e (λ u h k. off u (inr h) k),
)

pub distinct_filter : (test : NodeId → Bool) (us : List NodeId) → AreDistinct us → AreDistinct (filter test us)
distinct_filter test [] d = tt
distinct_filter test (u ∷ us) d = one (test u) (distinct_filter test us d.1)
  where
    one : (b : Bool) → AreDistinct (filter test us) → AreDistinct (cond b (u ∷ filter test us) (filter test us))
    one true r = (not_among u (filter test us) (λ h. distinct_head u us d (from_filter test us u h).0), r)
    one false r = r

-- put in order, ids that stood once stand once
pub distinct_order : (old now : List NodeId) → AreDistinct old → AreDistinct now → AreDistinct (in_order old now)
distinct_order old now d e =
    distinct_both (filter (λ u. list_any (is_id u) now) old) (filter (λ u. not (list_any (is_id u) old)) now)
    (distinct_filter (λ u. list_any (is_id u) now) old d) (distinct_filter (λ u. not (list_any (is_id u) old)) now e)
    (λ u h k.
    let f = from_filter (λ v. list_any (is_id v) now) old u h in
    let g = from_filter (λ v. not (list_any (is_id v) old)) now u k in
    apart (list_any (is_id u) old) (list_in u old f.0) (not_true (list_any (is_id u) old) g.1))

-- ---- keys of a finite map

pub distinct_keys : {X : Type 0} (es : List (NodeId × X)) → T (is_sorted id_cmp es) → AreDistinct (map (λ (e : NodeId × X). e.0) es)
distinct_keys [] h = tt
distinct_keys {X} (e ∷ es) h =
    let parts = both_parts (below_all id_cmp e.0 es) (is_sorted id_cmp es) h in (
      not_among e.0 (map (λ (w : NodeId × X). w.0) es) (λ k.
          let f = from_map (λ (w : NodeId × X). w.0) es e.0 k in
          apart (is_id e.0 f.0.0) (is_same_id e.0 f.0.0 (sym f.1.1)) (ap is_eq (below_in id_order.total id_order.same e.0 es f.0 parts.0 f.1.0))),
      distinct_keys es parts.1,
    )

pub in_all : {A : Type 0} (test : A → Bool) (xs : List A) → ((x : A) → IsIn x xs → test x ≡ true) → list_all test xs ≡ true
in_all test [] each = refl
in_all test (x ∷ xs) each = and_both (test x) (list_all test xs) (each x (inl refl)) (in_all test xs (λ y h. each y (inr h)))

-- what is made of the entries of a map rises by its keys
pub sorted_rises : {A X : Type 0} (key : A → List ℕ) (f : List ℕ × X → A) (es : List (List ℕ × X)) → T (is_sorted bytes_cmp es)
    → ((e : List ℕ × X) → IsIn e es → key (f e) ≡ e.0) → rises key (map f es) ≡ true
sorted_rises key f [] h same = refl
sorted_rises key f (e ∷ es) h same =
    let parts = both_parts (below_all bytes_cmp e.0 es) (is_sorted bytes_cmp es) h in
    and_both (list_all (λ y. is_lt (bytes_cmp (key (f e)) (key y))) (map f es)) (rises key (map f es))
    (in_all (λ y. is_lt (bytes_cmp (key (f e)) (key y))) (map f es) (λ y k.
    let g = from_map f es y k in
    let here = same e (inl refl) in
    let there = ap key (sym g.1.1) ∙ same g.0 (inr g.1.0) in
    (λ i. is_lt (bytes_cmp (here i) (there i))) ∙ ap is_lt (below_in id_order.total id_order.same e.0 es g.0 parts.0 g.1.0)))
    (sorted_rises key f es parts.1 (λ x k. same x (inr k)))
