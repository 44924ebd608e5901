-- Trees of which two nodes have one id, or an attachment refers to no binary.
use Rattle.std.proofs.Common.{◌≡◌, ◌≢◌, ◌⊎◌, inl, inr, ℕ, ◌==◌, ◌≤◌, nat_le, Bool, true, false, cond, Option, Some, None, is_some, List, [], ◌∷◌, ◌++◌, bytes_eq, refl, sym, ap, subst, ◌∙◌, arith}
use Rattle.std.specs.List.{list_any}
use Rattle.std.specs.Ordering.{is_lt, ordering_reverse}
use Rattle.std.specs.declared.cmp.Ordering.{Ordering}
use Rattle.std.specs.declared.cmp.Ordering.TheVariants.{Less, Equal, Greater}
use Rattle.std.proofs.lemmas.Bool.{eqb-true, eqb-false}
use Rattle.std.proofs.lemmas.Bool.Decides.{leb_tells}
use Rattle.std.proofs.lemmas.Slice.Eq.{bytes_eq-Decides}
use Rattle.vault_model.specs.Db.{NodeId}
use Rattle.vault_model.specs.Join.{IsIn}
use Rattle.vault_model.specs.Orders.{bytes_cmp}
use Rattle.vault_model.proofs.Orders.{bytes_order}
use Rattle.vault_model.proofs.Tests.{any_found, any_true, apart, from_flat, in_back, in_either, in_flat, in_front}
use Rattle.doc_forms.specs.Attachments.{Missing, binary_of, earlier_missing, first_missing, last_of_number, missing_all, missing_attachment, missing_entry, missing_in, missing_source, missing_version}
use Rattle.doc_forms.specs.Entries.{ReadEntry, ReadSource, ReadVersion, own_bytes, pool_number}
use Rattle.doc_forms.specs.Groups.{ReadTree, ReadTrees, beside, node, none}
use Rattle.doc_forms.specs.Ids.{least_duplicate, lesser_id}
use Rattle.doc_forms.specs.Metas.{ReadBinary}
use Rattle.document_cause_laws.specs.DocumentCauses.{EntryRefers, HasNoBinary, IsTwice, TreeRefers, TreesRefer, VersionRefers}

-- ---- two nodes of one id

abbrev some_in : {A : Type 0} → A → Option A → A
some_in x None = x
some_in x (Some y) = y

-- an id of a list is between what is before it and what is after it
split : (u : NodeId) (ids : List NodeId) → IsIn u ids → (front : List NodeId) × (back : List NodeId) × (ids ≡ front ++ (u ∷ back))
split u [] there = absurd there
split u (v ∷ vs) (inl same) = ([], vs, ap (λ w. w ∷ vs) same)
split u (v ∷ vs) (inr there) = let s = split u vs there in (v ∷ s.0, s.1, ap (λ ws. v ∷ ws) s.2)

more : (v u : NodeId) (us : List NodeId) → IsTwice u us → IsTwice u (v ∷ us)
more v u us t = record { front = v ∷ t.front; middle = t.middle; back = t.back; is = ap (λ ws. v ∷ ws) t.is }

-- of an id and another the lesser is one of both
lesser : {P : NodeId → Type 0} (u : NodeId) (o : Option NodeId) → P u → ((v : NodeId) → o ≡ Some v → P v) → P (lesser_id u o)
lesser u None here there = here
lesser {P} u (Some v) here there = by (is_lt (bytes_cmp u v))
  where
    by : (b : Bool) → P (cond b u v)
    by true = here
    by false = there v refl

pub twice : (ids : List NodeId) (u : NodeId) → least_duplicate ids ≡ Some u → IsTwice u ids
twice [] u h = cc h
twice (v ∷ vs) u h = by (twice vs) (list_any (bytes_eq v) vs) refl h
  where
    by : ((w : NodeId) → least_duplicate vs ≡ Some w → IsTwice w vs) → (b : Bool) → list_any (bytes_eq v) vs ≡ b → cond b (Some (lesser_id v (least_duplicate vs))) (least_duplicate vs) ≡ Some u → IsTwice u (v ∷ vs)
    by later true e k =
        let f = any_found (bytes_eq v) vs e in
        let s = split v vs (subst (λ w. IsIn w vs) (sym ((bytes_eq-Decides v f.0).0 f.1.1)) f.1.0) in
        subst (λ w. IsTwice w (v ∷ vs)) (ap (some_in v) k)
        (lesser {P = λ w. IsTwice w (v ∷ vs)} v (least_duplicate vs) (record { front = []; middle = s.0; back = s.1; is = ap (λ ws. v ∷ ws) s.2 }) (λ w is. more v w vs (later w is)))
    by later false e k = more v u vs (later u k)

-- the second is not below the first
abbrev NotBelow : NodeId → NodeId → Type 0
NotBelow w v = is_lt (bytes_cmp v w) ≡ false

not_self : (x : NodeId) → NotBelow x x
not_self x = by (bytes_cmp x x) (bytes_order.total.antisymm x x)
  where
    by : (o : Ordering) → o ≡ ordering_reverse o → is_lt o ≡ false
    by Less e = cc e
    by Equal e = refl
    by Greater e = refl

less_is : (o : Ordering) → is_lt o ≡ true → o ≡ Less
less_is Less e = refl
less_is Equal e = cc e
less_is Greater e = cc e

below : (x w v : NodeId) → is_lt (bytes_cmp x w) ≡ true → NotBelow w v → NotBelow x v
below x w v under not = by (is_lt (bytes_cmp v x)) refl
  where
    by : (b : Bool) → is_lt (bytes_cmp v x) ≡ b → b ≡ false
    by true e = absurd (apart (is_lt (bytes_cmp v w)) (ap is_lt (bytes_order.total.trans v x w (less_is (bytes_cmp v x) e) (less_is (bytes_cmp x w) under))) not)
    by false e = refl

abbrev first_or : NodeId → List NodeId → NodeId
first_or u [] = u
first_or u (v ∷ vs) = v

abbrev rest_of : List NodeId → List NodeId
rest_of [] = []
rest_of (v ∷ vs) = vs

-- of a list with one more in front, that one and another are the two, or both are in the list
in_rest : (x v : NodeId) (xs : List NodeId) → IsTwice v (x ∷ xs) → ((x ≡ v) × IsIn v xs) ⊎ IsTwice v xs
in_rest x v xs t = by t.front t.is
  where
    by : (front : List NodeId) → (x ∷ xs) ≡ (front ++ (v ∷ (t.middle ++ (v ∷ t.back)))) → ((x ≡ v) × IsIn v xs) ⊎ IsTwice v xs
    by [] e = inl (ap (first_or x) e, subst (λ ws. IsIn v ws) (sym (ap rest_of e)) (in_back t.middle (v ∷ t.back) v (inl refl)))
    by (w ∷ ws) e = inr (record { front = ws; middle = t.middle; back = t.back; is = ap rest_of e })

none_twice : (v : NodeId) → IsTwice v [] → ⊥
none_twice v t = by t.front t.is
  where
    by : (front : List NodeId) → [] ≡ (front ++ (v ∷ (t.middle ++ (v ∷ t.back)))) → ⊥
    by [] e = cc e
    by (w ∷ ws) e = cc e

least : (ids : List NodeId) (v : NodeId) → IsTwice v ids → (w : NodeId) × (least_duplicate ids ≡ Some w) × NotBelow w v
least [] v t = absurd (none_twice v t)
least (x ∷ xs) v t = by (list_any (bytes_eq x) xs) refl (in_rest x v xs t) (least xs v)
  where
    IsLeast : Option NodeId → Type 0
    IsLeast o = (w : NodeId) × (o ≡ Some w) × NotBelow w v

    of_two : (w : NodeId) (b : Bool) → is_lt (bytes_cmp x w) ≡ b → NotBelow w v → NotBelow (cond b x w) v
    of_two w true e not = below x w v e not
    of_two w false e not = not

    at_first : (o : Option NodeId) → x ≡ v → NotBelow (lesser_id x o) v
    at_first None same = subst (λ u. NotBelow x u) same (not_self x)
    at_first (Some w) same = subst (λ u. NotBelow (lesser_id x (Some w)) u) same (with_self (is_lt (bytes_cmp x w)) refl)
      where
        with_self : (b : Bool) → is_lt (bytes_cmp x w) ≡ b → NotBelow (cond b x w) x
        with_self true e = not_self x
        with_self false e = e

    by : (b : Bool) → list_any (bytes_eq x) xs ≡ b → ((x ≡ v) × IsIn v xs) ⊎ IsTwice v xs → (IsTwice v xs → IsLeast (least_duplicate xs))
        → IsLeast (cond b (Some (lesser_id x (least_duplicate xs))) (least_duplicate xs))
    by true any (inl h) later = (lesser_id x (least_duplicate xs), refl, at_first (least_duplicate xs) h.0)
    by true any (inr h) later =
        let k = later h in
        (lesser_id x (least_duplicate xs), refl, subst (λ o. NotBelow (lesser_id x o) v) (sym k.1) (of_two k.0 (is_lt (bytes_cmp x k.0)) refl k.2))
    by false any (inl h) later = absurd (apart (list_any (bytes_eq x) xs) (any_true (bytes_eq x) xs v h.1 ((bytes_eq-Decides x v).1 h.0)) any)
    by false any (inr h) later = later h

pub least_is : (ids : List NodeId) (u : NodeId) → least_duplicate ids ≡ Some u → (v : NodeId) → IsTwice v ids → is_lt (bytes_cmp v u) ≡ false
least_is ids u h v t =
    let k = least ids v t in
    subst (λ w. NotBelow w v) (ap (some_in u) (sym k.1 ∙ h)) k.2

-- ---- references to no binary

-- the first of what is missing is missing, and stands before the others
pub first_of : (ms : List Missing) (m : Missing) → first_missing ms ≡ Some m → IsIn m ms × ((n : Missing) → IsIn n ms → m.0 ≤ n.0)
first_of [] m h = cc h
first_of (x ∷ xs) m h = by (first_missing xs) refl (ap (some_of x) h) (first_of xs)
  where
    some_of : Missing → Option Missing → Missing
    some_of y None = y
    some_of y (Some z) = z

    no_more : (ys : List Missing) → first_missing ys ≡ None → (n : Missing) → IsIn n ys → ⊥
    no_more [] e n there = there
    no_more (y ∷ ys) e n there = cc e

    by : (o : Option Missing) → first_missing xs ≡ o → earlier_missing x o ≡ m
        → ((y : Missing) → first_missing xs ≡ Some y → IsIn y xs × ((n : Missing) → IsIn n xs → y.0 ≤ n.0)) → IsIn m (x ∷ xs) × ((n : Missing) → IsIn n (x ∷ xs) → m.0 ≤ n.0)
    by None is same later = (
      inl same,
      λ n there. elim there [
        | inl a ↦ subst (λ (y : Missing). m.0 ≤ y.0) a (subst (λ (y : Missing). y.0 ≤ x.0) same (omega arith))
        | inr a ↦ absurd (no_more xs is n a)
      ],
    )
    by (Some y) is same later = of_two (nat_le x.0 y.0) refl same
      where
        of_two : (b : Bool) → nat_le x.0 y.0 ≡ b → cond b x y ≡ m → IsIn m (x ∷ xs) × ((n : Missing) → IsIn n (x ∷ xs) → m.0 ≤ n.0)
        of_two true e k =
            let f = later y is in
            let low : x.0 ≤ y.0 = elim (leb_tells x.0 y.0) [ inl a ↦ a.1 | inr a ↦ absurd (apart (nat_le x.0 y.0) e a.0) ] in (
              inl k,
              λ n there. subst (λ (z : Missing). z.0 ≤ n.0) k (elim there [
                | inl a ↦ subst (λ (z : Missing). x.0 ≤ z.0) a (omega arith)
                | inr a ↦ let g = f.1 n a in omega arith
              ]),
            )
        of_two false e k =
            let f = later y is in
            let high : y.0 ≤ x.0 = elim (leb_tells x.0 y.0) [ inl a ↦ absurd (apart (nat_le x.0 y.0) a.0 e) | inr a ↦ omega arith ] in (
              inr (subst (λ (z : Missing). IsIn z xs) k f.0),
              λ n there. subst (λ (z : Missing). z.0 ≤ n.0) k (elim there [
                | inl a ↦ subst (λ (z : Missing). y.0 ≤ z.0) a high
                | inr a ↦ f.1 n a
              ]),
            )

module _ (pool : List ReadBinary) where
  abbrev IsUnknown : ℕ → Type 0
  IsUnknown n = is_some (binary_of pool n) ≡ false

  in_source : (source : ReadSource) (m : Missing) → IsIn m (missing_source pool source) → (source ≡ pool_number m.0 m.1) × IsUnknown m.1
  in_source (own_bytes bytes) m there = absurd there
  in_source (pool_number o n) m there = by (is_some (binary_of pool n)) refl there
    where
      by : (b : Bool) → is_some (binary_of pool n) ≡ b → IsIn m (cond b [] ((o, n) ∷ [])) → (pool_number o n ≡ pool_number m.0 m.1) × IsUnknown m.1
      by true e h = absurd h
      by false e (inl same) = (ap (λ (k : Missing). pool_number k.0 k.1) same, subst (λ (k : Missing). IsUnknown k.1) same e)
      by false e (inr h) = absurd h

  from_source : (source : ReadSource) (o n : ℕ) → source ≡ pool_number o n → IsUnknown n → IsIn {A = Missing} (o, n) (missing_source pool source)
  from_source source o n is unknown =
      subst (λ (x : ReadSource). IsIn {A = Missing} (o, n) (missing_source pool x)) (sym is) (subst (λ (b : Bool). IsIn {A = Missing} (o, n) (cond b [] ((o, n) ∷ []))) (sym unknown) (inl refl))

  in_version : (v : ReadVersion) (m : Missing) → IsIn m (missing_version pool v) → VersionRefers v m.0 m.1 × IsUnknown m.1
  in_version v m there =
      let f = from_flat (missing_attachment pool) v.attachments m there in
      let g = in_source f.0.source m f.1.1 in
      ((f.0, f.1.0, g.0), g.1)

  in_entry : (e : ReadEntry) (m : Missing) → IsIn m (missing_entry pool e) → EntryRefers e m.0 m.1 × IsUnknown m.1
  in_entry e m there =
      let f = from_flat (missing_version pool) (e.current ∷ e.history) m there in
      let g = in_version f.0 m f.1.1 in
      ((f.0, f.1.0, g.0), g.1)

  from_entry : (e : ReadEntry) (o n : ℕ) → EntryRefers e o n → IsUnknown n → IsIn {A = Missing} (o, n) (missing_entry pool e)
  from_entry e o n h unknown =
      in_flat (missing_version pool) (e.current ∷ e.history) h.0 (o, n) h.1
      (in_flat (missing_attachment pool) h.0.attachments h.2.0 (o, n) h.2.1 (from_source h.2.0.source o n h.2.2 unknown))

  mutual
    pub in_tree : (tree : ReadTree) (m : Missing) → IsIn m (missing_in pool tree) → TreeRefers tree m.0 m.1 × IsUnknown m.1
    in_tree (node u r es ts) m there = elim (in_either {A = Missing} _ (missing_all pool ts) m there) [
      | inl a ↦ let f = from_flat (missing_entry pool) es m a in let g = in_entry f.0 m f.1.1 in (inl (f.0, f.1.0, g.0), g.1)
      | inr a ↦ let g = in_trees ts m a in (inr g.0, g.1)
    ]

    in_trees : (ts : ReadTrees) (m : Missing) → IsIn m (missing_all pool ts) → TreesRefer ts m.0 m.1 × IsUnknown m.1
    in_trees none m there = absurd there
    in_trees (beside t ts) m there = elim (in_either (missing_in pool t) (missing_all pool ts) m there) [
      | inl a ↦ let g = in_tree t m a in (inl g.0, g.1)
      | inr a ↦ let g = in_trees ts m a in (inr g.0, g.1)
    ]

  mutual
    pub from_tree : (tree : ReadTree) (o n : ℕ) → TreeRefers tree o n → IsUnknown n → IsIn {A = Missing} (o, n) (missing_in pool tree)
    from_tree (node u r es ts) o n (inl h) unknown = in_front _ (missing_all pool ts) (o, n) (in_flat (missing_entry pool) es h.0 (o, n) h.1 (from_entry h.0 o n h.2 unknown))
    from_tree (node u r es ts) o n (inr h) unknown = in_back _ (missing_all pool ts) (o, n) (from_trees ts o n h unknown)

    from_trees : (ts : ReadTrees) (o n : ℕ) → TreesRefer ts o n → IsUnknown n → IsIn {A = Missing} (o, n) (missing_all pool ts)
    from_trees none o n h unknown = absurd h
    from_trees (beside t ts) o n (inl h) unknown = in_front (missing_in pool t) (missing_all pool ts) (o, n) (from_tree t o n h unknown)
    from_trees (beside t ts) o n (inr h) unknown = in_back (missing_in pool t) (missing_all pool ts) (o, n) (from_trees ts o n h unknown)

-- there is no binary of a number exactly where none is found
pub none_found : (n : ℕ) (known : Option ReadBinary) (pool : List ReadBinary) → is_some (last_of_number n known pool) ≡ false
    → (is_some known ≡ false) × HasNoBinary pool n
none_found n known [] h = (h, λ b there. absurd there)
none_found n known (x ∷ xs) h = by (x.number == n) refl (none_found n (cond (x.number == n) (Some x) known) xs h)
  where
    by : (b : Bool) → (x.number == n) ≡ b → (is_some (cond b (Some x) known) ≡ false) × HasNoBinary xs n → (is_some known ≡ false) × HasNoBinary (x ∷ xs) n
    by true e k = cc k.0
    by false e k = (
      k.0,
      λ b there. elim there [
        | inl a ↦ subst (λ (y : ReadBinary). y.number ≢ n) a (eqb-false x.number n e)
        | inr a ↦ k.1 b a
      ],
    )

pub not_found : (n : ℕ) (known : Option ReadBinary) (pool : List ReadBinary) → is_some known ≡ false → HasNoBinary pool n
    → is_some (last_of_number n known pool) ≡ false
not_found n known [] h lacks = h
not_found n known (x ∷ xs) h lacks = by (x.number == n) refl (λ k. not_found n k xs)
  where
    by : (b : Bool) → (x.number == n) ≡ b → ((k : Option ReadBinary) → is_some k ≡ false → HasNoBinary xs n → is_some (last_of_number n k xs) ≡ false) → is_some (last_of_number n (cond b (Some x) known) xs) ≡ false
    by true e later = absurd (lacks x (inl refl) (eqb-true x.number n e))
    by false e later = later known h (λ b there. lacks b (inr there))
