-- The names that a history has of fields that rise do rise.
use Rattle.std.proofs.Common.{◌≡◌, ℕ, Bool, true, false, ◌&&◌, List, [], ◌∷◌, ◌++◌, map, refl, sym, ap, ap₂, ◌∙◌, subst}
use Rattle.std.specs.List.{list_all}
use Rattle.std.specs.Ordering.{is_lt, is_ne}
use Rattle.std.specs.declared.cmp.Ordering.{Ordering}
use Rattle.std.specs.declared.cmp.Ordering.TheVariants.{Less, Equal, Greater}
use Rattle.vault_model.specs.Bare.{BareField}
use Rattle.vault_model.specs.Orders.{bytes_cmp, field_cmp}
use Rattle.cli_showing.specs.History.{name_if, names_changed}
use Rattle.cli_showing.specs.Laws.{do_fields_rise, do_names_rise}
use Rattle.cli_showing.proofs.NamedChanges.{above, and_both, and_left, and_right, below_all, below_first, equal_back, greater_back}

-- A name is below all these.
abbrev below_names : List ℕ → List (List ℕ) → Bool
below_names k names = list_all (λ (n : List ℕ). is_lt (bytes_cmp k n)) names

below_keys : (k : List ℕ) (fs : List BareField) → below_names k (map (λ (f : BareField). f.key) fs) ≡ above k fs
below_keys k [] = refl
below_keys k (f ∷ fs) = ap (λ (b : Bool). is_lt (bytes_cmp k f.key) && b) (below_keys k fs)

keys_rise : (fs : List BareField) → do_names_rise (map (λ (f : BareField). f.key) fs) ≡ do_fields_rise fs
keys_rise [] = refl
keys_rise (f ∷ fs) = ap₂ (λ (a b : Bool). a && b) (below_keys f.key fs) (keys_rise fs)

-- ---- a bound from below

bound_if : (k n : List ℕ) (d : Bool) (names : List (List ℕ)) → is_lt (bytes_cmp k n) ≡ true → below_names k names ≡ true
    → below_names k (name_if d n ++ names) ≡ true
bound_if k n true names h i = and_both (is_lt (bytes_cmp k n)) (below_names k names) h i
bound_if k n false names h i = i

bound_beside : (k : List ℕ) (f : BareField) (fs older : List BareField) → is_lt (bytes_cmp k f.key) ≡ true
    → ((o : List BareField) → above k o ≡ true → below_names k (names_changed fs o) ≡ true) → above k older ≡ true
    → below_names k (names_changed (f ∷ fs) older) ≡ true
bound_beside k f fs [] first bound h = and_both (is_lt (bytes_cmp k f.key)) (below_names k (names_changed fs [])) first (bound [] refl)
bound_beside k f fs (g ∷ gs) first bound h = go (bound_beside k f fs gs first bound) (bytes_cmp f.key g.key) refl
  where
    here : is_lt (bytes_cmp k g.key) ≡ true
    here = and_left (is_lt (bytes_cmp k g.key)) (above k gs) h

    past : above k gs ≡ true
    past = and_right (is_lt (bytes_cmp k g.key)) (above k gs) h

    go : (above k gs ≡ true → below_names k (names_changed (f ∷ fs) gs) ≡ true) → (o : Ordering) → bytes_cmp f.key g.key ≡ o
        → below_names k (names_changed (f ∷ fs) (g ∷ gs)) ≡ true
    go later Less e = rw e (and_both (is_lt (bytes_cmp k f.key)) (below_names k (names_changed fs (g ∷ gs))) first (bound (g ∷ gs) h))
    go later Equal e = rw e (bound_if k f.key (is_ne (field_cmp f g)) (names_changed fs gs) first (bound gs past))
    go later Greater e = rw e (and_both (is_lt (bytes_cmp k g.key)) (below_names k (names_changed (f ∷ fs) gs)) here (later past))

bound : (k : List ℕ) (newer older : List BareField) → above k newer ≡ true → above k older ≡ true → below_names k (names_changed newer older) ≡ true
bound k [] older h i = below_keys k older ∙ i
bound k (f ∷ fs) older h i =
    bound_beside k f fs older (and_left (is_lt (bytes_cmp k f.key)) (above k fs) h)
    (λ o j. bound k fs o (and_right (is_lt (bytes_cmp k f.key)) (above k fs) h) j) i

-- ---- names that rise

rise_if : (n : List ℕ) (d : Bool) (names : List (List ℕ)) → below_names n names ≡ true → do_names_rise names ≡ true
    → do_names_rise (name_if d n ++ names) ≡ true
rise_if n true names h i = and_both (below_names n names) (do_names_rise names) h i
rise_if n false names h i = i

rise_beside : (f : BareField) (fs older : List BareField) → above f.key fs ≡ true
    → ((o : List BareField) → do_fields_rise o ≡ true → do_names_rise (names_changed fs o) ≡ true) → do_fields_rise older ≡ true
    → do_names_rise (names_changed (f ∷ fs) older) ≡ true
rise_beside f fs [] first rise h =
    and_both (below_names f.key (names_changed fs [])) (do_names_rise (names_changed fs [])) (bound f.key fs [] first refl) (rise [] refl)
rise_beside f fs (g ∷ gs) first rise h = go (rise_beside f fs gs first rise) (bytes_cmp f.key g.key) refl
  where
    beyond : above g.key gs ≡ true
    beyond = and_left (above g.key gs) (do_fields_rise gs) h

    past : do_fields_rise gs ≡ true
    past = and_right (above g.key gs) (do_fields_rise gs) h

    go : (do_fields_rise gs ≡ true → do_names_rise (names_changed (f ∷ fs) gs) ≡ true) → (o : Ordering) → bytes_cmp f.key g.key ≡ o
        → do_names_rise (names_changed (f ∷ fs) (g ∷ gs)) ≡ true
    go later Less e =
        rw e
        (and_both (below_names f.key (names_changed fs (g ∷ gs))) (do_names_rise (names_changed fs (g ∷ gs)))
        (bound f.key fs (g ∷ gs) first (below_first f.key g gs e h)) (rise (g ∷ gs) h))
    go later Equal e =
        rw e
        (rise_if f.key (is_ne (field_cmp f g)) (names_changed fs gs)
        (bound f.key fs gs first (subst (λ (k : List ℕ). above k gs ≡ true) (sym (equal_back f g e)) beyond)) (rise gs past))
    go later Greater e =
        let back = greater_back f g e in
        rw e
        (and_both (below_names g.key (names_changed (f ∷ fs) gs)) (do_names_rise (names_changed (f ∷ fs) gs))
        (bound g.key (f ∷ fs) gs (and_both (is_lt (bytes_cmp g.key f.key)) (above g.key fs) (ap is_lt back) (below_all g.key f.key fs back first)) beyond)
        (later past))

pub names_rise : (newer older : List BareField) → do_fields_rise newer ≡ true → do_fields_rise older ≡ true
    → do_names_rise (names_changed newer older) ≡ true
names_rise [] older h i = keys_rise older ∙ i
names_rise (f ∷ fs) older h i =
    rise_beside f fs older (and_left (above f.key fs) (do_fields_rise fs) h)
    (λ o j. names_rise fs o (and_right (above f.key fs) (do_fields_rise fs) h) j) i
