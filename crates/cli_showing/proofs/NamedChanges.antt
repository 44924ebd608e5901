-- Which names a history has of fields that rise, and that they rise.
use Rattle.std.proofs.Common.{◌≡◌, ℕ, Bool, true, false, cond, ◌&&◌, ◌||◌, List, [], ◌∷◌, ◌++◌, Option, None, Some, map, refl, sym, ap, ap₂, ◌∙◌, subst}
use Rattle.std.proofs.lemmas.Map.Text.{is_eq-slice_cmp}
use Rattle.std.specs.Cmp.{Equal-is, tied_itself}
use Rattle.std.specs.List.{list_all}
use Rattle.std.specs.Option.{option_cmp}
use Rattle.std.specs.Ordering.{is_eq, is_lt, is_ne, ordering_reverse}
use Rattle.std.specs.Prelude.{bytes_eq}
use Rattle.std.specs.declared.cmp.Ordering.{Ordering}
use Rattle.std.specs.declared.cmp.Ordering.TheVariants.{Less, Equal, Greater}
use Rattle.vault_model.specs.Bare.{BareField}
use Rattle.vault_model.specs.Orders.{bytes_cmp, field_cmp}
use Rattle.vault_model.proofs.Orders.{bytes_order, field_order, options_order}
use Rattle.cli_showing.specs.History.{name_if, names_changed}
use Rattle.cli_showing.specs.Laws.{do_fields_rise, is_named}
use Rattle.cli_showing.specs.Showing.{field_of}

-- ---- tests

pub and_left : (a b : Bool) → (a && b) ≡ true → a ≡ true
and_left true b h = refl
and_left false b h = h

pub and_right : (a b : Bool) → (a && b) ≡ true → b ≡ true
and_right true b h = h
and_right false b h = cc h

pub and_both : (a b : Bool) → a ≡ true → b ≡ true → (a && b) ≡ true
and_both a b h i = ap₂ (λ (x y : Bool). x && y) h i

less_found : (o : Ordering) → is_lt o ≡ true → o ≡ Less
less_found Less h = refl
less_found Equal h = cc h
less_found Greater h = cc h

-- ---- names in order

same_name : (n k : List ℕ) → bytes_eq n k ≡ true → n ≡ k
same_name n k h = bytes_order.same n k ((Equal-is (bytes_cmp n k)).0 (is_eq-slice_cmp n k ∙ h))

lesser_differs : (n k : List ℕ) → bytes_cmp n k ≡ Less → bytes_eq n k ≡ false
lesser_differs n k e = sym (is_eq-slice_cmp n k) ∙ ap is_eq e

-- A name is below those of all these fields.
abbrev pub above : List ℕ → List BareField → Bool
above n fields = list_all (λ (f : BareField). is_lt (bytes_cmp n f.key)) fields

pub below_all : (n k : List ℕ) (fs : List BareField) → bytes_cmp n k ≡ Less → above k fs ≡ true → above n fs ≡ true
below_all n k [] e h = refl
below_all n k (f ∷ fs) e h =
    let first = less_found (bytes_cmp k f.key) (and_left (is_lt (bytes_cmp k f.key)) (above k fs) h) in
    and_both (is_lt (bytes_cmp n f.key)) (above n fs) (ap is_lt (bytes_order.total.trans n k f.key e first))
    (below_all n k fs e (and_right (is_lt (bytes_cmp k f.key)) (above k fs) h))

pub below_first : (n : List ℕ) (g : BareField) (gs : List BareField) → bytes_cmp n g.key ≡ Less → do_fields_rise (g ∷ gs) ≡ true
    → above n (g ∷ gs) ≡ true
below_first n g gs e h =
    and_both (is_lt (bytes_cmp n g.key)) (above n gs) (ap is_lt e)
    (below_all n g.key gs e (and_left (above g.key gs) (do_fields_rise gs) h))

absent : (n : List ℕ) (fs : List BareField) → above n fs ≡ true → field_of n fs ≡ None
absent n [] h = refl
absent n (f ∷ fs) h =
    let first = less_found (bytes_cmp n f.key) (and_left (is_lt (bytes_cmp n f.key)) (above n fs) h) in
    ap (λ (b : Bool). cond b (Some f) (field_of n fs)) (lesser_differs n f.key first)
    ∙ absent n fs (and_right (is_lt (bytes_cmp n f.key)) (above n fs) h)

-- The field of a name that is below all others.
absent_at : (n k : List ℕ) (fs : List BareField) → above k fs ≡ true → bytes_eq n k ≡ true → field_of n fs ≡ None
absent_at n k fs h same = absent n fs (subst (λ (m : List ℕ). above m fs ≡ true) (sym (same_name n k same)) h)

pub greater_back : (f g : BareField) → bytes_cmp f.key g.key ≡ Greater → bytes_cmp g.key f.key ≡ Less
greater_back f g e = bytes_order.total.antisymm g.key f.key ∙ ap ordering_reverse e

pub equal_back : (f g : BareField) → bytes_cmp f.key g.key ≡ Equal → f.key ≡ g.key
equal_back f g e = bytes_order.same f.key g.key e

-- ---- which names there are

-- Two fields of a name differ.
abbrev differ : Option BareField → Option BareField → Bool
differ x y = is_ne (option_cmp field_cmp x y)

newer_first : (f : BareField) (b : Bool) (x y : Option BareField) → (b ≡ true → y ≡ None)
    → (b || differ x y) ≡ differ (cond b (Some f) x) y
newer_first f true x y h = rw (h refl) refl
newer_first f false x y h = refl

older_first : (g : BareField) (b : Bool) (x y : Option BareField) → (b ≡ true → x ≡ None)
    → (b || differ x y) ≡ differ x (cond b (Some g) y)
older_first g true x y h = rw (h refl) refl
older_first g false x y h = refl

both_first : (f g : BareField) (d b : Bool) (x y : Option BareField) → is_ne (field_cmp f g) ≡ d → (b ≡ true → x ≡ None) → (b ≡ true → y ≡ None)
    → cond d (b || differ x y) (differ x y) ≡ differ (cond b (Some f) x) (cond b (Some g) y)
both_first f g true true x y e h i = sym e
both_first f g true false x y e h i = refl
both_first f g false true x y e h i = rw (h refl, i refl) (sym e)
both_first f g false false x y e h i = refl

named_if : (n k : List ℕ) (d : Bool) (names : List (List ℕ))
    → is_named n (name_if d k ++ names) ≡ cond d (bytes_eq n k || is_named n names) (is_named n names)
named_if n k true names = refl
named_if n k false names = refl

older_named : (n : List ℕ) (gs : List BareField) → is_named n (map (λ (f : BareField). f.key) gs) ≡ differ None (field_of n gs)
older_named n [] = refl
older_named n (g ∷ gs) =
    ap (λ (b : Bool). bytes_eq n g.key || b) (older_named n gs) ∙ older_first g (bytes_eq n g.key) None (field_of n gs) (λ _. refl)

-- The names beside a field are told, where those of the fields after it are.
beside_told : (n : List ℕ) (f : BareField) (fs older : List BareField) → above f.key fs ≡ true
    → ((o : List BareField) → do_fields_rise o ≡ true → is_named n (names_changed fs o) ≡ differ (field_of n fs) (field_of n o))
    → do_fields_rise older ≡ true → is_named n (names_changed (f ∷ fs) older) ≡ differ (field_of n (f ∷ fs)) (field_of n older)
beside_told n f fs [] first told h =
    ap (λ (b : Bool). bytes_eq n f.key || b) (told [] refl) ∙ newer_first f (bytes_eq n f.key) (field_of n fs) None (λ _. refl)
beside_told n f fs (g ∷ gs) first told h = go (beside_told n f fs gs first told) (bytes_cmp f.key g.key) refl
  where
    below : do_fields_rise gs ≡ true
    below = and_right (above g.key gs) (do_fields_rise gs) h

    go : (do_fields_rise gs ≡ true → is_named n (names_changed (f ∷ fs) gs) ≡ differ (field_of n (f ∷ fs)) (field_of n gs)) → (o : Ordering)
        → bytes_cmp f.key g.key ≡ o
        → is_named n (names_changed (f ∷ fs) (g ∷ gs)) ≡ differ (field_of n (f ∷ fs)) (field_of n (g ∷ gs))
    go later Less e =
        rw e
        (ap (λ (b : Bool). bytes_eq n f.key || b) (told (g ∷ gs) h)
        ∙ newer_first f (bytes_eq n f.key) (field_of n fs) (field_of n (g ∷ gs)) (absent_at n f.key (g ∷ gs) (below_first f.key g gs e h)))
    go later Equal e =
        rw e
        (named_if n f.key (is_ne (field_cmp f g)) (names_changed fs gs)
        ∙ ap (λ (b : Bool). cond (is_ne (field_cmp f g)) (bytes_eq n f.key || b) b) (told gs below)
        ∙ both_first f g (is_ne (field_cmp f g)) (bytes_eq n f.key) (field_of n fs) (field_of n gs) refl (absent_at n f.key fs first)
        (λ b. absent_at n g.key gs (and_left (above g.key gs) (do_fields_rise gs) h) (ap (bytes_eq n) (sym (equal_back f g e)) ∙ b))
        ∙ ap (λ (k : List ℕ). differ (field_of n (f ∷ fs)) (cond (bytes_eq n k) (Some g) (field_of n gs))) (equal_back f g e))
    go later Greater e =
        rw e
        (ap (λ (b : Bool). bytes_eq n g.key || b) (later below)
        ∙ older_first g (bytes_eq n g.key) (field_of n (f ∷ fs)) (field_of n gs)
        (absent_at n g.key (f ∷ fs)
        (and_both (is_lt (bytes_cmp g.key f.key)) (above g.key fs) (ap is_lt (greater_back f g e)) (below_all g.key f.key fs (greater_back f g e) first))))

pub told : (n : List ℕ) (newer older : List BareField) → do_fields_rise newer ≡ true → do_fields_rise older ≡ true
    → is_named n (names_changed newer older) ≡ differ (field_of n newer) (field_of n older)
told n [] older h i = older_named n older
told n (f ∷ fs) older h i =
    beside_told n f fs older (and_left (above f.key fs) (do_fields_rise fs) h)
    (λ o r. told n fs o (and_right (above f.key fs) (do_fields_rise fs) h) r) i

never_both : (o : Ordering) → is_ne o ≡ true → o ≡ Equal → ⊥
never_both Less h e = cc e
never_both Equal h e = cc h
never_both Greater h e = cc e

one_of_them : (o : Ordering) → (o ≡ Equal → ⊥) → is_ne o ≡ true
one_of_them Less h = refl
one_of_them Equal h = absurd (h refl)
one_of_them Greater h = refl

-- Where the test says that they differ, they do.
pub differ_apart : (x y : Option BareField) → differ x y ≡ true → x ≡ y → ⊥
differ_apart x y h e = never_both (option_cmp field_cmp x y) h (subst (λ (z : Option BareField). option_cmp field_cmp x z ≡ Equal) e (itself x))
  where
    itself : (z : Option BareField) → option_cmp field_cmp z z ≡ Equal
    itself z = tied_itself (options_order field_order).total z

pub apart_differ : (x y : Option BareField) → (x ≡ y → ⊥) → differ x y ≡ true
apart_differ x y h = one_of_them (option_cmp field_cmp x y) (λ e. h ((options_order field_order).same x y e))
