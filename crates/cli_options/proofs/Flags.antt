-- Flags one after another, in any order.
use Rattle.std.proofs.Common.{◌≡◌, ◌≢◌, ◌⊎◌, inl, inr, ℕ, zero, suc, Bool, true, false, not, ◌&&◌, cond, List, [], ◌∷◌, ◌++◌, is_some, slice_set, Option, Some, None, refl, sym, ap, ◌∙◌}
use Rattle.std.specs.Option.{option_and_then}
use Rattle.std.proofs.lemmas.Bool.{cases_eq}
use Rattle.std.proofs.lemmas.Bool.Decides.{Decides-eqb}
use Rattle.std.proofs.lemmas.List.{get_or-set_other}
use Rattle.cli_options.specs.declared.forms.CommandOption.{CommandOption}
use Rattle.cli_options.specs.Options.{is_repeatable, place_of}
use Rattle.cli_options.proofs.Places.{same_option}
use Rattle.cli_options.specs.Said.{Said, is_option_of, is_used, repeated_with, unless_given, with_given, with_option_text}

-- The flags of a list, one after another.
abbrev pub with_flags : List CommandOption → Said → Option Said
with_flags [] said = Some said
with_flags (flag ∷ flags) said = option_and_then (with_flags flags) (with_given said flag [])

-- Two steps as one.
pub joined : (F G : Said → Option Said) (o : Option Said)
    → option_and_then G (option_and_then F o) ≡ option_and_then (λ s. option_and_then G (F s)) o
joined F G None = refl
joined F G (Some s) = refl

-- The same step under another name.
pub same_step : (F G : Said → Option Said) → ((s : Said) → F s ≡ G s) → (o : Option Said)
    → option_and_then F o ≡ option_and_then G o
same_step F G h None = refl
same_step F G h (Some s) = h s

-- No flags change nothing.
no_flags : (o : Option Said) → option_and_then (with_flags []) o ≡ o
no_flags None = refl
no_flags (Some s) = refl

-- Two steps of which each is refused for a reason of its own.
pair : (a b : Bool) (F G : Said → Option Said) (s t r : Said) → F s ≡ unless_given b r → G t ≡ unless_given a r
    → option_and_then F (unless_given a s) ≡ option_and_then G (unless_given b t)
pair true true F G s t r f g = refl
pair true false F G s t r f g = sym g
pair false true F G s t r f g = f
pair false false F G s t r f g = f ∙ sym g

-- Texts at two places.
set_past_set : (xs : List (Option (List ℕ))) (i j : ℕ) (x y : Option (List ℕ)) → i ≢ j
    → slice_set (slice_set xs i x) j y ≡ slice_set (slice_set xs j y) i x
set_past_set [] i j x y h = refl
set_past_set (z ∷ zs) zero zero x y h = absurd (h refl)
set_past_set (z ∷ zs) zero (suc j) x y h = refl
set_past_set (z ∷ zs) (suc i) zero x y h = refl
set_past_set (z ∷ zs) (suc i) (suc j) x y h = ap (λ ts. z ∷ ts) (set_past_set zs i j x y (λ e. h (ap suc e)))

-- Texts of two options, of which no other one is both.
repeated_past : (a b : Bool) (repeated : CommandOption → List (List ℕ)) (f g : CommandOption) (t u : List ℕ) → place_of f ≢ place_of g
    → repeated_with b (repeated_with a repeated f t) g u ≡ repeated_with a (repeated_with b repeated g u) f t
repeated_past false b repeated f g t u h = refl
repeated_past true false repeated f g t u h = refl
repeated_past true true repeated f g t u h =
    λ i other. by other (is_option_of f other) (is_option_of g other) refl refl i
  where
    by : (other : CommandOption) (x y : Bool) → is_option_of f other ≡ x → is_option_of g other ≡ y
        → cond y (cond x (repeated other ++ t ∷ []) (repeated other) ++ u ∷ []) (cond x (repeated other ++ t ∷ []) (repeated other))
        ≡ cond x (cond y (repeated other ++ u ∷ []) (repeated other) ++ t ∷ []) (cond y (repeated other ++ u ∷ []) (repeated other))
    by other true true e d = absurd (h ((Decides-eqb (place_of f) (place_of other)).0 e ∙ sym ((Decides-eqb (place_of g) (place_of other)).0 d)))
    by other true false e d = refl
    by other false y e d = refl

-- Options in two places.
place_past_place : (said : Said) (f g : CommandOption) (t u : List ℕ) → place_of f ≢ place_of g
    → option_and_then (λ s. with_given s g u) (with_given said f t) ≡ option_and_then (λ s. with_given s f t) (with_given said g u)
place_past_place said f g t u other =
    let texts = said.given in
    let one = with_option_text said f t in
    let two = with_option_text said g u in
    let both = with_option_text one g u in
    pair (is_used f texts) (is_used g texts) (λ s. with_given s g u) (λ s. with_given s f t) one two both
    (ap (λ o. unless_given (not (is_repeatable g) && is_some o) both) (get_or-set_other texts (place_of f) (place_of g) (Some t) None (λ e. other (sym e))))
    (ap (λ o. unless_given (not (is_repeatable f) && is_some o) (with_option_text two f t)) (get_or-set_other texts (place_of g) (place_of f) (Some u) None other)
    ∙ (λ i. unless_given (is_used f texts) (record said {
      given = set_past_set texts (place_of g) (place_of f) (Some u) (Some t) (λ e. other (sym e)) i;
      repeated = repeated_past (is_repeatable g) (is_repeatable f) said.repeated g f u t (λ e. other (sym e)) i;
    })))

-- Two options in either order, with their texts: different options, or the same text.
pub given_past_given : (said : Said) (f g : CommandOption) (t u : List ℕ) → (f ≢ g) ⊎ (t ≡ u)
    → option_and_then (λ s. with_given s g u) (with_given said f t) ≡ option_and_then (λ s. with_given s f t) (with_given said g u)
given_past_given said f g t u h = by (cases_eq (place_of f) (place_of g))
  where
    alike : f ≡ g → (f ≢ g) ⊎ (t ≡ u)
        → option_and_then (λ s. with_given s g u) (with_given said f t) ≡ option_and_then (λ s. with_given s f t) (with_given said g u)
    alike e (inl other) = absurd (other e)
    alike e (inr same) = rw (e, same) refl

    by : (place_of f ≡ place_of g) ⊎ (place_of f ≢ place_of g)
        → option_and_then (λ s. with_given s g u) (with_given said f t) ≡ option_and_then (λ s. with_given s f t) (with_given said g u)
    by (inl e) = alike (same_option f g e) h
    by (inr other) = place_past_place said f g t u other

-- Two flags in either order.
flag_past_flag : (said : Said) (f g : CommandOption)
    → option_and_then (λ s. with_given s g []) (with_given said f []) ≡ option_and_then (λ s. with_given s f []) (with_given said g [])
flag_past_flag said f g = given_past_given said f g [] [] (inr refl)

-- A flag before others or after them.
flag_past_flags : (f : CommandOption) (gs : List CommandOption) (said : Said)
    → option_and_then (with_flags gs) (with_given said f []) ≡ option_and_then (λ s. with_given s f []) (with_flags gs said)
flag_past_flags f [] said = no_flags (with_given said f [])
flag_past_flags f (g ∷ gs) said =
    sym (joined (λ s. with_given s g []) (with_flags gs) (with_given said f []))
    ∙ ap (option_and_then (with_flags gs)) (flag_past_flag said f g)
    ∙ joined (λ s. with_given s f []) (with_flags gs) (with_given said g [])
    ∙ same_step (λ s. option_and_then (with_flags gs) (with_given s f []))
    (λ s. option_and_then (λ t. with_given t f []) (with_flags gs s))
    (flag_past_flags f gs) (with_given said g [])
    ∙ sym (joined (with_flags gs) (λ s. with_given s f []) (with_given said g []))

-- Flags in either order.
pub flags_exchanged : (fs gs : List CommandOption) (said : Said)
    → option_and_then (with_flags gs) (with_flags fs said) ≡ option_and_then (with_flags fs) (with_flags gs said)
flags_exchanged [] gs said = sym (no_flags (with_flags gs said))
flags_exchanged (f ∷ fs) gs said =
    joined (with_flags fs) (with_flags gs) (with_given said f [])
    ∙ same_step (λ s. option_and_then (with_flags gs) (with_flags fs s))
    (λ s. option_and_then (with_flags fs) (with_flags gs s))
    (flags_exchanged fs gs) (with_given said f [])
    ∙ sym (joined (with_flags gs) (with_flags fs) (with_given said f []))
    ∙ ap (option_and_then (with_flags fs)) (flag_past_flags f gs said)
    ∙ joined (λ s. with_given s f []) (with_flags fs) (with_flags gs said)

-- Flags after flags are one list of them.
pub flags_appended : (fs gs : List CommandOption) (said : Said)
    → with_flags (fs ++ gs) said ≡ option_and_then (with_flags gs) (with_flags fs said)
flags_appended [] gs said = refl
flags_appended (f ∷ fs) gs said =
    same_step (with_flags (fs ++ gs)) (λ s. option_and_then (with_flags gs) (with_flags fs s))
    (flags_appended fs gs) (with_given said f [])
    ∙ sym (joined (with_flags fs) (with_flags gs) (with_given said f []))
