-- Fields by their keys after some get values of their own and some are taken away.
use Rattle.std.proofs.Common.{◌≡◌, ◌&&◌, ◌||◌, ◌⊎◌, Bool, true, false, cond, inl, inr, List, [], ◌∷◌, Option, None, Some, Result, Ok, Err, is_some, find, ◌+◌, codes, ℕ, refl, sym, ap, subst, ◌∙◌}
use Rattle.std.proofs.lemmas.Option.{same_Some}
use Rattle.std.specs.Prelude.{if◌then◌else◌}
use Rattle.std.specs.List.{list_any}
use Rattle.vault_model.specs.declared.metas.Protection.{Protection}
use Rattle.vault_model.specs.Bare.{BareField}
use Rattle.vault_model.proofs.Tests.{decide, or_cases, or_false}
use Rattle.tree_core.specs.declared.fails.TreeFail.{TreeFail}
use Rattle.tree_core.specs.declared.fails.TreeFail.TheVariants.{NoField}
use Rattle.tree_core.specs.Finding.{or_else}
use Rattle.tree_core.specs.FurtherChanges.{FurtherChange, has_field, missing_from, with_own_value, with_own_values, without_fields}
use Rattle.tree_core.specs.NewNodes.{GivenValues, edited_fields, field, without_field}
use Rattle.tree_core.proofs.Options.{never}
use Rattle.frame_laws.specs.Entries.{AreEditedFields, HasFlag, IsUntouched, field_of, is_key, is_protected, is_unset, last_value}
use Rattle.frame_laws.proofs.Fields.{Rise, edited_rise, fields_flags, fields_given, fields_gone, fields_hidden, fields_others, key_of, without_others, without_own, without_rises}
use Rattle.frame_laws.proofs.Ordered.{made, one_test, put_others, put_own, rises_put, same_key}

abbrev F : Type 0
F = BareField

-- ---- a field that gets a value of its own

-- what it is after that, by what was there
abbrev own_made : (key value : List ℕ) → Bool → Option F → F
own_made key value protect = made key_of (field key value protect) (λ (f : F). record f { value = value; hidden = f.hidden || protect }) (λ f. refl)

own_value : (key value : List ℕ) (protect : Bool) (o : Option F) → (own_made key value protect o).value ≡ value
own_value key value protect None = refl
own_value key value protect (Some f) = refl

or_same : (b : Bool) → (b || b) ≡ b
or_same true = refl
or_same false = refl

or_again : (b c : Bool) → ((b || c) || c) ≡ (b || c)
or_again true c = refl
or_again false c = or_same c

-- of two values for one key the last counts
again : (key old value : List ℕ) (protect : Bool) (o : Option F) → own_made key value protect (Some (own_made key old protect o)) ≡ own_made key value protect o
again key old value protect None = ap (field key value) (or_same protect)
again key old value protect (Some f) = ap (λ b. record f { value = value; hidden = b }) (or_again f.hidden protect)

module _ (protect : Bool) where
  abbrev Own : Type 0
  Own = List ℕ × List ℕ

  own_rises : (own : Own) (fs : List F) → Rise fs → Rise (with_own_value protect own fs)
  own_rises own fs = rises_put key_of (field own.0 own.1 protect) (λ f. record f { value = own.1; hidden = f.hidden || protect }) (λ f. refl) fs

  own_off : (own : Own) (key : List ℕ) (fs : List F) → is_key key own.0 ≡ false → field_of key (with_own_value protect own fs) ≡ field_of key fs
  own_off own key fs off = put_others key_of (field own.0 own.1 protect) (λ f. record f { value = own.1; hidden = f.hidden || protect }) (λ f. refl) key off fs

  own_on : (own : Own) (key : List ℕ) (fs : List F) → is_key key own.0 ≡ true → Rise fs → field_of key (with_own_value protect own fs) ≡ Some (own_made key own.1 protect (field_of key fs))
  own_on own key fs on r =
      subst (λ (k : List ℕ). field_of k (with_own_value protect own fs) ≡ Some (own_made k own.1 protect (field_of k fs))) (sym (same_key key own.0 on))
      (put_own key_of (field own.0 own.1 protect) (λ f. record f { value = own.1; hidden = f.hidden || protect }) (λ f. refl) fs r)

  owns_rise : (set : List Own) (fs : List F) → Rise fs → Rise (with_own_values protect set fs)
  owns_rise [] fs r = r
  owns_rise (own ∷ more) fs r = owns_rise more (with_own_value protect own fs) (own_rises own fs r)

  no_value : (o p : Option (List ℕ)) → or_else o p ≡ None → (o ≡ None) × (p ≡ None)
  no_value None p e = (refl, e)
  no_value (Some x) p e = never x (sym e)

  no_key : (b : Bool) (value : List ℕ) → cond b (Some value) None ≡ None → b ≡ false
  no_key true value e = never value (sym e)
  no_key false value e = refl

  -- a key without a value of its own
  owns_off : (set : List Own) (key : List ℕ) (fs : List F) → last_value set key ≡ None → field_of key (with_own_values protect set fs) ≡ field_of key fs
  owns_off [] key fs none = refl
  owns_off (own ∷ more) key fs none =
      let parts = no_value (last_value more key) (cond (is_key key own.0) (Some own.1) None) none in
      owns_off more key (with_own_value protect own fs) parts.0 ∙ own_off own key fs (no_key (is_key key own.0) own.1 parts.1)

  -- the value of its own that the first gives
  abbrev value_here : Own → Bool → Option (List ℕ)
  value_here own b = cond b (Some own.1) None

  -- a key with one
  owns_on : (set : List Own) (key value : List ℕ) (fs : List F) → last_value set key ≡ Some value → Rise fs → field_of key (with_own_values protect set fs) ≡ Some (own_made key value protect (field_of key fs))
  owns_on [] key value fs is r = never value is
  owns_on (own ∷ more) key value fs is r = at (λ h. owns_on more key value (with_own_value protect own fs) h (own_rises own fs r)) (last_value more key) refl (decide (is_key key own.0))
    where
      at : (last_value more key ≡ Some value → field_of key (with_own_values protect more (with_own_value protect own fs)) ≡ Some (own_made key value protect (field_of key (with_own_value protect own fs)))) → (o : Option (List ℕ)) → last_value more key ≡ o
          → ((is_key key own.0 ≡ true) ⊎ (is_key key own.0 ≡ false)) → field_of key (with_own_values protect more (with_own_value protect own fs)) ≡ Some (own_made key value protect (field_of key fs))
      at rest (Some v) e on =
          let last = rest (e ∙ sym (ap (λ o. or_else o (value_here own (is_key key own.0))) e) ∙ is) in
          elim on [
            | inl p ↦ last ∙ ap (λ o. Some (own_made key value protect o)) (own_on own key fs p r) ∙ ap Some (again key own.1 value protect (field_of key fs))
            | inr p ↦ last ∙ ap (λ o. Some (own_made key value protect o)) (own_off own key fs p)
          ]
      at rest None e on =
          let first = sym (ap (λ o. or_else o (value_here own (is_key key own.0))) e) ∙ is in
          elim on [
            | inl p ↦
                let same = same_Some own.1 value (sym (ap (value_here own) p) ∙ first) in
                owns_off more key (with_own_value protect own fs) e ∙ own_on own key fs p r ∙ ap (λ v. Some (own_made key v protect (field_of key fs))) same
            | inr p ↦ never value (sym (ap (value_here own) p) ∙ first)
          ]

-- ---- fields that are taken away

gone_at : (key name : List ℕ) (fs : List F) → is_key key name ≡ true → Rise fs → field_of key (without_field name fs) ≡ None
gone_at key name fs on r = ap (λ k. field_of k (without_field name fs)) (same_key key name on) ∙ without_own name fs r

none_stays : (names : List (List ℕ)) (key : List ℕ) (fs : List F) → Rise fs → field_of key fs ≡ None → field_of key (without_fields names fs) ≡ None
none_stays [] key fs r none = none
none_stays (name ∷ names) key fs r none =
    none_stays names key (without_field name fs) (without_rises name fs r) (elim (decide (is_key key name)) [
      | inl on ↦ gone_at key name fs on r
      | inr off ↦ without_others key name fs off ∙ none
    ])

all_gone : (names : List (List ℕ)) (key : List ℕ) (fs : List F) → Rise fs → list_any (is_key key) names ≡ true → field_of key (without_fields names fs) ≡ None
all_gone [] key fs r h = cc h
all_gone (name ∷ names) key fs r h =
    elim (or_cases (is_key key name) (list_any (is_key key) names) h) [
      | inl on ↦ none_stays names key (without_field name fs) (without_rises name fs r) (gone_at key name fs on r)
      | inr more ↦ all_gone names key (without_field name fs) (without_rises name fs r) more
    ]

all_kept : (names : List (List ℕ)) (key : List ℕ) (fs : List F) → list_any (is_key key) names ≡ false → field_of key (without_fields names fs) ≡ field_of key fs
all_kept [] key fs h = refl
all_kept (name ∷ names) key fs h =
    let parts = or_false (is_key key name) (list_any (is_key key) names) h in
    all_kept names key (without_field name fs) parts.1 ∙ without_others key name fs parts.0

-- fields of which none is missing are there
field_there : (name : List ℕ) (fs : List F) → has_field name fs ≡ true → is_some (field_of name fs) ≡ true
field_there name fs h = sym (ap is_some (λ i. find (λ (f : F). one_test name f.key i) fs)) ∙ h

pub unset_there : (place : ℕ) (names : List (List ℕ)) (fs : List F) (u : Unit {0}) → missing_from place names fs ≡ Ok u → (key : List ℕ) → list_any (is_key key) names ≡ true → is_some (field_of key fs) ≡ true
unset_there place [] fs u allowed key h = cc h
unset_there place (name ∷ names) fs u allowed key h =
    elim (decide (has_field name fs)) [
      | inl there ↦ elim (or_cases (is_key key name) (list_any (is_key key) names) h) [
        | inl on ↦ ap (λ k. is_some (field_of k fs)) (same_key key name on) ∙ field_there name fs there
        | inr more ↦ unset_there (place + 1) names fs u (sym (ap way there) ∙ allowed) key more
      ]
      | inr missing ↦ cc (sym (ap way missing) ∙ allowed)
    ]
  where
    way : Bool → Result (Unit {0}) TreeFail
    way b = if b then missing_from (place + 1) names fs else Err (NoField place)

-- ---- all of it

or_off : (b c : Bool) → (b || (c && false)) ≡ b
or_off true c = refl
or_off false true = refl
or_off false false = refl

or_on : (b c : Bool) → (b || (c && true)) ≡ (b || c)
or_on true c = refl
or_on false true = refl
or_on false false = refl

module _ (p : Protection) (v : GivenValues) (further : FurtherChange) (before : List F) (r : Rise before) where
  abbrev valued : List F
  valued = edited_fields p v before

  abbrev set : List F
  set = with_own_values further.protect further.set valued

  abbrev after : List F
  after = without_fields further.unset set

  valued_rise : Rise valued
  valued_rise = edited_rise p v before r

  set_rise : Rise set
  set_rise = owns_rise further.protect further.set valued valued_rise

  untouched : (key : List ℕ) → IsUntouched further key → field_of key after ≡ field_of key valued
  untouched key left = all_kept further.unset key set left.0 ∙ owns_off further.protect further.set key valued left.1

  -- the field of a key that gets a value
  is_set : (key value : List ℕ) → is_unset further key ≡ false → last_value further.set key ≡ Some value → field_of key after ≡ Some (own_made key value further.protect (field_of key valued))
  is_set key value left is = all_kept further.unset key set left ∙ owns_on further.protect further.set key value valued is valued_rise

  -- whether a field that was there is hidden
  flag_after : (key : List ℕ) (hidden : Bool) → is_unset further key ≡ false → HasFlag key hidden valued → HasFlag key (hidden || is_protected further key) after
  flag_after key hidden left h = at (last_value further.set key) refl
    where
      at : (o : Option (List ℕ)) → last_value further.set key ≡ o → HasFlag key (hidden || is_protected further key) after
      at None e = record {
        field = h.field;
        found = untouched key (left, e) ∙ h.found;
        is = h.is ∙ sym (ap (λ (o : Option (List ℕ)). hidden || (further.protect && is_some o)) e ∙ or_off hidden further.protect);
      }
      at (Some value) e = record {
        field = own_made key value further.protect (field_of key valued);
        found = is_set key value left e;
        is = ap (λ o. (own_made key value further.protect o).hidden) h.found ∙ ap (λ b. b || further.protect) h.is
            ∙ sym (ap (λ (o : Option (List ℕ)). hidden || (further.protect && is_some o)) e ∙ or_on hidden further.protect);
      }

  pub fields_edited : AreEditedFields v further before after
  fields_edited = record {
    unset = λ key h. all_gone further.unset key set set_rise h;
    set = λ key value left is. record {
      field = own_made key value further.protect (field_of key valued);
      found = is_set key value left is;
      is = own_value key value further.protect (field_of key valued);
    };
    given = λ key value left is stays.
        let h = fields_given p v before r key value is stays in
        record { field = h.field; found = untouched key left ∙ h.found; is = h.is };
    gone = λ key value left is away. untouched key left ∙ fields_gone p v before r key value is away;
    others = λ key left none. untouched key left ∙ fields_others p v before r key none;
    flags = λ key old is left off. flag_after key old.hidden left (fields_flags p v before r key old is off);
    hidden = λ text given stays left. flag_after (codes "otp") true left (fields_hidden p v before r text given stays);
    new_flags = λ key value none not_given left is. record {
      field = own_made key value further.protect (field_of key valued);
      found = is_set key value left is;
      is = ap (λ o. (own_made key value further.protect o).hidden) (fields_others p v before r key not_given ∙ none);
    };
  }
