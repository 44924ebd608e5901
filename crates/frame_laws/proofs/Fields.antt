-- Fields by their keys after an edit.
use Rattle.std.proofs.Common.{◌≡◌, ◌++◌, Bool, true, false, cond, inl, inr, List, [], ◌∷◌, Option, None, Some, codes, ℕ, refl, sym, ap, subst, ◌∙◌}
use Rattle.std.specs.Prelude.{ℤ, ◌&&◌, is_some}
use Rattle.std.specs.Str.{bytes_eq}
use Rattle.vault_model.specs.declared.metas.Protection.{Protection}
use Rattle.vault_model.specs.Bare.{BareField}
use Rattle.vault_model.specs.Proper.{rises}
use Rattle.vault_model.specs.Shape.{BareVersion}
use Rattle.vault_model.proofs.Tests.{apart, decide, none_of}
use Rattle.tree_core.specs.Histories.{within_limits}
use Rattle.tree_core.specs.NewNodes.{GivenValues, edited_fields, field, with_given, with_otp, with_value, with_values, without_field}
use Rattle.tree_core.proofs.Options.{never}
use Rattle.frame_laws.proofs.Ordered.{but_item, but_others, but_own, made, put_others, put_own, rises_but, rises_put, same_key}
use Rattle.frame_laws.specs.Entries.{HasFlag, HasValue, IsTrimmed, field_of, given_value, is_given_otp, is_key, is_taken_away, is_within_limits}

-- ---- one key

abbrev F : Type 0
F = BareField

abbrev pub key_of : F → List ℕ
key_of f = f.key

-- fields that rise by their keys
abbrev pub Rise : List F → Type 0
Rise fs = rises key_of fs ≡ true

module _ (key : List ℕ) (hidden : Bool) (value : List ℕ) where
  abbrev new : F
  new = field key value hidden

  abbrev valued : F → F
  valued f = record f { value = value }

  value_others : (k : List ℕ) → is_key k key ≡ false → (fs : List F) → field_of k (with_value key hidden value fs) ≡ field_of k fs
  value_others = put_others key_of new valued (λ f. refl)

  value_rises : (fs : List F) → Rise fs → Rise (with_value key hidden value fs)
  value_rises = rises_put key_of new valued (λ f. refl)

  value_found : (fs : List F) → Rise fs → field_of key (with_value key hidden value fs) ≡ Some (made key_of new valued (λ f. refl) (field_of key fs))
  value_found = put_own key_of new valued (λ f. refl)

  value_own : (fs : List F) → Rise fs → HasValue key value (with_value key hidden value fs)
  value_own fs r = record { field = made key_of new valued (λ f. refl) (field_of key fs); found = value_found fs r; is = has (field_of key fs) }
    where
      has : (o : Option F) → (made key_of new valued (λ f. refl) o).value ≡ value
      has None = refl
      has (Some f) = refl

  -- a field that was there is hidden as it was
  value_flag : (flag : Bool) (fs : List F) → Rise fs → HasFlag key flag fs → HasFlag key flag (with_value key hidden value fs)
  value_flag flag fs r h = record {
    field = valued h.field;
    found = value_found fs r ∙ ap (λ o. Some (made key_of new valued (λ f. refl) o)) h.found;
    is = h.is;
  }

  -- one that was not is hidden as it is said
  flag_new : (fs : List F) → Rise fs → field_of key fs ≡ None → HasFlag key hidden (with_value key hidden value fs)
  flag_new fs r none = record {
    field = new;
    found = value_found fs r ∙ ap (λ o. Some (made key_of new valued (λ f. refl) o)) none;
    is = refl;
  }

-- ---- a field that is given

module _ (key : List ℕ) (hidden : Bool) where
  given_rises : (o : Option (List ℕ)) (fs : List F) → Rise fs → Rise (with_given key hidden o fs)
  given_rises None fs r = r
  given_rises (Some value) fs r = value_rises key hidden value fs r

  -- a key that is not this one, or whose value is not given
  given_others : (k : List ℕ) (o : Option (List ℕ)) (fs : List F) → (is_key k key ≡ true → o ≡ None) → field_of k (with_given key hidden o fs) ≡ field_of k fs
  given_others k None fs h = refl
  given_others k (Some value) fs h =
      elim (decide (is_key k key)) [
        | inl p ↦ never value (sym (h p))
        | inr p ↦ value_others key hidden value k p fs
      ]

  given_own : (o : Option (List ℕ)) (value : List ℕ) (fs : List F) → Rise fs → o ≡ Some value → HasValue key value (with_given key hidden o fs)
  given_own o value fs r e = subst (λ (x : Option (List ℕ)). HasValue key value (with_given key hidden x fs)) (sym e) (value_own key hidden value fs r)

  -- another key's value leaves a field's
  kept : (k : List ℕ) (o : Option (List ℕ)) (value : List ℕ) (fs : List F) → is_key k key ≡ false → HasValue k value fs → HasValue k value (with_given key hidden o fs)
  kept k o value fs off h = record {
    field = h.field;
    found = given_others k o fs (λ p. apart (is_key k key) p off) ∙ h.found;
    is = h.is;
  }

  -- whether a field is hidden stays
  given_flag : (k : List ℕ) (o : Option (List ℕ)) (flag : Bool) (fs : List F) → Rise fs → HasFlag k flag fs → HasFlag k flag (with_given key hidden o fs)
  given_flag k None flag fs r h = h
  given_flag k (Some value) flag fs r h =
      elim (decide (is_key k key)) [
        | inl p ↦
            let same = same_key k key p in
            subst (λ (x : List ℕ). HasFlag x flag (with_value key hidden value fs)) (sym same) (value_flag key hidden value flag fs r (subst (λ (x : List ℕ). HasFlag x flag fs) same h))
        | inr p ↦ record { field = h.field; found = value_others key hidden value k p fs ∙ h.found; is = h.is }
      ]

-- ---- a field taken away

without_is : (key : List ℕ) (fs : List F) → without_field key fs ≡ but_item key_of key fs
without_is key [] = refl
without_is key (f ∷ fs) = ap (λ gs. cond (bytes_eq key f.key) fs (f ∷ gs)) (without_is key fs)

pub without_rises : (key : List ℕ) (fs : List F) → Rise fs → Rise (without_field key fs)
without_rises key fs r = ap (rises key_of) (without_is key fs) ∙ rises_but key_of key fs r

pub without_own : (key : List ℕ) (fs : List F) → Rise fs → field_of key (without_field key fs) ≡ None
without_own key fs r = ap (field_of key) (without_is key fs) ∙ but_own key_of key fs r

pub without_others : (k key : List ℕ) (fs : List F) → is_key k key ≡ false → field_of k (without_field key fs) ≡ field_of k fs
without_others k key fs off = ap (field_of k) (without_is key fs) ∙ but_others key_of k key fs off

-- ---- what a one-time code is made from

abbrev otp_key : List ℕ
otp_key = codes "otp"

otp_rises : (o : Option (List ℕ)) (fs : List F) → Rise fs → Rise (with_otp o fs)
otp_rises None fs r = r
otp_rises (Some []) fs r = without_rises otp_key fs r
otp_rises (Some (b ∷ bs)) fs r = value_rises otp_key true (b ∷ bs) (without_field otp_key fs) (without_rises otp_key fs r)

-- a key that is not `otp`, or where nothing is given for it
otp_others : (k : List ℕ) (o : Option (List ℕ)) (fs : List F) → (is_key k otp_key ≡ true → o ≡ None) → field_of k (with_otp o fs) ≡ field_of k fs
otp_others k None fs h = refl
otp_others k (Some []) fs h =
    elim (decide (is_key k otp_key)) [
      | inl p ↦ never [] (sym (h p))
      | inr p ↦ without_others k otp_key fs p
    ]
otp_others k (Some (b ∷ bs)) fs h =
    elim (decide (is_key k otp_key)) [
      | inl p ↦ never (b ∷ bs) (sym (h p))
      | inr p ↦ value_others otp_key true (b ∷ bs) k p (without_field otp_key fs) ∙ without_others k otp_key fs p
    ]

otp_kept : (k : List ℕ) (o : Option (List ℕ)) (value : List ℕ) (fs : List F) → is_key k otp_key ≡ false → HasValue k value fs → HasValue k value (with_otp o fs)
otp_kept k o value fs off h = record { field = h.field; found = otp_others k o fs (λ p. apart (is_key k otp_key) p off) ∙ h.found; is = h.is }

otp_own : (o : Option (List ℕ)) (value : List ℕ) (fs : List F) → Rise fs → o ≡ Some value → is_taken_away otp_key value ≡ false → HasValue otp_key value (with_otp o fs)
otp_own o [] fs r e stays = cc stays
otp_own o (b ∷ bs) fs r e stays =
    subst (λ (x : Option (List ℕ)). HasValue otp_key (b ∷ bs) (with_otp x fs)) (sym e) (value_own otp_key true (b ∷ bs) (without_field otp_key fs) (without_rises otp_key fs r))

otp_gone : (o : Option (List ℕ)) (value : List ℕ) (fs : List F) → Rise fs → o ≡ Some value → is_taken_away otp_key value ≡ true → field_of otp_key (with_otp o fs) ≡ None
otp_gone o [] fs r e away = ap (λ (x : Option (List ℕ)). field_of otp_key (with_otp x fs)) e ∙ without_own otp_key fs r
otp_gone o (b ∷ bs) fs r e away = cc away

otp_flag : (o : Option (List ℕ)) (value : List ℕ) (fs : List F) → Rise fs → o ≡ Some value → is_taken_away otp_key value ≡ false → HasFlag otp_key true (with_otp o fs)
otp_flag o [] fs r e stays = cc stays
otp_flag o (b ∷ bs) fs r e stays =
    subst (λ (x : Option (List ℕ)). HasFlag otp_key true (with_otp x fs)) (sym e)
    (flag_new otp_key true (b ∷ bs) (without_field otp_key fs) (without_rises otp_key fs r) (without_own otp_key fs r))

-- ---- the fields that are given

module _ (p : Protection) (v : GivenValues) (fs : List F) (r : Rise fs) where
  abbrev f1 : List F
  f1 = with_given (codes "Notes") p.notes v.notes fs

  abbrev f2 : List F
  f2 = with_given (codes "Password") p.password v.password f1

  abbrev f3 : List F
  f3 = with_given (codes "Title") p.title v.title f2

  abbrev f4 : List F
  f4 = with_given (codes "URL") p.url v.url f3

  abbrev f5 : List F
  f5 = with_values p v fs

  rise1 : Rise f1
  rise1 = given_rises (codes "Notes") p.notes v.notes fs r

  rise2 : Rise f2
  rise2 = given_rises (codes "Password") p.password v.password f1 rise1

  rise3 : Rise f3
  rise3 = given_rises (codes "Title") p.title v.title f2 rise2

  rise4 : Rise f4
  rise4 = given_rises (codes "URL") p.url v.url f3 rise3

  rise5 : Rise f5
  rise5 = given_rises (codes "UserName") p.user v.user f4 rise4

  pub edited_rise : Rise (edited_fields p v fs)
  edited_rise = otp_rises v.otp f5 rise5

  absent : (k key : List ℕ) (o : Option (List ℕ)) → given_value v key ≡ o → given_value v k ≡ None → is_key k key ≡ true → o ≡ None
  absent k key o e none q = sym e ∙ ap (given_value v) (sym (same_key k key q)) ∙ none

  pub fields_others : (k : List ℕ) → given_value v k ≡ None → field_of k (edited_fields p v fs) ≡ field_of k fs
  fields_others k none =
      otp_others k v.otp f5 (absent k (codes "otp") v.otp refl none)
      ∙ given_others (codes "UserName") p.user k v.user f4 (absent k (codes "UserName") v.user refl none)
      ∙ given_others (codes "URL") p.url k v.url f3 (absent k (codes "URL") v.url refl none)
      ∙ given_others (codes "Title") p.title k v.title f2 (absent k (codes "Title") v.title refl none)
      ∙ given_others (codes "Password") p.password k v.password f1 (absent k (codes "Password") v.password refl none)
      ∙ given_others (codes "Notes") p.notes k v.notes fs (absent k (codes "Notes") v.notes refl none)

  abbrev tests : Bool → Bool → Bool → Bool → Bool → Bool → Option (List ℕ)
  tests a b c d e f = cond a v.title (cond b v.user (cond c v.password (cond d v.url (cond e v.notes (cond f v.otp None)))))

  -- a key for which something is given is one of the five, or `otp`
  moved : (k key value : List ℕ) (gs : List F) → is_key k key ≡ true → HasValue key value gs → HasValue k value gs
  moved k key value gs q h = subst (λ (x : List ℕ). HasValue x value gs) (sym (same_key k key q)) h

  now_of : (k key value : List ℕ) (o : Option (List ℕ)) → is_key k key ≡ true → given_value v key ≡ o → given_value v k ≡ Some value → o ≡ Some value
  now_of k key value o q e some = sym e ∙ ap (given_value v) (sym (same_key k key q)) ∙ some

  values_given : (k value : List ℕ) → is_key k (codes "otp") ≡ false → given_value v k ≡ Some value → HasValue k value f5
  values_given k value f some =
      elim (decide (is_key k (codes "Title"))) [
        | inl q ↦ moved k (codes "Title") value f5 q
            (kept (codes "UserName") p.user (codes "Title") v.user value f4 refl
            (kept (codes "URL") p.url (codes "Title") v.url value f3 refl
            (given_own (codes "Title") p.title v.title value f2 rise2 (now_of k (codes "Title") value v.title q refl some))))
        | inr a ↦ elim (decide (is_key k (codes "UserName"))) [
          | inl q ↦ moved k (codes "UserName") value f5 q
              (given_own (codes "UserName") p.user v.user value f4 rise4 (now_of k (codes "UserName") value v.user q refl some))
          | inr b ↦ elim (decide (is_key k (codes "Password"))) [
            | inl q ↦ moved k (codes "Password") value f5 q
                (kept (codes "UserName") p.user (codes "Password") v.user value f4 refl
                (kept (codes "URL") p.url (codes "Password") v.url value f3 refl
                (kept (codes "Title") p.title (codes "Password") v.title value f2 refl
                (given_own (codes "Password") p.password v.password value f1 rise1 (now_of k (codes "Password") value v.password q refl some)))))
            | inr c ↦ elim (decide (is_key k (codes "URL"))) [
              | inl q ↦ moved k (codes "URL") value f5 q
                  (kept (codes "UserName") p.user (codes "URL") v.user value f4 refl
                  (given_own (codes "URL") p.url v.url value f3 rise3 (now_of k (codes "URL") value v.url q refl some)))
              | inr d ↦ elim (decide (is_key k (codes "Notes"))) [
                | inl q ↦ moved k (codes "Notes") value f5 q
                    (kept (codes "UserName") p.user (codes "Notes") v.user value f4 refl
                    (kept (codes "URL") p.url (codes "Notes") v.url value f3 refl
                    (kept (codes "Title") p.title (codes "Notes") v.title value f2 refl
                    (kept (codes "Password") p.password (codes "Notes") v.password value f1 refl
                    (given_own (codes "Notes") p.notes v.notes value fs r (now_of k (codes "Notes") value v.notes q refl some))))))
                | inr e ↦ never value (sym (λ i. tests (a i) (b i) (c i) (d i) (e i) (f i)) ∙ some)
              ]
            ]
          ]
        ]
      ]

  stays : (k value : List ℕ) → is_key k (codes "otp") ≡ true → is_taken_away k value ≡ false → is_taken_away (codes "otp") value ≡ false
  stays k value q h = ap (λ (x : List ℕ). is_taken_away x value) (sym (same_key k (codes "otp") q)) ∙ h

  pub fields_given : (k value : List ℕ) → given_value v k ≡ Some value → is_taken_away k value ≡ false → HasValue k value (edited_fields p v fs)
  fields_given k value some left =
      elim (decide (is_key k (codes "otp"))) [
        | inl q ↦ moved k (codes "otp") value (edited_fields p v fs) q (otp_own v.otp value f5 rise5 (now_of k (codes "otp") value v.otp q refl some) (stays k value q left))
        | inr q ↦ otp_kept k v.otp value f5 q (values_given k value q some)
      ]

  -- ---- what is gone, and whether a field is hidden

  pub fields_gone : (k value : List ℕ) → given_value v k ≡ Some value → is_taken_away k value ≡ true → field_of k (edited_fields p v fs) ≡ None
  fields_gone k [] some away =
      let same = same_key k otp_key away in
      ap (λ (x : List ℕ). field_of x (edited_fields p v fs)) same
      ∙ otp_gone v.otp [] f5 rise5 (ap (given_value v) (sym same) ∙ some) refl
  fields_gone k (b ∷ bs) some away = cc away

  pub fields_hidden : (text : List ℕ) → v.otp ≡ Some text → is_taken_away otp_key text ≡ false → HasFlag otp_key true (edited_fields p v fs)
  fields_hidden text given left = otp_flag v.otp text f5 rise5 given left

  -- a field that was there is hidden as it was
  pub fields_flags : (k : List ℕ) (old : F) → field_of k fs ≡ Some old → is_given_otp v k ≡ false → HasFlag k old.hidden (edited_fields p v fs)
  fields_flags k old is off =
      let h =
      given_flag (codes "UserName") p.user k v.user old.hidden f4 rise4
      (given_flag (codes "URL") p.url k v.url old.hidden f3 rise3
      (given_flag (codes "Title") p.title k v.title old.hidden f2 rise2
      (given_flag (codes "Password") p.password k v.password old.hidden f1 rise1
      (given_flag (codes "Notes") p.notes k v.notes old.hidden fs r (record { field = old; found = is; is = refl }))))) in
      record {
        field = h.field;
        found = otp_others k v.otp f5 (λ q. none_of v.otp (sym (ap (λ b. b && is_some v.otp) q) ∙ off)) ∙ h.found;
        is = h.is;
      }

-- ---- the history

-- none of no versions
no_version : {A : Type 0} (front : List BareVersion) (v : BareVersion) (back : List BareVersion) → [] ≡ front ++ v ∷ back → A
no_version [] v back same = cc same
no_version (w ∷ front) v back same = cc same

abbrev tail_of : List BareVersion → List BareVersion
tail_of [] = []
tail_of (v ∷ vs) = vs

pub trimmed : (items size : ℤ) (vs : List BareVersion) → IsTrimmed items size vs (within_limits items size vs)
trimmed items size [] = record { dropped = []; is = refl; needed = λ front v back same. no_version front v back same }
trimmed items size (v ∷ vs) = at (trimmed items size vs) (is_within_limits items size (v ∷ vs)) refl
  where
    at : IsTrimmed items size vs (within_limits items size vs) → (b : Bool) → is_within_limits items size (v ∷ vs) ≡ b
        → IsTrimmed items size (v ∷ vs) (cond b (v ∷ vs) (within_limits items size vs))
    at rest true e = record { dropped = []; is = refl; needed = λ front w back same. no_version front w back same }
    at rest false e = record { dropped = v ∷ rest.dropped; is = ap (λ ws. v ∷ ws) rest.is; needed = needed }
      where
        needed : (front : List BareVersion) (w : BareVersion) (back : List BareVersion) → (v ∷ rest.dropped) ≡ front ++ w ∷ back → is_within_limits items size (w ∷ back ++ within_limits items size vs) ≡ false
        needed [] w back same =
            subst (λ ws. is_within_limits items size (ws ++ within_limits items size vs) ≡ false) same
            (sym (ap (λ ws. is_within_limits items size (v ∷ ws)) rest.is) ∙ e)
        needed (u ∷ front) w back same = rest.needed front w back (ap tail_of same)
