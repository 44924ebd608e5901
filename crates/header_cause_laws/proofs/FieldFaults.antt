-- What is wrong with a field that is refused.
use Rattle.std.proofs.Common.{◌≡◌, ◌≢◌, ◌⊎◌, ◌||◌, ◌≤◌, ◌-◌, ℕ, Bool, true, false, inl, inr, cond, List, [], ◌∷◌, length, drop, is_some, Option, None, Some, Result, Ok, Err, bytes_eq, refl, sym, ap, subst, ◌∙◌, arith, length-drop}
use Rattle.std.specs.Prelude.{◌==◌, slice_index}
use Rattle.std.specs.Int.{from_le_bytes, w16}
use Rattle.std.proofs.lemmas.Bool.{eqb-false, eqb-true}
use Rattle.argon_core.specs.declared.params.ArgonKind.{ArgonKind}
use Rattle.argon_core.specs.declared.params.ArgonKind.TheVariants.{D, Id}
use Rattle.outside_core.specs.Results.{◌>>=◌}
use Rattle.vault_model.specs.Join.{IsIn}
use Rattle.vault_model.specs.declared.forms.FileVersion.{FileVersion}
use Rattle.vault_model.specs.declared.forms.FileVersion.TheVariants.{V31, V40, V41}
use Rattle.kdbx_parts.specs.Dictionary.{ItemsRead, Keys, aes_description, aes_kdf, aes_kdf_4, argon2d, argon2id, argon_description, description_of, dictionary_of, items_of, no_keys, required_bytes, required_key, wrong_version}
use Rattle.kdbx_parts.specs.Parts.{Field, split_bytes, unique, unique_of_length}
use Rattle.kdbx_parts.specs.declared.fail.FrameFail.{FrameFail}
use Rattle.kdbx_parts.specs.declared.fail.FrameFail.TheVariants.{Dictionary, FieldLength, FieldTwice}
use Rattle.kdbx_frame.specs.Fields.{HeaderFields, with_common_field, with_field, with_field_31, with_field_4}
use Rattle.kdbx_frame.specs.Settings.{IsVersion4}
use Rattle.header_cause_laws.specs.FieldCauses.{AesLacks, ArgonLacks, HasItems, IsWrongField, ItemsLead, LacksBytes, LacksKeys, LeavesForm, field_len, is_there, known_ids}
use Rattle.header_cause_laws.proofs.Fields.{cut_short}
use Rattle.header_cause_laws.proofs.Items.{steps_ended, steps_refused}
use Rattle.header_cause_laws.proofs.Steps.{agrees, refused_at, same_fail}

-- What is refused has a cause.
abbrev Fails : {A : Type 0} → (FrameFail → Type 0) → Result A FrameFail → Type 0
Fails Cause r = (why : FrameFail) → r ≡ Err why → Cause why

module _ (Cause : FrameFail → Type 0) where
  never : {A : Type 0} (x : A) → Fails Cause (Ok x)
  never x why h = cc h

  always : {A : Type 0} (e : FrameFail) → Cause e → Fails {A = A} Cause (Err e)
  always e is why h = subst Cause (same_fail e why h) is

  then : {A B : Type 0} (r : Result A FrameFail) (next : A → Result B FrameFail) → Fails Cause r → ((x : A) → r ≡ Ok x → Fails Cause (next x)) → Fails Cause (r >>= next)
  then r next first rest why h = elim (refused_at r next why h) [ inl a ↦ first why a | inr a ↦ rest a.0 a.1.0 why a.1.1 ]

  either : {A : Type 0} (b : Bool) (x y : Result A FrameFail) → (b ≡ true → Fails Cause x) → (b ≡ false → Fails Cause y) → Fails Cause (cond b x y)
  either true x y p q = p refl
  either false x y p q = q refl

-- ---- dictionaries

-- the keys lack something where their description is refused
module _ (fail : FrameFail) where
  abbrev Lacking : Type 0 → FrameFail → Type 0
  Lacking Lack why = (fail ≡ why) × Lack

  key_lacks : {A : Type 0} (Lack : Type 0) (o : Option A) → (o ≡ None → Lack) → Fails (Lacking Lack) (required_key fail o)
  key_lacks Lack None f = always (Lacking Lack) fail (refl, f refl)
  key_lacks Lack (Some a) f = never (Lacking Lack) a

  bytes_lack : (Lack : Type 0) (n : ℕ) (o : Option (List ℕ)) → (LacksBytes n o → Lack) → Fails (Lacking Lack) (required_bytes fail n o)
  bytes_lack Lack n None f = always (Lacking Lack) fail (refl, f (λ bytes e. cc e))
  bytes_lack Lack n (Some bytes) f =
      either (Lacking Lack) (length bytes == n) (Ok bytes) (Err fail) (λ yes. never (Lacking Lack) bytes)
      (λ no. always (Lacking Lack) fail (refl, f (λ other e. subst (λ (bs : List ℕ). length bs ≢ n) (ap (bytes_in bytes) e) (eqb-false (length bytes) n no))))
    where
      bytes_in : List ℕ → Option (List ℕ) → List ℕ
      bytes_in other None = other
      bytes_in other (Some bs) = bs

  has_bytes : (n : ℕ) (o : Option (List ℕ)) (bytes : List ℕ) → required_bytes fail n o ≡ Ok bytes → o ≡ Some bytes
  has_bytes n None bytes h = cc h
  has_bytes n (Some bs) bytes h = by (length bs == n) h
    where
      by : (b : Bool) → ◌≡◌ {A = Result (List ℕ) FrameFail} (cond b (Ok bs) (Err fail)) (Ok bytes) → Some bs ≡ Some bytes
      by true e = ap (λ (r : Result (List ℕ) FrameFail). some_in r) e
        where
          some_in : Result (List ℕ) FrameFail → Option (List ℕ)
          some_in (Ok x) = Some x
          some_in (Err x) = None
      by false e = cc e

  module _ (keys : Keys) where
    abbrev Cause : FrameFail → Type 0
    Cause = Lacking (LacksKeys keys)

    aes_lacks : (AesLacks keys → LacksKeys keys) → Fails Cause (aes_description fail keys)
    aes_lacks f =
        then Cause (required_key fail keys.rounds) _ (key_lacks (LacksKeys keys) keys.rounds (λ none. f (inl none))) (λ rounds is.
        then Cause (required_bytes fail 32 keys.salt) _ (bytes_lack (LacksKeys keys) 32 keys.salt (λ none. f (inr none))) (λ seed is. never Cause _))

    argon_lacks : (kind : ArgonKind) → (ArgonLacks keys → LacksKeys keys) → Fails Cause (argon_description fail kind keys)
    argon_lacks kind f =
        then Cause (required_key fail keys.salt) _ (key_lacks (LacksKeys keys) keys.salt (λ none. f (inl none))) (λ salt is.
        then Cause (required_key fail keys.lanes) _ (key_lacks (LacksKeys keys) keys.lanes (λ none. f (inr (inl none)))) (λ lanes is.
        then Cause (required_key fail keys.memory) _ (key_lacks (LacksKeys keys) keys.memory (λ none. f (inr (inr (inl none))))) (λ memory is.
        then Cause (required_key fail keys.passes) _ (key_lacks (LacksKeys keys) keys.passes (λ none. f (inr (inr (inr (inl none)))))) (λ passes is.
        then Cause (required_key fail keys.version) _ (key_lacks (LacksKeys keys) keys.version (λ none. f (inr (inr (inr (inr none)))))) (λ version is. never Cause _)))))

    either_aes : (uuid : List ℕ) → (bytes_eq uuid aes_kdf || bytes_eq uuid aes_kdf_4) ≡ true → (uuid ≡ aes_kdf) ⊎ (uuid ≡ aes_kdf_4)
    either_aes uuid h = by (bytes_eq uuid aes_kdf) refl h
      where
        by : (b : Bool) → bytes_eq uuid aes_kdf ≡ b → (b || bytes_eq uuid aes_kdf_4) ≡ true → (uuid ≡ aes_kdf) ⊎ (uuid ≡ aes_kdf_4)
        by true e k = inl (agrees uuid aes_kdf e)
        by false e k = inr (agrees uuid aes_kdf_4 k)

    description_lacks : Fails Cause (description_of fail keys)
    unfolding description_of
    description_lacks =
        then Cause (required_bytes fail 16 keys.uuid) _ (bytes_lack (LacksKeys keys) 16 keys.uuid (λ none. inl none)) (λ uuid is.
        let named = has_bytes 16 keys.uuid uuid is in
        either Cause (bytes_eq uuid aes_kdf || bytes_eq uuid aes_kdf_4) _ _
        (λ yes. aes_lacks (λ lacks. inr (inl (elim (either_aes uuid yes) [ inl a ↦ inl (named ∙ ap Some a) | inr a ↦ inr (named ∙ ap Some a) ], lacks))))
        (λ no. either Cause (bytes_eq uuid argon2d) _ _
        (λ yes. argon_lacks D (λ lacks. inr (inr (inl (named ∙ ap Some (agrees uuid argon2d yes)), lacks))))
        (λ no. either Cause (bytes_eq uuid argon2id) _ _
        (λ yes. argon_lacks Id (λ lacks. inr (inr (inr (named ∙ ap Some (agrees uuid argon2id yes)), lacks))))
        (λ no. never Cause _))))

module _ (content : List ℕ) where
  -- a dictionary that is refused leaves its form there
  abbrev pub OfDictionary : FrameFail → Type 0
  OfDictionary why = (offset : ℕ) × (Dictionary offset ≡ why) × LeavesForm content offset

  abbrev from_start : ItemsRead
  from_start = record { keys = no_keys; rest = drop 2 content }

  from_items : (items : List _) (now : ItemsRead) → ItemsLead items from_start now → HasItems content now
  from_items items now lead = record { items = items; lead = lead }

  pub dictionary_faults : Fails OfDictionary (dictionary_of content)
  unfolding dictionary_of
  dictionary_faults =
      then OfDictionary (split_bytes (Dictionary 0) 2 content) _
      (λ why h. let c = cut_short (Dictionary 0) why 2 content h in (0, c.1, inl (refl, c.0)))
      (λ version is. either OfDictionary (slice_index version.0 1 == 1) _ _
      (λ yes. then OfDictionary (items_of content) _
      (λ why h.
      let short : length (drop 2 content) ≤ length content = omega (arith, length-drop 2 content) in
      let r = steps_refused content (length content) from_start short from_items why h in
      (length content - length r.now.rest, r.is, inr (inl (r.now, r.has, refl, r.no_item))))
      (λ read ok why h.
      let e = steps_ended content (length content) from_start from_items read ok in
      let l = description_lacks (Dictionary (length content)) read.keys why h in
      (length content, l.0, inr (inr (refl, (e.now, e.has, (e.more, e.rest_is), subst LacksKeys e.keys_are l.1))))))
      (λ no. never OfDictionary (wrong_version (from_le_bytes w16 version.0))))

-- ---- fields

module _ (version : FileVersion) (found : HeaderFields) (field : Field) where
  abbrev Wrong : FrameFail → Type 0
  Wrong = IsWrongField version found field

  -- the fields of the version are known
  abbrev AreKnown : List ℕ → Type 0
  AreKnown ids = (id : ℕ) → IsIn id ids → IsIn id (known_ids version)

  module _ (id : ℕ) (known : IsIn id (known_ids version)) (same : field.id ≡ id) where
    single : {B : Type 0} (made : List ℕ → B) → Fails Wrong (unique id (is_there found id) field.content >>= λ c. Ok (made c))
    single made = then Wrong (unique id (is_there found id) field.content) _
        (either Wrong (is_there found id) _ _ (λ twice. always Wrong (FieldTwice id) ((sym same, known), twice)) (λ once. never Wrong field.content)) (λ c is. never Wrong _)

    sized : {B : Type 0} (n : ℕ) (made : List ℕ → B) → field_len id ≡ Some n → Fails Wrong (unique_of_length id n (is_there found id) field.content >>= λ c. Ok (made c))
    sized n made long = then Wrong (unique_of_length id n (is_there found id) field.content) _
        (either Wrong (is_there found id) _ _ (λ twice. always Wrong (FieldTwice id) ((sym same, known), twice))
        (λ once. either Wrong (length field.content == n) _ _ (λ yes. never Wrong field.content)
        (λ no. always Wrong (FieldLength id (length field.content)) ((sym same, known), refl, (n, long, eqb-false (length field.content) n no))))) (λ c is. never Wrong _)

  common_faults : AreKnown (2 ∷ 3 ∷ 4 ∷ 7 ∷ []) → Fails Wrong (with_common_field found field)
  unfolding with_common_field
  common_faults known =
      either Wrong (field.id == 2) _ _ (λ is. sized 2 (known 2 (inl refl)) (eqb-true field.id 2 is) 16 _ refl)
      (λ no. either Wrong (field.id == 3) _ _ (λ is. sized 3 (known 3 (inr (inl refl))) (eqb-true field.id 3 is) 4 _ refl)
      (λ no. either Wrong (field.id == 4) _ _ (λ is. sized 4 (known 4 (inr (inr (inl refl)))) (eqb-true field.id 4 is) 32 _ refl)
      (λ no. either Wrong (field.id == 7) _ _ (λ is. single 7 (known 7 (inr (inr (inr (inl refl))))) (eqb-true field.id 7 is) _) (λ no. never Wrong found))))

  faults_31 : AreKnown (known_ids V31) → Fails Wrong (with_field_31 found field)
  unfolding with_field_31
  faults_31 known =
      either Wrong (field.id == 5) _ _ (λ is. sized 5 (known 5 (inr (inr (inr (inl refl))))) (eqb-true field.id 5 is) 32 _ refl)
      (λ no. either Wrong (field.id == 6) _ _ (λ is. sized 6 (known 6 (inr (inr (inr (inr (inl refl)))))) (eqb-true field.id 6 is) 8 _ refl)
      (λ no. either Wrong (field.id == 8) _ _ (λ is. single 8 (known 8 (inr (inr (inr (inr (inr (inr (inl refl)))))))) (eqb-true field.id 8 is) _)
      (λ no. either Wrong (field.id == 9) _ _ (λ is. sized 9 (known 9 (inr (inr (inr (inr (inr (inr (inr (inl refl))))))))) (eqb-true field.id 9 is) 32 _ refl)
      (λ no. either Wrong (field.id == 10) _ _ (λ is. sized 10 (known 10 (inr (inr (inr (inr (inr (inr (inr (inr (inl refl)))))))))) (eqb-true field.id 10 is) 4 _ refl)
      (λ no. common_faults common)))))
    where
      common : AreKnown (2 ∷ 3 ∷ 4 ∷ 7 ∷ [])
      common id (inl e) = known id (inl e)
      common id (inr (inl e)) = known id (inr (inl e))
      common id (inr (inr (inl e))) = known id (inr (inr (inl e)))
      common id (inr (inr (inr (inl e)))) = known id (inr (inr (inr (inr (inr (inl e))))))
      common id (inr (inr (inr (inr e)))) = absurd e

  faults_4 : IsVersion4 version → AreKnown (known_ids V40) → Fails Wrong (with_field_4 found field)
  unfolding with_field_4
  faults_4 four known =
      either Wrong (field.id == 11) _ _
      (λ is. then Wrong (unique 11 (is_some found.kdf) field.content) _
      (either Wrong (is_some found.kdf) _ _ (λ twice. always Wrong (FieldTwice 11) ((sym (eqb-true field.id 11 is), known 11 (inr (inr (inr (inr (inl refl)))))), twice)) (λ once. never Wrong field.content))
      (λ c same. then Wrong (dictionary_of c) _
      (λ why h.
      let d = dictionary_faults c why h in
      subst Wrong d.1 (four, eqb-true field.id 11 is, subst (λ (bs : List ℕ). LeavesForm bs d.0) (sym (content_is (is_some found.kdf) c same)) d.2))
      (λ kdf ok. never Wrong _)))
      (λ no. either Wrong (field.id == 12) _ _ (λ is. single 12 (known 12 (inr (inr (inr (inr (inr (inl refl))))))) (eqb-true field.id 12 is) _)
      (λ no. common_faults (λ id there. known id (common id there))))
    where
      bytes_in : List ℕ → Result (List ℕ) FrameFail → List ℕ
      bytes_in other (Ok x) = x
      bytes_in other (Err e) = other

      content_is : (b : Bool) (c : List ℕ) → ◌≡◌ {A = Result (List ℕ) FrameFail} (cond b (Err (FieldTwice 11)) (Ok field.content)) (Ok c) → field.content ≡ c
      content_is true c e = cc e
      content_is false c e = ap (bytes_in c) e

      common : (id : ℕ) → IsIn id (2 ∷ 3 ∷ 4 ∷ 7 ∷ []) → IsIn id (known_ids V40)
      common id (inl e) = inl e
      common id (inr (inl e)) = inr (inl e)
      common id (inr (inr (inl e))) = inr (inr (inl e))
      common id (inr (inr (inr (inl e)))) = inr (inr (inr (inl e)))
      common id (inr (inr (inr (inr e)))) = absurd e

pub field_faults : (version : FileVersion) (found : HeaderFields) (field : Field) (why : FrameFail) → with_field version found field ≡ Err why → IsWrongField version found field why
field_faults V31 found field = faults_31 V31 found field (λ id there. there)
field_faults V40 found field = faults_4 V40 found field tt (λ id there. there)
field_faults V41 found field = faults_4 V41 found field tt (λ id there. there)
