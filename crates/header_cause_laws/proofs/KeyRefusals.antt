-- Refusals of key files have their causes.
use Rattle.std.proofs.Common.{◌≡◌, ◌⊎◌, ℕ, Bool, true, false, inl, inr, cond, List, Option, None, Some, Result, Ok, Err, bytes_eq, codes, take, refl, sym, ap, subst, ◌∙◌}
use Rattle.sha2.specs.Sha256.{sha256}
use Rattle.markup_grammar.specs.Elements.{Content, Element, also, cut, element, last, own_text}
use Rattle.markup_grammar.specs.Reading.{answers}
use Rattle.text_forms.specs.Texts.{trim}
use Rattle.key_core.specs.KeyDocument.{Told, document_key, form_or_refusal, key_or_hash_refusal, held_by, last_says, name_of, proved_by, root_of, told_of, version_by, version_in, version_of, version_of_meta}
use Rattle.key_core.specs.KeyFile.{key_by, key_file_key}
use Rattle.key_core.specs.KeyTexts.{base64_key, hexadecimal_hash, hexadecimal_key, without_spaces}
use Rattle.key_core.specs.declared.key_file.KeyFileFail.{KeyFileFail}
use Rattle.key_core.specs.declared.key_file.KeyFileFail.TheVariants.{KeyFileForm, KeyFileHash}
use Rattle.header_cause_laws.specs.KeyCauses.{HasKey, HasVersion, IsKeyDocument, KeyCause, KeyRefusalsHaveCauses}
use Rattle.header_cause_laws.proofs.Steps.{agrees, differs, same_fail, under}

-- What the last element says is what it was before, or what some element says.
says_either : {A : Type 0} (P : A → Type 0) (name : List ℕ) (says : Element → A) (other : A) (c : Content) → P other → ((e : Element) → P (says e)) → P (last_says name says other c)
says_either P name says other (last text) before each = before
says_either P name says other (also text e more) before each = says_either P name says (cond (bytes_eq (name_of e) name) (says e) other) more (by (bytes_eq (name_of e) name)) each
  where
    by : (b : Bool) → P (cond b (says e) other)
    by true = each e
    by false = before
says_either P name says other (cut text answer) before each = before

-- A document names no version, or one by its text at a place.
record IsNamed (root : Content) : Type 0 where
  place : ℕ
  text : List ℕ
  is : HasVersion place text root

named : (root : Content) → (version_of root ≡ None) ⊎ IsNamed root
named root =
    elim (says_either (λ o. (o ≡ None) ⊎ ((place : ℕ) × (text : List ℕ) × (o ≡ Some (version_by place text)))) (codes "Meta") (λ meta. version_of_meta (held_by meta)) None root (inl refl)
    (λ meta. says_either (λ o. (o ≡ None) ⊎ ((place : ℕ) × (text : List ℕ) × (o ≡ Some (version_by place text)))) (codes "Version") version_in None (held_by meta) (inl refl) in_element)) [
      | inl none ↦ inl none
      | inr some ↦ inr (record { place = some.0; text = some.1; is = some.2 })
    ]
  where
    in_element : (e : Element) → (version_in e ≡ None) ⊎ ((place : ℕ) × (text : List ℕ) × (version_in e ≡ Some (version_by place text)))
    in_element (element place name raw content) = inr (place, own_text content, refl)

module _ (bytes : List ℕ) (why : KeyFileFail) where
  is_so : (f : KeyFileFail) → f ≡ why → KeyCause f bytes → KeyCause why bytes
  is_so f same c = subst (λ (g : KeyFileFail). KeyCause g bytes) same c

  module _ (root : Content) (is : IsKeyDocument bytes root) where
    missing : ◌≡◌ {A = Result (List ℕ) KeyFileFail} (Err (KeyFileForm 0)) (Err why) → (version_of root ≡ None) ⊎ (told_of root ≡ None) → KeyCause why bytes
    missing h none = is_so (KeyFileForm 0) (same_fail (KeyFileForm 0) why h) (root, is, inl (refl, none))

    in_first : (told : Told) → HasKey (codes "1.") told root → (o : Option (List ℕ)) → base64_key (trim told.text) ≡ o → form_or_refusal told.place o ≡ Err why → KeyCause why bytes
    in_first told has (Some key) none h = cc h
    in_first told has None none h = is_so (KeyFileForm told.place) (same_fail (KeyFileForm told.place) why h) (root, is, inr (inr (inl (told, has, refl, none))))

    module _ (told : Told) (has : HasKey (codes "2.") told root) where
      in_hash : (digits : List ℕ) → told.hash ≡ Some digits → (kept : List ℕ) → hexadecimal_hash digits ≡ Some kept → (key : List ℕ) → hexadecimal_key (without_spaces told.text) ≡ Some key → key_or_hash_refusal key kept ≡ Err why
          → KeyCause why bytes
      in_hash digits keeps kept kept_is key key_is h = by (bytes_eq kept (take 4 (sha256 key))) refl h
        where
          by : (b : Bool) → bytes_eq kept (take 4 (sha256 key)) ≡ b → ◌≡◌ {A = Result (List ℕ) KeyFileFail} (cond b (Ok key) (Err (KeyFileHash kept (take 4 (sha256 key))))) (Err why) → KeyCause why bytes
          by true e g = cc g
          by false e g = is_so (KeyFileHash kept (take 4 (sha256 key))) (same_fail (KeyFileHash kept (take 4 (sha256 key))) why g) (
            root,
            is,
            record {
              told = told;
              has = has;
              digits = digits;
              keeps = keeps;
              kept_is = kept_is;
              key = key;
              key_is = key_is;
              found_is = refl;
              apart = differs kept (take 4 (sha256 key)) e;
            },
          )

      no_form : ◌≡◌ {A = Result (List ℕ) KeyFileFail} (Err (KeyFileForm told.place)) (Err why) → (hexadecimal_key (without_spaces told.text) ≡ None) ⊎ ((digits : List ℕ) × (told.hash ≡ Some digits) × (hexadecimal_hash digits ≡ None)) → KeyCause why bytes
      no_form h none = is_so (KeyFileForm told.place) (same_fail (KeyFileForm told.place) why h) (root, is, inr (inr (inr (told, has, refl, none))))

      in_digits : (key : List ℕ) → hexadecimal_key (without_spaces told.text) ≡ Some key → (digits : List ℕ) → told.hash ≡ Some digits → (o : Option (List ℕ)) → hexadecimal_hash digits ≡ o
          → ◌≡◌ {A = Result (List ℕ) KeyFileFail} (elim (form_or_refusal told.place o) [ Ok kept ↦ key_or_hash_refusal key kept | Err fail ↦ Err fail ]) (Err why) → KeyCause why bytes
      in_digits key key_is digits keeps None none h = no_form h (inr (digits, keeps, none))
      in_digits key key_is digits keeps (Some kept) kept_is h = in_hash digits keeps kept kept_is key key_is h

      in_proof : (key : List ℕ) → hexadecimal_key (without_spaces told.text) ≡ Some key → (o : Option (List ℕ)) → told.hash ≡ o → proved_by told.place o key ≡ Err why → KeyCause why bytes
      in_proof key key_is None keeps h = cc h
      in_proof key key_is (Some digits) keeps h = in_digits key key_is digits keeps (hexadecimal_hash digits) refl h

      in_second : (o : Option (List ℕ)) → hexadecimal_key (without_spaces told.text) ≡ o
          → ◌≡◌ {A = Result (List ℕ) KeyFileFail} (elim (form_or_refusal told.place o) [ Ok key ↦ proved_by told.place told.hash key | Err fail ↦ Err fail ]) (Err why) → KeyCause why bytes
      in_second None none h = no_form h (inl none)
      in_second (Some key) key_is h = in_proof key key_is told.hash refl h

    module _ (n : IsNamed root) where
      has_key : (digits : List ℕ) → bytes_eq (take 2 (trim n.text)) digits ≡ true → (told : Told) → told_of root ≡ Some told → HasKey digits told root
      has_key digits same told told_is = record { place = n.place; text = n.text; version = n.is; begins = agrees (take 2 (trim n.text)) digits same; told_is = told_is }

      abbrev begins : List ℕ → Bool
      begins digits = bytes_eq (take 2 (trim n.text)) digits

      other : begins (codes "1.") ≡ false → begins (codes "2.") ≡ false → ◌≡◌ {A = Result (List ℕ) KeyFileFail} (Err (KeyFileForm n.place)) (Err why) → KeyCause why bytes
      other first second h =
          is_so (KeyFileForm n.place) (same_fail (KeyFileForm n.place) why h) (root, is, inr (inl (n.text, n.is, differs (take 2 (trim n.text)) (codes "1.") first, differs (take 2 (trim n.text)) (codes "2.") second)))

      by_told : (t : Option Told) → told_of root ≡ t → document_key (Some (version_by n.place n.text)) t ≡ Err why → KeyCause why bytes
      by_told None none h = elim (under (λ v. document_key (Some v) None) (begins (codes "1.")) _ _ (Err why) h) [
        | inl a ↦ missing a.1 (inr none)
        | inr a ↦ elim (under (λ v. document_key (Some v) None) (begins (codes "2.")) _ _ (Err why) a.1) [
          | inl b ↦ missing b.1 (inr none)
          | inr b ↦ other a.0 b.0 b.1
        ]
      ]
      by_told (Some told) told_is h = elim (under (λ v. document_key (Some v) (Some told)) (begins (codes "1.")) _ _ (Err why) h) [
        | inl a ↦ in_first told (has_key (codes "1.") a.0 told told_is) (base64_key (trim told.text)) refl a.1
        | inr a ↦ elim (under (λ v. document_key (Some v) (Some told)) (begins (codes "2.")) _ _ (Err why) a.1) [
          | inl b ↦ in_second told (has_key (codes "2.") b.0 told told_is) (hexadecimal_key (without_spaces told.text)) refl b.1
          | inr b ↦ other a.0 b.0 b.1
        ]
      ]

    in_document : document_key (version_of root) (told_of root) ≡ Err why → KeyCause why bytes
    in_document h = elim (named root) [
      | inl none ↦ missing (sym (ap (λ v. document_key v (told_of root)) none) ∙ h) (inl none)
      | inr n ↦ by_told n (told_of root) refl (sym (ap (λ v. document_key v (told_of root)) n.is) ∙ h)
    ]

  in_root : (o : Option Content) → root_of (answers bytes) ≡ o → key_by bytes o ≡ Err why → KeyCause why bytes
  in_root None none h = cc h
  in_root (Some root) is h = in_document root is h

  in_file : key_file_key bytes ≡ Err why → KeyCause why bytes
  unfolding key_file_key
  in_file h = in_root (root_of (answers bytes)) refl h

pub key_refusals_have_causes : KeyRefusalsHaveCauses
key_refusals_have_causes bytes why h = in_file bytes why h
