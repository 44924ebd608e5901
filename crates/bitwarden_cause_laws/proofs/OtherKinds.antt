-- What a test of a kind refuses is not of the kind, and what is not is refused.
use Rattle.std.proofs.Common.{◌≡◌, ◌≢◌, ◌⊎◌, ◌&&◌, ℕ, Bool, true, false, inl, inr, List, [], ◌∷◌, codes, Option, None, Some, is_some, refl, sym, ap, subst, ◌∙◌}
use Rattle.std.specs.List.{list_all, list_any}
use Rattle.std.specs.Option.{option_and_then}
use Rattle.std.proofs.lemmas.Slice.Eq.{bytes_eq-Decides}
use Rattle.serde_json.specs.Data.{Data, array, boolean, null, number, object, string}
use Rattle.serde_json.specs.Find.{as_str, get}
use Rattle.uuid.specs.Text.{parsed}
use Rattle.vault_model.specs.Join.{IsIn}
use Rattle.vault_model.proofs.Tests.{any_false, any_none, apart, is_false, none_is, none_of}
use Rattle.bitwarden_forms.specs.Dates.{date}
use Rattle.bitwarden_forms.specs.Json.{list_of, not_null, text}
use Rattle.bitwarden_forms.specs.Kinds.{fits, has_id, is_address, is_custom_field, is_date, is_earlier_password, is_folder, is_folder_id, is_id, is_item, is_list, is_list_of, is_login, is_number, is_object, is_text, none_or}
use Rattle.bitwarden_cause_laws.specs.OtherKinds.{HasOther, address_uri, earlier_date, earlier_password, field_content, field_name, field_type, item_card, item_creation, item_fields, item_folder, item_history, item_id, item_identity, item_login, item_name, item_notes, item_revision, login_password, login_totp, login_uris, login_username, no_address, no_earlier, no_field, no_item, no_login, IsNoAddress, IsNoCustomField, IsNoDate, IsNoEarlierPassword, IsNoFolder, IsNoFolderId, IsNoId, IsNoItem, IsNoList, IsNoListOf, IsNoLogin, IsNoNumber, IsNoObject, IsNoText, IsNoTextOf, LacksText}

-- What a test refuses is so, and what is so is refused.
abbrev pub Tells : (Data → Bool) → (Data → Type 0) → Type 0
Tells kind IsOther = (value : Data) → (kind value ≡ false → IsOther value) × (IsOther value → kind value ≡ false)

-- ---- two tests

either : {P : Type 0} {a b : Bool} → (a ≡ false → P) → (b ≡ false → P) → (a && b) ≡ false → P
either {a = true} f g e = g e
either {a = false} f g e = f refl

left : (a b : Bool) → a ≡ false → (a && b) ≡ false
left a b e = ap (λ x. x && b) e

right : (a b : Bool) → b ≡ false → (a && b) ≡ false
right true b e = e
right false b e = refl

-- ---- values

text_kind : Tells is_text IsNoText
text_kind null = (λ e content same. cc same, λ other. refl)
text_kind (boolean b) = (λ e content same. cc same, λ other. refl)
text_kind (number n) = (λ e content same. cc same, λ other. refl)
text_kind (string s) = (λ e. cc e, λ other. absurd (other s refl))
text_kind (array items) = (λ e content same. cc same, λ other. refl)
text_kind (object ms) = (λ e content same. cc same, λ other. refl)

number_kind : Tells is_number IsNoNumber
number_kind null = (λ e content same. cc same, λ other. refl)
number_kind (boolean b) = (λ e content same. cc same, λ other. refl)
number_kind (number n) = (λ e. cc e, λ other. absurd (other n refl))
number_kind (string s) = (λ e content same. cc same, λ other. refl)
number_kind (array items) = (λ e content same. cc same, λ other. refl)
number_kind (object ms) = (λ e content same. cc same, λ other. refl)

pub object_kind : Tells is_object IsNoObject
object_kind null = (λ e content same. cc same, λ other. refl)
object_kind (boolean b) = (λ e content same. cc same, λ other. refl)
object_kind (number n) = (λ e content same. cc same, λ other. refl)
object_kind (string s) = (λ e content same. cc same, λ other. refl)
object_kind (array items) = (λ e content same. cc same, λ other. refl)
object_kind (object ms) = (λ e. cc e, λ other. absurd (other ms refl))

pub list_kind : Tells is_list IsNoList
list_kind null = (λ e content same. cc same, λ other. refl)
list_kind (boolean b) = (λ e content same. cc same, λ other. refl)
list_kind (number n) = (λ e content same. cc same, λ other. refl)
list_kind (string s) = (λ e content same. cc same, λ other. refl)
list_kind (array items) = (λ e. cc e, λ other. absurd (other items refl))
list_kind (object ms) = (λ e content same. cc same, λ other. refl)

-- texts that can be read
abbrev text_in : Data → List ℕ
text_in null = []
text_in (boolean b) = []
text_in (number n) = []
text_in (string s) = s
text_in (array items) = []
text_in (object ms) = []

module _ {A : Type 0} (reading : List ℕ → Option A) where
  reading_kind : Tells (λ value. is_some (option_and_then reading (as_str value))) (IsNoTextOf reading)
  reading_kind null = (λ e content same. cc same, λ other. refl)
  reading_kind (boolean b) = (λ e content same. cc same, λ other. refl)
  reading_kind (number n) = (λ e content same. cc same, λ other. refl)
  reading_kind (string s) = (λ e content same. ap reading (sym (ap text_in same)) ∙ none_of (reading s) e, λ other. none_is (reading s) (other s refl))
  reading_kind (array items) = (λ e content same. cc same, λ other. refl)
  reading_kind (object ms) = (λ e content same. cc same, λ other. refl)

id_kind : Tells is_id IsNoId
id_kind value = reading_kind parsed value

date_kind : Tells is_date IsNoDate
date_kind value = reading_kind date value

module _ (folders : List Data) where
  folder_id_kind : Tells (is_folder_id folders) (IsNoFolderId folders)
  folder_id_kind null = (λ e content folder same. cc same, λ other. refl)
  folder_id_kind (boolean b) = (λ e content folder same. cc same, λ other. refl)
  folder_id_kind (number n) = (λ e content folder same. cc same, λ other. refl)
  folder_id_kind (string s) = (to, from)
    where
      to : list_any (has_id s) folders ≡ false → IsNoFolderId folders (string s)
      to e id folder same there is = apart (has_id s folder) ((bytes_eq-Decides (text (codes "id") (Some folder)) s).1 (is ∙ sym (ap text_in same))) (any_false (has_id s) folders folder e there)

      from : IsNoFolderId folders (string s) → list_any (has_id s) folders ≡ false
      from other = any_none (has_id s) folders (λ folder there. is_false (has_id s folder) (λ e. other s folder refl there ((bytes_eq-Decides (text (codes "id") (Some folder)) s).0 e)))
  folder_id_kind (array items) = (λ e content folder same. cc same, λ other. refl)
  folder_id_kind (object ms) = (λ e content folder same. cc same, λ other. refl)

-- ---- lists

module _ (kind : Data → Bool) (IsOther : Data → Type 0) (tells : Tells kind IsOther) where
  one_refused : (values : List Data) → list_all kind values ≡ false → (value : Data) × IsIn value values × IsOther value
  one_refused [] e = cc e
  one_refused (value ∷ values) e = either (λ off. (value, inl refl, (tells value).0 off)) (λ off. let found = one_refused values off in (found.0, inr found.1, found.2)) e

  all_refused : (values : List Data) (value : Data) → IsIn value values → IsOther value → list_all kind values ≡ false
  all_refused [] value there other = absurd there
  all_refused (first ∷ values) value (inl same) other = left _ _ (ap kind same ∙ (tells value).1 other)
  all_refused (first ∷ values) value (inr there) other = right _ _ (all_refused values value there other)

  -- the values of a list
  abbrev items_in : Data → List Data
  items_in null = []
  items_in (boolean b) = []
  items_in (number n) = []
  items_in (string s) = []
  items_in (array items) = list_of items
  items_in (object ms) = []

  list_of_kind : Tells (is_list_of kind) (IsNoListOf IsOther)
  list_of_kind null = (λ e. inl (λ items same. cc same), λ other. refl)
  list_of_kind (boolean b) = (λ e. inl (λ items same. cc same), λ other. refl)
  list_of_kind (number n) = (λ e. inl (λ items same. cc same), λ other. refl)
  list_of_kind (string s) = (λ e. inl (λ items same. cc same), λ other. refl)
  list_of_kind (array items) = (to, from)
    where
      to : list_all kind (list_of items) ≡ false → IsNoListOf IsOther (array items)
      to e = let found = one_refused (list_of items) e in inr (items, refl, found.0, found.1, found.2)

      from : IsNoListOf IsOther (array items) → list_all kind (list_of items) ≡ false
      from (inl none) = absurd (none items refl)
      from (inr found) = all_refused (list_of items) found.2 (subst (λ (us : List Data). IsIn found.2 us) (sym (ap items_in found.1)) found.3) found.4
  list_of_kind (object ms) = (λ e. inl (λ items same. cc same), λ other. refl)

  -- ---- members

  given : (m : Data) → (m ≡ null) ⊎ ((m ≢ null) × (not_null m ≡ Some m))
  given null = inl refl
  given (boolean b) = inr (λ same. cc same, refl)
  given (number n) = inr (λ same. cc same, refl)
  given (string s) = inr (λ same. cc same, refl)
  given (array items) = inr (λ same. cc same, refl)
  given (object ms) = inr (λ same. cc same, refl)

  pub member_kind : (name : List ℕ) → Tells (fits kind name) (HasOther IsOther name)
  member_kind name value = (to (get name value) refl, from)
    where
      to : (o : Option Data) → get name value ≡ o → none_or kind (option_and_then not_null o) ≡ false → HasOther IsOther name value
      to None is e = cc e
      to (Some m) is e = elim (given m) [
        | inl null_is ↦ apart (none_or kind (not_null m)) (ap (λ n. none_or kind (not_null n)) null_is) e
        | inr there ↦ (m, is, there.0, (tells m).0 (sym (ap (none_or kind) there.1) ∙ e))
      ]

      from : HasOther IsOther name value → fits kind name value ≡ false
      from found = ap (λ o. none_or kind (option_and_then not_null o)) found.1 ∙ elim (given found.0) [
        | inl null_is ↦ absurd (found.2 null_is)
        | inr there ↦ ap (none_or kind) there.1 ∙ (tells found.0).1 found.3
      ]

-- ---- what is made of members

address_kind : Tells is_address IsNoAddress
address_kind value = (to, from)
  where
    to : is_address value ≡ false → IsNoAddress value
    to = either (λ e. no_address ((object_kind value).0 e)) (λ e. address_uri ((member_kind is_text IsNoText text_kind (codes "uri") value).0 e))

    from : IsNoAddress value → is_address value ≡ false
    from (no_address other) = left _ _ ((object_kind value).1 other)
    from (address_uri other) = right _ _ ((member_kind is_text IsNoText text_kind (codes "uri") value).1 other)

login_kind : Tells is_login IsNoLogin
login_kind value = (to, from)
  where
    to : is_login value ≡ false → IsNoLogin value
    to = either (either (either (either (λ e. no_login ((object_kind value).0 e)) (λ e. login_username ((member_kind is_text IsNoText text_kind (codes "username") value).0 e))) (λ e. login_password ((member_kind is_text IsNoText text_kind (codes "password") value).0 e))) (λ e. login_totp ((member_kind is_text IsNoText text_kind (codes "totp") value).0 e))) (λ e. login_uris ((member_kind (is_list_of is_address) (IsNoListOf IsNoAddress) (list_of_kind is_address IsNoAddress address_kind) (codes "uris") value).0 e))

    from : IsNoLogin value → is_login value ≡ false
    from (no_login other) = left _ _ (left _ _ (left _ _ (left _ _ ((object_kind value).1 other))))
    from (login_username other) = left _ _ (left _ _ (left _ _ (right _ _ ((member_kind is_text IsNoText text_kind (codes "username") value).1 other))))
    from (login_password other) = left _ _ (left _ _ (right _ _ ((member_kind is_text IsNoText text_kind (codes "password") value).1 other)))
    from (login_totp other) = left _ _ (right _ _ ((member_kind is_text IsNoText text_kind (codes "totp") value).1 other))
    from (login_uris other) = right _ _ ((member_kind (is_list_of is_address) (IsNoListOf IsNoAddress) (list_of_kind is_address IsNoAddress address_kind) (codes "uris") value).1 other)

custom_field_kind : Tells is_custom_field IsNoCustomField
custom_field_kind value = (to, from)
  where
    to : is_custom_field value ≡ false → IsNoCustomField value
    to = either (either (either (λ e. no_field ((object_kind value).0 e)) (λ e. field_name ((member_kind is_text IsNoText text_kind (codes "name") value).0 e))) (λ e. field_content ((member_kind is_text IsNoText text_kind (codes "value") value).0 e))) (λ e. field_type ((member_kind is_number IsNoNumber number_kind (codes "type") value).0 e))

    from : IsNoCustomField value → is_custom_field value ≡ false
    from (no_field other) = left _ _ (left _ _ (left _ _ ((object_kind value).1 other)))
    from (field_name other) = left _ _ (left _ _ (right _ _ ((member_kind is_text IsNoText text_kind (codes "name") value).1 other)))
    from (field_content other) = left _ _ (right _ _ ((member_kind is_text IsNoText text_kind (codes "value") value).1 other))
    from (field_type other) = right _ _ ((member_kind is_number IsNoNumber number_kind (codes "type") value).1 other)

earlier_password_kind : Tells is_earlier_password IsNoEarlierPassword
earlier_password_kind value = (to, from)
  where
    to : is_earlier_password value ≡ false → IsNoEarlierPassword value
    to = either (either (λ e. no_earlier ((object_kind value).0 e)) (λ e. earlier_date ((member_kind is_date IsNoDate date_kind (codes "lastUsedDate") value).0 e))) (λ e. earlier_password ((member_kind is_text IsNoText text_kind (codes "password") value).0 e))

    from : IsNoEarlierPassword value → is_earlier_password value ≡ false
    from (no_earlier other) = left _ _ (left _ _ ((object_kind value).1 other))
    from (earlier_date other) = left _ _ (right _ _ ((member_kind is_date IsNoDate date_kind (codes "lastUsedDate") value).1 other))
    from (earlier_password other) = right _ _ ((member_kind is_text IsNoText text_kind (codes "password") value).1 other)

module _ (folders : List Data) where
  pub item_kind : Tells (is_item folders) (IsNoItem folders)
  item_kind value = (to, from)
    where
      to : is_item folders value ≡ false → IsNoItem folders value
      to = either (either (either (either (either (either (either (either (either (either (either (λ e. no_item ((object_kind value).0 e)) (λ e. item_id ((member_kind is_id IsNoId id_kind (codes "id") value).0 e))) (λ e. item_folder ((member_kind (is_folder_id folders) (IsNoFolderId folders) (folder_id_kind folders) (codes "folderId") value).0 e))) (λ e. item_name ((member_kind is_text IsNoText text_kind (codes "name") value).0 e))) (λ e. item_notes ((member_kind is_text IsNoText text_kind (codes "notes") value).0 e))) (λ e. item_login ((member_kind is_login IsNoLogin login_kind (codes "login") value).0 e))) (λ e. item_fields ((member_kind (is_list_of is_custom_field) (IsNoListOf IsNoCustomField) (list_of_kind is_custom_field IsNoCustomField custom_field_kind) (codes "fields") value).0 e))) (λ e. item_card ((member_kind is_object IsNoObject object_kind (codes "card") value).0 e))) (λ e. item_identity ((member_kind is_object IsNoObject object_kind (codes "identity") value).0 e))) (λ e. item_creation ((member_kind is_date IsNoDate date_kind (codes "creationDate") value).0 e))) (λ e. item_revision ((member_kind is_date IsNoDate date_kind (codes "revisionDate") value).0 e))) (λ e. item_history ((member_kind (is_list_of is_earlier_password) (IsNoListOf IsNoEarlierPassword) (list_of_kind is_earlier_password IsNoEarlierPassword earlier_password_kind) (codes "passwordHistory") value).0 e))

      from : IsNoItem folders value → is_item folders value ≡ false
      from (no_item other) = left _ _ (left _ _ (left _ _ (left _ _ (left _ _ (left _ _ (left _ _ (left _ _ (left _ _ (left _ _ (left _ _ ((object_kind value).1 other)))))))))))
      from (item_id other) = left _ _ (left _ _ (left _ _ (left _ _ (left _ _ (left _ _ (left _ _ (left _ _ (left _ _ (left _ _ (right _ _ ((member_kind is_id IsNoId id_kind (codes "id") value).1 other)))))))))))
      from (item_folder other) = left _ _ (left _ _ (left _ _ (left _ _ (left _ _ (left _ _ (left _ _ (left _ _ (left _ _ (right _ _ ((member_kind (is_folder_id folders) (IsNoFolderId folders) (folder_id_kind folders) (codes "folderId") value).1 other))))))))))
      from (item_name other) = left _ _ (left _ _ (left _ _ (left _ _ (left _ _ (left _ _ (left _ _ (left _ _ (right _ _ ((member_kind is_text IsNoText text_kind (codes "name") value).1 other)))))))))
      from (item_notes other) = left _ _ (left _ _ (left _ _ (left _ _ (left _ _ (left _ _ (left _ _ (right _ _ ((member_kind is_text IsNoText text_kind (codes "notes") value).1 other))))))))
      from (item_login other) = left _ _ (left _ _ (left _ _ (left _ _ (left _ _ (left _ _ (right _ _ ((member_kind is_login IsNoLogin login_kind (codes "login") value).1 other)))))))
      from (item_fields other) = left _ _ (left _ _ (left _ _ (left _ _ (left _ _ (right _ _ ((member_kind (is_list_of is_custom_field) (IsNoListOf IsNoCustomField) (list_of_kind is_custom_field IsNoCustomField custom_field_kind) (codes "fields") value).1 other))))))
      from (item_card other) = left _ _ (left _ _ (left _ _ (left _ _ (right _ _ ((member_kind is_object IsNoObject object_kind (codes "card") value).1 other)))))
      from (item_identity other) = left _ _ (left _ _ (left _ _ (right _ _ ((member_kind is_object IsNoObject object_kind (codes "identity") value).1 other))))
      from (item_creation other) = left _ _ (left _ _ (right _ _ ((member_kind is_date IsNoDate date_kind (codes "creationDate") value).1 other)))
      from (item_revision other) = left _ _ (right _ _ ((member_kind is_date IsNoDate date_kind (codes "revisionDate") value).1 other))
      from (item_history other) = right _ _ ((member_kind (is_list_of is_earlier_password) (IsNoListOf IsNoEarlierPassword) (list_of_kind is_earlier_password IsNoEarlierPassword earlier_password_kind) (codes "passwordHistory") value).1 other)

-- ---- folders

abbrev member_text : Option Data → List ℕ
member_text None = []
member_text (Some value) = text_in value

module _ (name : List ℕ) where
  member_text_kind : Tells (λ value. is_some (option_and_then as_str (get name value))) (LacksText name)
  member_text_kind value = by (get name value) refl
    where
      by : (o : Option Data) → get name value ≡ o
          → (is_some (option_and_then as_str o) ≡ false → LacksText name value) × (LacksText name value → is_some (option_and_then as_str o) ≡ false)
      by None is = (λ e content same. cc (sym is ∙ same), λ other. refl)
      by (Some m) is = (
        λ e content same. (text_kind m).0 e content (ap (λ o. member_in m o) (sym is ∙ same)),
        λ other. (text_kind m).1 (λ content same. other content (is ∙ ap Some same)),
      )
        where
          member_in : Data → Option Data → Data
          member_in d None = d
          member_in d (Some n) = n

pub folder_kind : Tells is_folder IsNoFolder
folder_kind value = (to, from)
  where
    to : is_folder value ≡ false → IsNoFolder value
    to = either
        (λ e. inl ((member_text_kind (codes "id") value).0 e)) (λ e. inr ((member_text_kind (codes "name") value).0 e))

    from : IsNoFolder value → is_folder value ≡ false
    from (inl other) = left _ _ ((member_text_kind (codes "id") value).1 other)
    from (inr other) = right _ _ ((member_text_kind (codes "name") value).1 other)
