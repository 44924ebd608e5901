-- What is not of its kind in an export of Bitwarden.
use Rattle.std.specs.Prelude.{◌≡◌, ◌≢◌, ◌⊎◌, ℕ, List, Option, None, Some, codes}
use Rattle.bitwarden_forms.specs.Dates.{date}
use Rattle.bitwarden_forms.specs.Json.{list_of, text}
use Rattle.serde_json.specs.Data.{Data, Items, Members, Num, array, null, number, object, string}
use Rattle.serde_json.specs.Find.{get}
use Rattle.uuid.specs.Text.{parsed}
use Rattle.vault_model.specs.Join.{IsIn}

-- ---- values

-- A value is no object.
abbrev pub IsNoObject : Data → Type 0
IsNoObject value = (members : Members) → value ≢ object members

-- A value is no list.
abbrev pub IsNoList : Data → Type 0
IsNoList value = (items : Items) → value ≢ array items

-- A value is no number.
abbrev pub IsNoNumber : Data → Type 0
IsNoNumber value = (n : Num) → value ≢ number n

-- A value is no text.
abbrev pub IsNoText : Data → Type 0
IsNoText value = (content : List ℕ) → value ≢ string content

-- A value is no text that can be read so.
abbrev pub IsNoTextOf : {A : Type 0} → (List ℕ → Option A) → Data → Type 0
IsNoTextOf reading value =
    (content : List ℕ) → value ≡ string content → reading content ≡ None

-- A value is no id.
abbrev pub IsNoId : Data → Type 0
IsNoId value = IsNoTextOf parsed value

-- A value is no date.
abbrev pub IsNoDate : Data → Type 0
IsNoDate value = IsNoTextOf date value

-- A value is the id of none of these folders.
abbrev pub IsNoFolderId : List Data → Data → Type 0
IsNoFolderId folders value = (id : List ℕ) (folder : Data) → value ≡ string id
    → IsIn folder folders → text (codes "id") (Some folder) ≢ id

-- A value is no list, or a value in it is of another kind.
abbrev pub IsNoListOf : (Data → Type 0) → Data → Type 0
IsNoListOf IsOther value = IsNoList value
    ⊎ ((items : Items) × (value ≡ array items)
    × (element : Data) × IsIn element (list_of items) × IsOther element)

-- ---- members

-- The member of this name is there, not null and of another kind.
abbrev pub HasOther : (Data → Type 0) → List ℕ → Data → Type 0
HasOther IsOther name value = (member : Data) × (get name value ≡ Some member)
    × (member ≢ null) × IsOther member

-- A value has no text as the member of this name.
abbrev pub LacksText : List ℕ → Data → Type 0
LacksText name value = (content : List ℕ) → get name value ≢ Some (string content)

-- A value is no folder: it has no text as its id, or none as its name.
abbrev pub IsNoFolder : Data → Type 0
IsNoFolder value = LacksText (codes "id") value ⊎ LacksText (codes "name") value

-- A value is no address of a login.
pub data IsNoAddress (value : Data) : Type 0 where
  no_address : IsNoObject value → IsNoAddress value
  address_uri : HasOther IsNoText (codes "uri") value → IsNoAddress value

-- A value is no login.
pub data IsNoLogin (value : Data) : Type 0 where
  no_login : IsNoObject value → IsNoLogin value
  login_username : HasOther IsNoText (codes "username") value → IsNoLogin value
  login_password : HasOther IsNoText (codes "password") value → IsNoLogin value
  login_totp : HasOther IsNoText (codes "totp") value → IsNoLogin value
  login_uris : HasOther (IsNoListOf IsNoAddress) (codes "uris") value → IsNoLogin value

-- A value is no field that a user made.
pub data IsNoCustomField (value : Data) : Type 0 where
  no_field : IsNoObject value → IsNoCustomField value
  field_name : HasOther IsNoText (codes "name") value → IsNoCustomField value
  field_content : HasOther IsNoText (codes "value") value → IsNoCustomField value
  field_type : HasOther IsNoNumber (codes "type") value → IsNoCustomField value

-- A value is no password that an item had before.
pub data IsNoEarlierPassword (value : Data) : Type 0 where
  no_earlier : IsNoObject value → IsNoEarlierPassword value
  earlier_date : HasOther IsNoDate (codes "lastUsedDate") value → IsNoEarlierPassword value
  earlier_password : HasOther IsNoText (codes "password") value → IsNoEarlierPassword value

-- A value is no item, where these folders are.
pub data IsNoItem (folders : List Data) (value : Data) : Type 0 where
  no_item : IsNoObject value → IsNoItem folders value
  item_id : HasOther IsNoId (codes "id") value → IsNoItem folders value
  item_folder : HasOther (IsNoFolderId folders) (codes "folderId") value → IsNoItem folders value
  item_name : HasOther IsNoText (codes "name") value → IsNoItem folders value
  item_notes : HasOther IsNoText (codes "notes") value → IsNoItem folders value
  item_login : HasOther IsNoLogin (codes "login") value → IsNoItem folders value
  item_fields : HasOther (IsNoListOf IsNoCustomField) (codes "fields") value
      → IsNoItem folders value
  item_card : HasOther IsNoObject (codes "card") value → IsNoItem folders value
  item_identity : HasOther IsNoObject (codes "identity") value → IsNoItem folders value
  item_creation : HasOther IsNoDate (codes "creationDate") value → IsNoItem folders value
  item_revision : HasOther IsNoDate (codes "revisionDate") value → IsNoItem folders value
  item_history : HasOther (IsNoListOf IsNoEarlierPassword) (codes "passwordHistory") value
      → IsNoItem folders value
