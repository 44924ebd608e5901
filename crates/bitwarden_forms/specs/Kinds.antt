-- Which values of an export are of their kinds.
use Rattle.std.specs.Prelude.{ℕ, Bool, true, false, not, ◌&&◌, List, Option, None, Some, codes, is_some, option_and_then}
use Rattle.std.specs.List.{list_all, list_any}
use Rattle.std.specs.Str.{bytes_eq}
use Rattle.serde_json.specs.Data.{Data}
use Rattle.serde_json.specs.Find.{as_array, as_number, as_object, as_str, get}
use Rattle.uuid.specs.Text.{parsed}
use Rattle.vault_model.specs.Db.{NodeId, nil_id}
use Rattle.bitwarden_forms.specs.Dates.{date}
use Rattle.bitwarden_forms.specs.Json.{given_member, list_of, text}

-- ---- kinds

-- something is there of which this holds
abbrev pub holds : {A : Type 0} → (A → Bool) → Option A → Bool
holds test None = false
holds test (Some x) = test x

-- nothing is there, or this holds of it
abbrev pub none_or : {A : Type 0} → (A → Bool) → Option A → Bool
none_or test None = true
none_or test (Some x) = test x

-- a member is missing, null or of this kind
abbrev pub fits : (Data → Bool) → List ℕ → Data → Bool
fits kind name value = none_or kind (given_member name value)

-- a text
abbrev pub is_text : Data → Bool
is_text value = is_some (as_str value)

-- a number
abbrev pub is_number : Data → Bool
is_number value = is_some (as_number value)

-- an object
abbrev pub is_object : Data → Bool
is_object value = is_some (as_object value)

-- a list
abbrev pub is_list : Data → Bool
is_list value = is_some (as_array value)

-- a list of values of one kind
abbrev pub is_list_of : (Data → Bool) → Data → Bool
is_list_of kind value = holds (λ items. list_all kind (list_of items)) (as_array value)

-- the id that a text is: hexadecimal digits, with hyphens or none, in braces or after `urn:uuid:`
abbrev pub id_in : Data → Option NodeId
id_in value = option_and_then parsed (as_str value)

-- an id
abbrev pub is_id : Data → Bool
is_id value = is_some (id_in value)

-- a date
abbrev pub is_date : Data → Bool
is_date value = is_some (option_and_then date (as_str value))

-- ---- folders

-- a folder has an id and a name
abbrev pub is_folder : Data → Bool
is_folder value =
    is_some (option_and_then as_str (get (codes "id") value))
    && is_some (option_and_then as_str (get (codes "name") value))

-- a folder has this id
abbrev pub has_id : List ℕ → Data → Bool
has_id id folder = bytes_eq (text (codes "id") (Some folder)) id

-- the id of one of these folders
abbrev pub is_folder_id : List Data → Data → Bool
is_folder_id folders value = holds (λ id. list_any (has_id id) folders) (as_str value)

-- ---- items

-- an address, as a login has them
abbrev pub is_address : Data → Bool
is_address value = is_object value && fits is_text (codes "uri") value

-- a login
abbrev pub is_login : Data → Bool
is_login value =
    is_object value && fits is_text (codes "username") value
    && fits is_text (codes "password") value && fits is_text (codes "totp") value
    && fits (is_list_of is_address) (codes "uris") value

-- a field that a user made
abbrev pub is_custom_field : Data → Bool
is_custom_field value =
    is_object value && fits is_text (codes "name") value && fits is_text (codes "value") value
    && fits is_number (codes "type") value

-- a password that an item had before
abbrev pub is_earlier_password : Data → Bool
is_earlier_password value =
    is_object value && fits is_date (codes "lastUsedDate") value
    && fits is_text (codes "password") value

-- an item, where these folders are
abbrev pub is_item : List Data → Data → Bool
is_item folders value =
    is_object value && fits is_id (codes "id") value
    && fits (is_folder_id folders) (codes "folderId") value
    && fits is_text (codes "name") value && fits is_text (codes "notes") value
    && fits is_login (codes "login") value
    && fits (is_list_of is_custom_field) (codes "fields") value
    && fits is_object (codes "card") value && fits is_object (codes "identity") value
    && fits is_date (codes "creationDate") value && fits is_date (codes "revisionDate") value
    && fits (is_list_of is_earlier_password) (codes "passwordHistory") value

-- the id that an item gives, if it gives one
abbrev pub given_id : Data → Option NodeId
given_id value = option_and_then id_in (get (codes "id") value)

-- an item has not the nil id
abbrev pub is_not_nil : Data → Bool
is_not_nil value = none_or (λ id. not (bytes_eq id nil_id)) (given_id value)
