-- The fields of the entry that an item gives.
use Rattle.std.specs.Prelude.{ℕ, Bool, true, false, ◌==◌, ◌&&◌, ◌||◌, if◌then◌else◌, Option, Some, List, [], ◌∷◌, ◌++◌, codes, drop, map, nat_eq, option_and_then, unwrap_or}
use Rattle.std.specs.List.{enumerate_from, starts_with}
use Rattle.std.specs.Str.{bytes_eq}
use Rattle.bitwarden_forms.specs.Json.{text, values}
use Rattle.bitwarden_forms.specs.Kinds.{holds}
use Rattle.bitwarden_fields.specs.Keys.{numbered_key, put_all, with_fields}
use Rattle.serde_json.specs.Data.{Data, Members, array, boolean, member, no_members, null, number, object, string}
use Rattle.serde_json.specs.Find.{as_number, as_object, as_u64, get}
use Rattle.vault_model.specs.Bare.{BareField}

-- a field of an entry
abbrev pub field : List ℕ → List ℕ → Bool → BareField
field key value hidden = record { key = key; value = value; hidden = hidden }

-- ---- logins

-- the login of an item, if it has one
abbrev pub login_of : Data → Option Data
login_of item = get (codes "login") item

-- the addresses of a login
abbrev pub addresses_of : Option Data → List Data
addresses_of login = values (codes "uris") login

-- the text of an address
abbrev pub address_text : Data → List ℕ
address_text address = text (codes "uri") (Some address)

-- the text of the first of some addresses, empty where there is none
abbrev pub first_text : List Data → List ℕ
first_text [] = []
first_text (address ∷ rest) = address_text address

-- the field of the address of this number
abbrev pub address_field : ℕ × Data → BareField
address_field row = field (numbered_key (codes "URL") row.0) (address_text row.1) false

-- the fields of the addresses after the first, which have the numbers from 2 on
abbrev pub more_addresses : List Data → List BareField
more_addresses addresses = map address_field (enumerate_from 2 (drop 1 addresses))

-- where one-time codes come from: a URI, which is made of a secret alone
abbrev pub code_text : List ℕ → List ℕ
code_text text =
    if starts_with nat_eq text (codes "otpauth://") then text
    else codes "otpauth://totp/?secret=" ++ text

-- the field of one-time codes, where there is a text for it
abbrev pub code_field : List ℕ → List BareField
code_field [] = []
code_field (byte ∷ bytes) = field (codes "otp") (code_text (byte ∷ bytes)) true ∷ []

-- the fields of an account with this password
abbrev pub account_fields : List ℕ → Option Data → List BareField
account_fields password login =
    field (codes "UserName") (text (codes "username") login) false
    ∷ field (codes "Password") password true
    ∷ field (codes "URL") (first_text (addresses_of login)) false
    ∷ []

-- the fields of a login with this password
abbrev pub login_fields : List ℕ → Option Data → List BareField
login_fields password login =
    account_fields password login
    ++ (more_addresses (addresses_of login) ++ code_field (text (codes "totp") login))

-- ---- other fields

-- a field that a user made is hidden: its type is 1
abbrev pub is_hidden : Data → Bool
is_hidden custom =
    holds (λ n. n == 1)
    (option_and_then as_u64 (option_and_then as_number (get (codes "type") custom)))

-- a field that a user made
abbrev pub custom_field : Data → BareField
custom_field custom =
    field (text (codes "name") (Some custom)) (text (codes "value") (Some custom))
    (is_hidden custom)

-- the field of a member that is a text
abbrev pub member_field : Bool → List ℕ → Data → List BareField
member_field hidden name (string s) = field name s hidden ∷ []
member_field hidden name null = []
member_field hidden name (boolean b) = []
member_field hidden name (number n) = []
member_field hidden name (array items) = []
member_field hidden name (object inside) = []

-- the number and the code of a card are hidden; of an identity nothing is
abbrev pub is_secret : Bool → List ℕ → Bool
is_secret is_card name =
    is_card && (bytes_eq name (codes "number") || bytes_eq name (codes "code"))

-- the fields of the members that are texts, in their order
abbrev pub member_fields : Bool → Members → List BareField
member_fields is_card no_members = []
member_fields is_card (member name value rest) =
    member_field (is_secret is_card name) name value ++ member_fields is_card rest

-- the same of a card or an identity, if there is one
abbrev pub object_fields : Bool → Option Data → List BareField
object_fields is_card value =
    member_fields is_card (unwrap_or (option_and_then as_object value) no_members)

-- ---- all fields

-- the title and the notes
abbrev pub title_fields : Data → List BareField
title_fields item =
    field (codes "Title") (text (codes "name") (Some item)) false
    ∷ field (codes "Notes") (text (codes "notes") (Some item)) false
    ∷ []

-- the fields of a card and of an identity
abbrev pub objects_fields : Data → List BareField
objects_fields item =
    object_fields true (get (codes "card") item)
    ++ object_fields false (get (codes "identity") item)

-- the fields of an item with this password, under the keys that the item says
abbrev pub said_fields : List ℕ → Data → List BareField
said_fields password item =
    title_fields item
    ++ (login_fields password (login_of item)
    ++ (map custom_field (values (codes "fields") (Some item)) ++ objects_fields item))

-- The fields of an item with this password, by their keys. Where a key stands already, a number comes
-- after it.
abbrev pub fields_of : List ℕ → Data → List BareField
fields_of password item = put_all (with_fields (said_fields password item) []) []
