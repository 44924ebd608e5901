-- What the members of a JSON value say. Of a member that is missing or null the text is empty, and
-- so is the list.
use Rattle.std.specs.Prelude.{ℕ, List, [], ◌∷◌, Option, None, Some, option_and_then, option_map, unwrap_or}
use Rattle.serde_json.specs.Data.{Data, Items, array, boolean, item, no_items, null, number, object, string}
use Rattle.serde_json.specs.Find.{as_array, as_str, get}

-- the values of an array
abbrev pub list_of : Items → List Data
list_of no_items = []
list_of (item value rest) = value ∷ list_of rest

-- a value that is not null
abbrev pub not_null : Data → Option Data
not_null null = None
not_null (boolean b) = Some (boolean b)
not_null (number n) = Some (number n)
not_null (string s) = Some (string s)
not_null (array items) = Some (array items)
not_null (object members) = Some (object members)

-- the member of a name, where it is there and not null
abbrev pub given_member : List ℕ → Data → Option Data
given_member name value = option_and_then not_null (get name value)

-- the member of a name of a value, where both are there
abbrev pub inner_member : List ℕ → Option Data → Option Data
inner_member name value = option_and_then (get name) value

-- the text of a member
abbrev pub text : List ℕ → Option Data → List ℕ
text name value = unwrap_or (option_and_then as_str (inner_member name value)) []

-- the values in a list; none where a value is no list
abbrev pub elements : Data → List Data
elements value = list_of (unwrap_or (as_array value) no_items)

-- the values in a list that is a member
abbrev pub values : List ℕ → Option Data → List Data
values name value = unwrap_or (option_map elements (inner_member name value)) []
