-- The groups that folders give.
use Rattle.std.specs.Prelude.{ℕ, Bool, true, false, ◌==◌, List, [], ◌∷◌, Option, Some, codes, filter, option_and_then, option_map, unwrap_or}
use Rattle.std.specs.List.{find, slice_split}
use Rattle.bitwarden_forms.specs.Json.{text}
use Rattle.bitwarden_forms.specs.Kinds.{has_id}
use Rattle.serde_json.specs.Data.{Data}
use Rattle.serde_json.specs.Find.{as_str, get}

-- a part that is not empty is a name
abbrev pub is_name : List ℕ → Bool
is_name [] = false
is_name (byte ∷ bytes) = true

-- the names that a text has between its slashes
abbrev pub names_in : List ℕ → List (List ℕ)
names_in path = filter is_name (slice_split (λ byte. byte == 47) path)

-- the names of the groups that lead to a folder, its own among them
abbrev pub folder_names : Data → List (List ℕ)
folder_names folder = names_in (text (codes "name") (Some folder))

-- the first of some folders that an item names, if it names one
abbrev pub folder_of : List Data → Data → Option Data
folder_of folders item =
    option_and_then (λ id. find (has_id id) folders)
    (option_and_then as_str (get (codes "folderId") item))

-- the names of the groups that lead to an item; none where it names no folder
abbrev pub item_groups : List Data → Data → List (List ℕ)
item_groups folders item = unwrap_or (option_map folder_names (folder_of folders item)) []
