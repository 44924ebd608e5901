-- The columns of a table, by the names in its first row.
use Rattle.std.specs.Prelude.{ℕ, ◌+◌, ◌==◌, Bool, false, suc, zero, if◌then◌else◌, List, [], ◌∷◌, ◌++◌, Option, None, Some, codes, map}
use Rattle.std.specs.Char.{to_ascii_lowercase}
use Rattle.std.specs.List.{list_any}
use Rattle.std.specs.Str.{bytes_eq, trim}
use Rattle.csv.specs.Reading.{default_config, records, strip_bom}
use Rattle.table_reading.specs.declared.columns.Columns.{Columns}

-- A column has this name: without the white space around it, and whatever the case of ASCII letters.
abbrev pub is_called : List ℕ → List ℕ → Bool
is_called column name =
    bytes_eq (map to_ascii_lowercase (trim column)) (map to_ascii_lowercase name)

-- A column has one of these names.
abbrev pub is_among : List (List ℕ) → List ℕ → Bool
is_among names column = list_any (is_called column) names

-- A column is there and has one of these names.
abbrev pub is_named : List (List ℕ) → Option (List ℕ) → Bool
is_named names None = false
is_named names (Some column) = is_among names column

-- the place of the first column, or of one after it
abbrev pub place_after : Option ℕ → Option ℕ → Option ℕ
place_after first None = first
place_after first (Some place) = Some (suc place)

-- The place of the last column that has one of these names, if there is one.
abbrev pub place_of : List (List ℕ) → List (List ℕ) → Option ℕ
place_of names [] = None
place_of names (column ∷ columns) =
    place_after (if is_among names column then Some zero else None) (place_of names columns)

-- The names that columns of titles have.
abbrev pub title_names : List (List ℕ)
title_names = codes "title" ∷ codes "name" ∷ codes "account" ∷ []

-- The names that columns of URLs have.
abbrev pub url_names : List (List ℕ)
url_names = codes "url" ∷ codes "urls" ∷ codes "login_uri" ∷ codes "web site" ∷ codes "website" ∷ []

-- Where the columns are that count: of those of one meaning the last. No name has two meanings.
abbrev pub columns_of : List (List ℕ) → Columns
columns_of names = record {
  group = place_of (codes "group" ∷ codes "folder" ∷ codes "grouping" ∷ []) names;
  title = place_of title_names names;
  user = place_of (codes "username" ∷ codes "user name" ∷ codes "login name"
      ∷ codes "login_username" ∷ codes "login" ∷ []) names;
  password = place_of (codes "password" ∷ codes "login_password" ∷ []) names;
  url = place_of url_names names;
  notes = place_of (codes "notes" ∷ codes "note" ∷ codes "comments" ∷ codes "extra" ∷ []) names;
  otp = place_of (codes "totp" ∷ codes "otpauth" ∷ codes "login_totp" ∷ codes "otp" ∷ []) names;
  modified = place_of (codes "last modified" ∷ []) names;
  created = place_of (codes "created" ∷ []) names;
}

-- this is the place
abbrev pub is_at : ℕ → Option ℕ → Bool
is_at at None = false
is_at at (Some place) = place == at

-- The column of this place counts.
abbrev pub counts : Columns → ℕ → Bool
counts columns at = list_any (is_at at) (columns.group ∷ columns.title ∷ columns.user
    ∷ columns.password ∷ columns.url ∷ columns.notes ∷ columns.otp ∷ columns.modified
    ∷ columns.created ∷ [])

-- The name of the column of this place, unless the column counts.
abbrev pub passed_at : Columns → ℕ → Option (List ℕ) → List (List ℕ)
passed_at columns at None = []
passed_at columns at (Some name) = if counts columns at then [] else name ∷ []

-- The names of columns that do not count; the first of these has this place.
abbrev pub passed_from : Columns → ℕ → List (List ℕ) → List (List ℕ)
passed_from columns at [] = []
passed_from columns at (name ∷ names) =
    passed_at columns at (Some name) ++ passed_from columns (at + 1) names

-- The names of the columns that are passed over, in their order, where the first row has these names.
abbrev pub passed_names : List (List ℕ) → List (List ℕ)
passed_names names = passed_from (columns_of names) 0 names

-- Those of the first of some rows.
abbrev pub passed_in : List (List (List ℕ)) → List (List ℕ)
passed_in [] = []
passed_in (names ∷ rows) = passed_names names

-- The names of the columns of a table that are passed over, as they stand in its first row.
abbrev pub passed_over : List ℕ → List (List ℕ)
passed_over bytes = passed_in (records default_config (strip_bom bytes))
