-- How a table is written, in the form of RFC 4180 with every field in quotes, and each row ended by
-- a line feed.
use Rattle.std.specs.Prelude.{ℕ, ◌==◌, if◌then◌else◌, List, [], ◌∷◌, ◌++◌, codes, flat_map}

-- What a byte of a field is in quotes: a quote stands twice.
abbrev pub doubled : ℕ → List ℕ
doubled byte = if byte == 34 then 34 ∷ 34 ∷ [] else byte ∷ []

-- A field in quotes.
abbrev pub quoted : List ℕ → List ℕ
quoted field = codes "\"" ++ flat_map doubled field ++ codes "\""

-- Fields, each after a comma.
abbrev pub after_commas : List (List ℕ) → List ℕ
after_commas fields = flat_map (λ field. codes "," ++ quoted field) fields

-- A row: its fields, with a comma between each two, and the end of the line.
abbrev pub row_of : List (List ℕ) → List ℕ
row_of [] = codes "\n"
row_of (field ∷ fields) = quoted field ++ after_commas fields ++ codes "\n"

-- A table: its rows one after another.
abbrev pub rows_text : List (List (List ℕ)) → List ℕ
rows_text rows = flat_map row_of rows
