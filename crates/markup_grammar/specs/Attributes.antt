-- The attributes of a start tag, by the raw text between its name and its `>` or `/>`.
use Rattle.std.specs.Prelude.{ℕ, ◌==◌, ◌||◌, if◌then◌else◌, Option, Some, None, List, [], ◌∷◌, ◌++◌, bytes_eq, option_map}
use Rattle.markup_grammar.specs.Bytes.{is_space}
use Rattle.markup_grammar.specs.Escapes.{unescaped}

-- Where one is in a tag: between attributes, in a name, past a name, or in a value with the quote
-- that ends it.
pub data Spot : Type 0 where
  between : Spot
  naming : List ℕ → Spot
  due : List ℕ → Spot
  quoted : List ℕ → ℕ → List ℕ → Spot

-- a name goes on up to white space or `=`
abbrev pub spot_in_name : List ℕ → ℕ → Spot
spot_in_name name b = if is_space b || b == 61 then due name else naming (name ++ b ∷ [])

-- where a byte leads: white space parts attributes, and after a name comes its value in the next
-- pair of quotes
abbrev pub spot_after : Spot → ℕ → Spot
spot_after between b = if is_space b then between else spot_in_name [] b
spot_after (naming name) b = spot_in_name name b
spot_after (due name) b = if b == 34 || b == 39 then quoted name b [] else due name
spot_after (quoted name quote value) b = if b == quote then between else quoted name quote
    (value ++ b ∷ [])

-- the attribute that a byte ends, which is its value's closing quote
abbrev pub attribute_ended_by : Spot → ℕ → List (List ℕ × List ℕ)
attribute_ended_by (quoted name quote value) b = if b == quote then (name, value) ∷ [] else []
attribute_ended_by _ b = []

-- the names with their raw values, from a spot on
unfoldable pub attributes_from : Spot → List ℕ → List (List ℕ × List ℕ)
attributes_from spot [] = []
attributes_from spot (b ∷ rest) = attribute_ended_by spot b ++ attributes_from (spot_after spot b)
    rest

-- the names of a tag's attributes with their raw values, in their order
abbrev pub attributes : List ℕ → List (List ℕ × List ℕ)
attributes raw = attributes_from between raw

-- the value of the last of these that has the name, or else this one
unfoldable pub last_named : List ℕ → Option (List ℕ) → List (List ℕ × List ℕ) → Option (List ℕ)
last_named name found [] = found
last_named name found (pair ∷ pairs) = last_named name
    (if bytes_eq pair.0 name then Some pair.1 else found) pairs

-- the raw value of the last attribute of that name
abbrev pub attribute : List ℕ → List ℕ → Option (List ℕ)
attribute raw name = last_named name None (attributes raw)

-- and what it stands for
abbrev pub attribute_text : List ℕ → List ℕ → Option (List ℕ)
attribute_text raw name = option_map unescaped (attribute raw name)
