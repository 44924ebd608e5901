-- Attributes: what is in a start tag after its name.
use Rattle.std.specs.Prelude.{ℕ, ◌≡◌, ◌≢◌, ◌⊎◌, List, [], ◌∷◌, ◌++◌}
use Rattle.markup_grammar.specs.Bytes.{is_space, is_value, AllAre, IsName}
use Rattle.markup_grammar.specs.Runs.{IsRun}

-- an attribute: white space, a name, `=` between white space, and a value between two of a quote
pub record Attribute : Type 0 where
  pub space : List ℕ
  pub name : List ℕ
  pub space_before : List ℕ
  pub space_behind : List ℕ
  pub quote : ℕ
  pub value : List ℕ

-- its bytes, and what follows them
abbrev pub attribute_then : Attribute → List ℕ → List ℕ
attribute_then a rest =
    a.space ++ (a.name ++ (a.space_before ++ (61 ∷
    (a.space_behind ++ (a.quote ∷ (a.value ++ (a.quote ∷ rest)))))))

-- a quote is `"` or `'`
abbrev pub IsQuote : ℕ → Type 0
IsQuote b = (b ≡ 34) ⊎ (b ≡ 39)

-- white space is before the name, and a value is a run without its quote
pub record IsAttribute (a : Attribute) : Type 0 where
  pub has_space : a.space ≢ []
  pub space : AllAre is_space a.space
  pub name : IsName a.name
  pub space_before : AllAre is_space a.space_before
  pub space_behind : AllAre is_space a.space_behind
  pub quote : IsQuote a.quote
  pub value : IsRun (is_value a.quote) a.value

-- attributes, and white space after them
abbrev pub spelled_attributes : List Attribute → List ℕ → List ℕ
spelled_attributes [] space = space
spelled_attributes (a ∷ attributes) space = attribute_then a (spelled_attributes attributes space)

-- each is one
abbrev pub AreAttributes : List Attribute → Type 0
AreAttributes [] = Unit {0}
AreAttributes (a ∷ attributes) = IsAttribute a × AreAttributes attributes

-- the bytes between a name and its tag's end are attributes, and then white space or none
pub record IsTagText (bytes : List ℕ) : Type 0 where
  pub attributes : List Attribute
  pub space : List ℕ
  pub are_attributes : AreAttributes attributes
  pub is_space : AllAre is_space space
  pub spells : bytes ≡ spelled_attributes attributes space

-- the names of attributes with their raw values
abbrev pub named_values : List Attribute → List (List ℕ × List ℕ)
named_values [] = []
named_values (a ∷ attributes) = (a.name, a.value) ∷ named_values attributes
