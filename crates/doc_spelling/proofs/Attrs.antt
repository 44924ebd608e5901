-- The attributes that are written are those that are read.
use Rattle.std.proofs.Common.{◌≡◌, ℕ, Bool, true, false, cond, Option, Some, None, List, [], ◌∷◌, map, option_map, bytes_eq, ap, refl, ◌∙◌, inl}
use Rattle.markup_grammar.proofs.EscapedRuns.{escaped_value}
use Rattle.markup_grammar.proofs.RoundTrip.{round_trip_lem}
use Rattle.markup_grammar.proofs.TagMeanings.{attributes_told}
use Rattle.markup_grammar.specs.Attributes.{attribute_text, last_named}
use Rattle.markup_grammar.specs.Bytes.{is_space, IsName, AllAre, begins_name, is_name_byte}
use Rattle.std.specs.List.{list_all}
use Rattle.vault_model.proofs.Tests.{and_true}
use Rattle.markup_grammar.specs.Escapes.{unescaped}
use Rattle.markup_grammar.specs.Tags.{AreAttributes, IsAttribute, named_values}
use Rattle.doc_spelling.specs.Pieces.{attribute_of, attributes_text}
use Rattle.doc_spelling.proofs.Goods.{Each}

-- each attribute has a name
abbrev pub AreNamed : List (List ℕ × List ℕ) → Type 0
AreNamed attrs = Each (λ a. IsName a.0) attrs

-- the text of the last attribute of that name
abbrev pub last_value : List ℕ → Option (List ℕ) → List (List ℕ × List ℕ) → Option (List ℕ)
last_value name found [] = found
last_value name found (a ∷ attrs) = last_value name (cond (bytes_eq a.0 name) (Some a.1) found) attrs

pub is_attribute : (a : List ℕ × List ℕ) → IsName a.0 → IsAttribute (attribute_of a)
unfolding is_space
is_attribute a name = record { has_space = λ e. cc e; space = (refl, tt); name = name; space_before = tt; space_behind = tt; quote = inl refl; value = escaped_value a.1 }

pub are_attributes : (attrs : List (List ℕ × List ℕ)) → AreNamed attrs → AreAttributes (map attribute_of attrs)
are_attributes [] named = tt
are_attributes (a ∷ attrs) named = (is_attribute a named.0, are_attributes attrs named.1)

picked : (b : Bool) (text : List ℕ) (raw found : Option (List ℕ)) (v : List ℕ) → unescaped text ≡ v → option_map unescaped raw ≡ found
    → option_map unescaped (cond b (Some text) raw) ≡ cond b (Some v) found
picked true text raw found v e f = ap (λ (t : List ℕ). Some t) e
picked false text raw found v e f = f

last_is : (name : List ℕ) (attrs : List (List ℕ × List ℕ)) (raw found : Option (List ℕ)) → option_map unescaped raw ≡ found
    → option_map unescaped (last_named name raw (named_values (map attribute_of attrs))) ≡ last_value name found attrs
unfolding last_named
last_is name [] raw found e = e
last_is name (a ∷ attrs) raw found e = last_is name attrs _ (cond (bytes_eq a.0 name) (Some a.1) found) (picked (bytes_eq a.0 name) _ raw found a.1 (round_trip_lem a.1) e)

pub attribute_is : (attrs : List (List ℕ × List ℕ)) → AreNamed attrs → (name : List ℕ) → attribute_text (attributes_text attrs) name ≡ last_value name None attrs
attribute_is attrs named name =
    ap (λ l. option_map unescaped (last_named name None l)) (attributes_told (map attribute_of attrs) [] (are_attributes attrs named) tt)
    ∙ last_is name attrs None None refl

-- bytes that pass these tests are a name
all_from : (test : ℕ → Bool) (bytes : List ℕ) → list_all test bytes ≡ true → AllAre test bytes
all_from test [] e = tt
all_from test (b ∷ bs) e = let both = and_true (test b) (list_all test bs) e in (both.0, all_from test bs both.1)

pub is_name : (b : ℕ) (bs : List ℕ) → begins_name b ≡ true → list_all is_name_byte bs ≡ true → IsName (b ∷ bs)
is_name b bs e f = (e, all_from is_name_byte bs f)
