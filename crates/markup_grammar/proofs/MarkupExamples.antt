-- Raw markup small enough that what it stands for can be told by hand from the standard of XML 1.0 (2.11, 4.1, 4.6).
use Rattle.std.proofs.Common.{◌≡◌, ℕ, Some, None, List, [], ◌∷◌, ◌++◌, codes, refl}
use lib.Utf8.{encode}
use Rattle.markup_grammar.specs.Answers.{start, words, stop, finish, form}
use Rattle.markup_grammar.specs.Attributes.{attribute, attribute_text, attributes_from, last_named}
use Rattle.markup_grammar.specs.Bytes.{is_space}
use Rattle.markup_grammar.specs.Elements.{element, last, also, cut, open_contents, content_of}
use Rattle.markup_grammar.specs.Escapes.{unescaped, unescaped_from, character_of_reference, character_by_number, escaped, escaped_byte}

pub names : unescaped (codes "a&amp;&lt;&gt;&quot;&apos;b") ≡ codes "a&<>\"'b"
unfolding unescaped_from character_of_reference encode
names = refl

-- U+0041, U+00E9, U+20AC and U+1F511, in decimal, with leading zeros, and in both cases
pub numbers : unescaped (codes "&#65;&#x000E9;&#8364;&#x1f511;&#x1F511;") ≡ 0x41 ∷ 0xC3 ∷ 0xA9 ∷ 0xE2 ∷ 0x82 ∷ 0xAC ∷ 0xF0 ∷ 0x9F ∷ 0x94 ∷ 0x91 ∷ 0xF0 ∷ 0x9F ∷ 0x94 ∷ 0x91 ∷ []
unfolding unescaped_from character_of_reference character_by_number encode
numbers = refl

-- a surrogate, the number past the last, no digits, a sign, and a name in capitals stand for nothing
pub no_characters : unescaped (codes "&#xD800;&#x110000;&#;&#x;&#+1;&AMP;.") ≡ codes "."
unfolding unescaped_from character_of_reference character_by_number encode
no_characters = refl

-- CR LF, CR, LF CR, CR CR LF; a carriage return by its number stays
pub line_ends : unescaped (97 ∷ 13 ∷ 10 ∷ 98 ∷ 13 ∷ 99 ∷ 10 ∷ 13 ∷ 13 ∷ 13 ∷ 10 ∷ (codes "&#xD;" ++ (10 ∷ []))) ≡ 97 ∷ 10 ∷ 98 ∷ 10 ∷ 99 ∷ 10 ∷ 10 ∷ 10 ∷ 10 ∷ 13 ∷ 10 ∷ []
unfolding unescaped_from character_of_reference character_by_number encode
line_ends = refl

pub written : escaped (codes "a&<>\"'b" ++ (0 ∷ 9 ∷ 10 ∷ 13 ∷ 31 ∷ 32 ∷ 127 ∷ 200 ∷ [])) ≡ codes "a&amp;&lt;&gt;&quot;'b&#x0;" ++ (9 ∷ 10 ∷ (codes "&#xD;&#x1F; " ++ (127 ∷ 200 ∷ [])))
unfolding escaped_byte
written = refl

-- ` A="1"  b = '"' A='x&lt;' `
abbrev tag : List ℕ
tag = codes " A=\"1\"  b = '\"' A='x&lt;' "

pub last_of_two : attribute tag (codes "A") ≡ Some (codes "x&lt;")
unfolding attributes_from is_space last_named
last_of_two = refl

pub its_text : attribute_text tag (codes "A") ≡ Some (codes "x<")
unfolding attributes_from is_space last_named unescaped_from character_of_reference encode
its_text = refl

pub in_single_quotes : attribute tag (codes "b") ≡ Some (codes "\"")
unfolding attributes_from is_space last_named
in_single_quotes = refl

pub not_there : attribute tag (codes "a") ≡ None
unfolding attributes_from is_space last_named
not_there = refl

-- `<a>1<b/>2<!---->&lt;</a>`
pub whole : content_of (start 0 (codes "a") [] ∷ words 3 (codes "1") ∷ start 4 (codes "b") [] ∷ stop 6 ∷ words 8 (codes "2") ∷ words 16 (codes "&lt;") ∷ stop 20 ∷ finish ∷ [])
    ≡ also [] (element 0 (codes "a") [] (also (codes "1") (element 4 (codes "b") [] (last [])) (last (codes "2<")))) (last [])
unfolding open_contents unescaped_from character_of_reference encode
whole = refl

-- `<a>1<b x=''>&`
pub refused : content_of (start 0 (codes "a") [] ∷ words 3 (codes "1") ∷ start 4 (codes "b") (codes " x=''") ∷ form 13 ∷ [])
    ≡ also [] (element 0 (codes "a") [] (also (codes "1") (element 4 (codes "b") (codes " x=''") (cut [] (form 13))) (cut [] finish))) (cut [] finish)
unfolding open_contents unescaped_from
refused = refl
