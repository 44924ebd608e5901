-- The tags of an entry, which are one text.
use Rattle.std.specs.Prelude.{ℕ, Bool, true, false, not, ◌||◌, ◌==◌, ◌++◌, if◌then◌else◌, List, [], ◌∷◌, map}
use Rattle.std.specs.List.{filter, list_any}
use Rattle.std.specs.Str.{bytes_eq, trim}

-- a semicolon or a comma parts two tags
abbrev pub parts_tags : ℕ → Bool
parts_tags b = b == 59 || b == 44

-- texts with a byte more at the start of the first of them
abbrev pub before_first : ℕ → List (List ℕ) → List (List ℕ)
before_first b [] = (b ∷ []) ∷ []
before_first b (text ∷ texts) = (b ∷ text) ∷ texts

-- the texts between the bytes that part tags
abbrev pub tag_texts : List ℕ → List (List ℕ)
tag_texts [] = [] ∷ []
tag_texts (b ∷ bs) = if parts_tags b then [] ∷ tag_texts bs else before_first b (tag_texts bs)

-- there is something in a text
abbrev pub has_bytes : List ℕ → Bool
has_bytes [] = false
has_bytes (b ∷ bs) = true

-- the tags in a text: what is between semicolons and commas, without white space around it, where
-- there is something
abbrev pub tags_in : List ℕ → List (List ℕ)
tags_in text = filter has_bytes (map trim (tag_texts text))

-- a text is among others
abbrev pub is_among : List ℕ → List (List ℕ) → Bool
is_among text = list_any (bytes_eq text)

-- a text is one tag: the only tag in it is the text itself
abbrev pub is_only : List ℕ → List (List ℕ) → Bool
is_only text (tag ∷ []) = bytes_eq text tag
is_only text tags = false

-- the same of the tags in it
abbrev pub is_tag : List ℕ → Bool
is_tag text = is_only text (tags_in text)

-- tags with others after them, each unless it is there
abbrev pub with_tags : List (List ℕ) → List (List ℕ) → List (List ℕ)
with_tags [] tags = tags
with_tags (tag ∷ more) tags =
    with_tags more (if is_among tag tags then tags else tags ++ tag ∷ [])

-- tags without others
abbrev pub without_tags : List (List ℕ) → List (List ℕ) → List (List ℕ)
without_tags others = filter (λ tag. not (is_among tag others))

-- tags after a first one, each with a semicolon before it
abbrev pub tags_after : List (List ℕ) → List ℕ
tags_after [] = []
tags_after (tag ∷ tags) = 59 ∷ tag ++ tags_after tags

-- the text that tags are
abbrev pub joined_tags : List (List ℕ) → List ℕ
joined_tags [] = []
joined_tags (tag ∷ tags) = tag ++ tags_after tags

-- a text of tags, with others put to them and others taken away; one to which nothing is done stays
-- as it is
abbrev pub changed_tags : (tags untags : List (List ℕ)) → List ℕ → List ℕ
changed_tags [] [] text = text
changed_tags (tag ∷ tags) untags text =
    joined_tags (without_tags untags (with_tags (tag ∷ tags) (tags_in text)))
changed_tags [] (tag ∷ untags) text =
    joined_tags (without_tags (tag ∷ untags) (tags_in text))
