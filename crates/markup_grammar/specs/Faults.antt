-- Where a text leaves the grammar, and where it opens too many elements.
use Rattle.std.specs.Prelude.{ℕ, ◌+◌, ◌≡◌, ◌<◌, ◌≤◌, ◌⊎◌, List, [], ◌∷◌, ◌++◌, length, take}
use Rattle.std.specs.Str.{IsUtf8}
use Rattle.markup_grammar.specs.Answers.{Answer, form, depth}
use Rattle.markup_grammar.specs.Bytes.{IsName}
use Rattle.markup_grammar.specs.Tags.{IsTagText}
use Rattle.markup_grammar.specs.Tree.{Tree, IsText, start_tag, empty_tag, end_tag}

-- the bytes begin some text of the grammar
abbrev pub Begins : List ℕ → Type 0
Begins bytes = (more : List ℕ) × (tree : Tree) × IsText (bytes ++ more) tree

-- the first n bytes are the longest prefix of the text that begins some text of the grammar
pub record IsLongestFront (text : List ℕ) (n : ℕ) : Type 0 where
  pub within : n ≤ length text
  pub begins : Begins (take n text)
  pub longest : n < length text → ¬ (Begins (take (n + 1) text))

-- the end tags of these names, the innermost first, each with a space before its `>`: without it
-- that of a name which ends in `--` would end a comment too
abbrev pub end_tags : List (List ℕ) → List ℕ
end_tags [] = []
end_tags (name ∷ names) = end_tag name (32 ∷ []) ++ end_tags names

-- each of them is a name
abbrev pub AreNames : List (List ℕ) → Type 0
AreNames [] = Unit {0}
AreNames (name ∷ names) = IsName name × AreNames names

-- the elements of these names, the innermost first, are open after the bytes: their end tags
-- complete a text
pub record LeavesOpen (bytes : List ℕ) (names : List (List ℕ)) : Type 0 where
  pub are_names : AreNames names
  pub tree : Tree
  pub completes : IsText (bytes ++ end_tags names) tree

-- the bytes are a whole start tag, of an element with two tags or of an empty one
pub record IsStartTag (bytes : List ℕ) : Type 0 where
  pub name : List ℕ
  pub raw : List ℕ
  pub is_name : IsName name
  pub is_tag_text : IsTagText raw
  pub spells : (bytes ≡ start_tag name raw) ⊎ (bytes ≡ empty_tag name raw)
  pub utf8 : IsUtf8 bytes

-- at n there is a whole start tag where 256 elements are open
pub record IsTooDeep (text : List ℕ) (n : ℕ) : Type 0 where
  pub names : List (List ℕ)
  pub tag : List ℕ
  pub rest : List ℕ
  pub full : length names ≡ 256
  pub leaves_open : LeavesOpen (take n text) names
  pub is_tag : IsStartTag tag
  pub follows : text ≡ take n text ++ (tag ++ rest)

-- no such tag is before n
abbrev pub NoneDeepBefore : List ℕ → ℕ → Type 0
NoneDeepBefore text n = (m : ℕ) → IsTooDeep text m → n ≤ m

-- what a refusal says of the text: of the two faults the earlier one, of which there is never more
-- than one at a place
abbrev pub IsFault : List ℕ → Answer → Type 0
IsFault text (form n) = IsLongestFront text n × NoneDeepBefore text n
IsFault text (depth n) = IsTooDeep text n × NoneDeepBefore text n
    × ((m : ℕ) → IsLongestFront text m → n < m)
IsFault text _ = ⊥
