-- The grammar, as trees: a text is one element with white space, comments and instructions round
-- it, after a byte order mark or none.
use Rattle.std.specs.Prelude.{ℕ, ◌+◌, ◌≡◌, max, Bool, true, false, List, [], ◌∷◌, ◌++◌, length}
use Rattle.std.specs.Str.{IsUtf8}
use Rattle.markup_grammar.specs.Answers.{Answer, start, words, stop}
use Rattle.markup_grammar.specs.Bytes.{is_space, is_text, AllAre, IsName}
use Rattle.markup_grammar.specs.Runs.{IsRun}
use Rattle.markup_grammar.specs.Tags.{IsTagText}

-- what gives no piece, by what is between its two marks
pub data Aside : Type 0 where
  comment : List ℕ → Aside
  instruction : List ℕ → Aside

-- what may come before and after the outermost element
pub data Around : Type 0 where
  -- a byte of white space
  blank : ℕ → Around
  aside : Aside → Around

mutual
  -- an element: a start tag, its content and an end tag, or an empty element
  pub data Element : Type 0 where
    -- a name, the raw text of its attributes, what is between its two tags, and the white space
    -- in its end tag
    element : List ℕ → List ℕ → Content → List ℕ → Element
    -- an empty element's name, and the raw text of its attributes
    empty : List ℕ → List ℕ → Element

  -- a run of text, which may be of no bytes, and then nothing, or an element or an aside and more
  -- content
  pub data Content : Type 0 where
    text_only : List ℕ → Content
    element_after : List ℕ → Element → Content → Content
    aside_after : List ℕ → Aside → Content → Content

-- a whole text
pub record Tree : Type 0 where
  -- whether it begins with the byte order mark
  pub marked : Bool
  pub front : List Around
  pub root : Element
  pub back : List Around

-- `-->`, which ends a comment
abbrev pub comment_end : List ℕ
comment_end = 45 ∷ 45 ∷ 62 ∷ []

-- `?>`, which ends an instruction
abbrev pub instruction_end : List ℕ
instruction_end = 63 ∷ 62 ∷ []

-- `<!--`, the body, `-->`; or `<?`, the body, `?>`
abbrev pub spelled_aside : Aside → List ℕ
spelled_aside (comment body) = 60 ∷ 33 ∷ 45 ∷ 45 ∷ (body ++ comment_end)
spelled_aside (instruction body) = 60 ∷ 63 ∷ (body ++ instruction_end)

-- the bytes round the outermost element
abbrev pub spelled_around : List Around → List ℕ
spelled_around [] = []
spelled_around (blank b ∷ around) = b ∷ spelled_around around
spelled_around (aside a ∷ around) = spelled_aside a ++ spelled_around around

-- `<name`, the attributes, `>`
abbrev pub start_tag : List ℕ → List ℕ → List ℕ
start_tag name raw = 60 ∷ (name ++ (raw ++ 62 ∷ []))

-- `<name`, the attributes, `/>`
abbrev pub empty_tag : List ℕ → List ℕ → List ℕ
empty_tag name raw = 60 ∷ (name ++ (raw ++ 47 ∷ 62 ∷ []))

-- `</name`, white space, `>`
abbrev pub end_tag : List ℕ → List ℕ → List ℕ
end_tag name space = 60 ∷ 47 ∷ (name ++ (space ++ 62 ∷ []))

abbrev mutual
  -- the bytes of an element
  pub spelled : Element → List ℕ
  spelled (element name raw inner space) = start_tag name raw
      ++ (spelled_all inner ++ end_tag name space)
  spelled (empty name raw) = empty_tag name raw

  -- the bytes of what is between two tags
  pub spelled_all : Content → List ℕ
  spelled_all (text_only text) = text
  spelled_all (element_after text e more) = text ++ (spelled e ++ spelled_all more)
  spelled_all (aside_after text a more) = text ++ (spelled_aside a ++ spelled_all more)

-- the byte order mark, or nothing
abbrev pub mark_of : Bool → List ℕ
mark_of true = 0xEF ∷ 0xBB ∷ 0xBF ∷ []
mark_of false = []

-- the bytes before the outermost element
abbrev pub spelled_front : Tree → List ℕ
spelled_front tree = mark_of tree.marked ++ spelled_around tree.front

-- the bytes of a whole text
abbrev pub spelled_tree : Tree → List ℕ
spelled_tree tree = spelled_front tree ++ (spelled tree.root ++ spelled_around tree.back)

-- the mark that comes after the body is at no earlier place: whatever it is found after, nothing
-- follows it
abbrev pub EndsFirst : List ℕ → List ℕ → Type 0
EndsFirst mark body = (before behind : List ℕ) → body ++ mark ≡ before ++ (mark ++ behind)
    → behind ≡ []

-- a comment goes up to the first `-->` after its `<!--`, an instruction to the first `?>` after its
-- `<?`
abbrev pub IsAside : Aside → Type 0
IsAside (comment body) = EndsFirst comment_end body
IsAside (instruction body) = EndsFirst instruction_end body

-- so it is of all that is around the outermost element, and the rest is white space
abbrev pub AreAround : List Around → Type 0
AreAround [] = Unit {0}
AreAround (blank b ∷ around) = (is_space b ≡ true) × AreAround around
AreAround (aside a ∷ around) = IsAside a × AreAround around

abbrev mutual
  -- names, attributes and content are what they should be
  pub IsElement : Element → Type 0
  IsElement (element name raw inner space) = IsName name × IsTagText raw × IsContent inner
      × AllAre is_space space
  IsElement (empty name raw) = IsName name × IsTagText raw

  -- and so are text, elements, comments and instructions
  pub IsContent : Content → Type 0
  IsContent (text_only text) = IsRun is_text text
  IsContent (element_after text e more) = IsRun is_text text × IsElement e × IsContent more
  IsContent (aside_after text a more) = IsRun is_text text × IsAside a × IsContent more

-- the bytes are a text of the grammar, and this is its tree
pub record IsText (text : List ℕ) (tree : Tree) : Type 0 where
  pub front : AreAround tree.front
  pub root : IsElement tree.root
  pub back : AreAround tree.back
  pub spells : text ≡ spelled_tree tree
  pub utf8 : IsUtf8 text

abbrev mutual
  -- how many elements are open at once, at most
  pub height : Element → ℕ
  height (element name raw inner space) = 1 + height_all inner
  height (empty name raw) = 1

  -- the same of what is between two tags
  pub height_all : Content → ℕ
  height_all (text_only text) = 0
  height_all (element_after text e more) = max (height e) (height_all more)
  height_all (aside_after text a more) = height_all more

-- the piece of a run of text, where it has any bytes
abbrev pub words_at : ℕ → List ℕ → List Answer
words_at place [] = []
words_at place (b ∷ bs) = words place (b ∷ bs) ∷ []

abbrev mutual
  -- the pieces of an element that begins at this place
  pub pieces : ℕ → Element → List Answer
  pieces place (element name raw inner space) =
      start place name raw
      ∷ (pieces_all (place + length (start_tag name raw)) inner
      ++ stop (place + length (start_tag name raw) + length (spelled_all inner)) ∷ [])
  pieces place (empty name raw) = start place name raw ∷ stop (place + length (60 ∷ (name ++ raw)))
      ∷ []

  -- the pieces of content that begins at this place
  pub pieces_all : ℕ → Content → List Answer
  pieces_all place (text_only text) = words_at place text
  pieces_all place (element_after text e more) =
      words_at place text
      ++ (pieces (place + length text) e ++ pieces_all (place + length text + length (spelled e))
      more)
  pieces_all place (aside_after text a more) =
      words_at place text ++ pieces_all (place + length text + length (spelled_aside a)) more

-- the pieces of a whole text
abbrev pub tree_pieces : Tree → List Answer
tree_pieces tree = pieces (length (spelled_front tree)) tree.root
