-- The elements of a text, by its tree: what a reader of the answers finds in a text of the
-- grammar.
use Rattle.std.specs.Prelude.{ℕ, ◌+◌, [], length}
use Rattle.markup_grammar.specs.Elements as told
use Rattle.markup_grammar.specs.Elements.{with_text_before}
use Rattle.markup_grammar.specs.Escapes.{unescaped}
use Rattle.markup_grammar.specs.Tree.{Element, element, empty, Content, text_only, element_after, aside_after, start_tag, spelled, spelled_aside, Tree, spelled_front}

abbrev mutual
  -- the element that begins at this place, by its place, name, raw attributes and what it holds
  pub element_at : ℕ → Element → told.Element
  element_at place (element name raw inner space) =
      told.element place name raw (content_at (place + length (start_tag name raw)) inner)
  element_at place (empty name raw) = told.element place name raw (told.last [])

  -- what is between two tags, of which the first ends at this place: texts are unescaped, and
  -- joined across what gives no piece
  pub content_at : ℕ → Content → told.Content
  content_at place (text_only text) = told.last (unescaped text)
  content_at place (element_after text e more) =
      told.also (unescaped text) (element_at (place + length text) e)
      (content_at (place + length text + length (spelled e)) more)
  content_at place (aside_after text a more) =
      with_text_before (unescaped text)
      (content_at (place + length text + length (spelled_aside a)) more)

-- a whole text holds one element
abbrev pub tree_content : Tree → told.Content
tree_content tree = told.also [] (element_at (length (spelled_front tree)) tree.root) (told.last [])
