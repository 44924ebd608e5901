-- The tree of elements that a reader's answers spell, which ends in a cut where the text is
-- refused.
use Rattle.std.specs.Prelude.{ℕ, Option, Some, None, List, [], ◌∷◌, ◌++◌}
use Rattle.std.specs.Option.{option_or}
use Rattle.markup_grammar.specs.Answers.{Answer, start, words, stop, finish, form, depth}
use Rattle.markup_grammar.specs.Escapes.{unescaped}

mutual
  -- an element: the place of its `<`, its name, the raw text of its attributes, and what it holds
  pub data Element : Type 0 where
    element : ℕ → List ℕ → List ℕ → Content → Element

  -- what an element holds: text up to its end; text, an element, and more; or text up to the answer
  -- that cuts it
  pub data Content : Type 0 where
    last : List ℕ → Content
    also : List ℕ → Element → Content → Content
    cut : List ℕ → Answer → Content

-- what is left of the innermost of the open elements
abbrev pub innermost : List Content → Content
innermost [] = cut [] finish
innermost (content ∷ contents) = content

-- what is left of those round it
abbrev pub outer_contents : List Content → List Content
outer_contents [] = []
outer_contents (content ∷ contents) = contents

-- the same with this text before it
abbrev pub with_text_before : List ℕ → Content → Content
with_text_before text (last rest) = last (text ++ rest)
with_text_before text (also rest e more) = also (text ++ rest) e more
with_text_before text (cut rest answer) = cut (text ++ rest) answer

-- a start tag begins an element, which holds what is left of the innermost, and is in the one round
-- it
abbrev pub with_start : ℕ → List ℕ → List ℕ → List Content → List Content
with_start place name raw contents =
    also [] (element place name raw (innermost contents)) (innermost (outer_contents contents))
    ∷ outer_contents (outer_contents contents)

-- text is in the innermost
abbrev pub with_text : List ℕ → List Content → List Content
with_text text contents = with_text_before text (innermost contents) ∷ outer_contents contents

-- what these answers leave of each open element, the innermost first; the whole text is the
-- outermost. Each run of text is unescaped by itself
unfoldable pub open_contents : List Answer → List Content
open_contents [] = []
open_contents (start place name raw ∷ more) = with_start place name raw (open_contents more)
open_contents (words place raw ∷ more) = with_text (unescaped raw) (open_contents more)
open_contents (stop place ∷ more) = last [] ∷ open_contents more
open_contents (finish ∷ more) = last [] ∷ []
open_contents (form place ∷ more) = cut [] (form place) ∷ []
open_contents (depth place ∷ more) = cut [] (depth place) ∷ []

-- what a text holds, by all answers of a reader on it
abbrev pub content_of : List Answer → Content
content_of answers = innermost (open_contents answers)

-- the text of an element's own, joined across the elements in it
abbrev pub own_text : Content → List ℕ
own_text (last text) = text
own_text (also text e more) = text ++ own_text more
own_text (cut text answer) = text

abbrev mutual
  -- the answer of the first cut in an element, its children read in their order
  pub first_cut_in : Element → Option Answer
  first_cut_in (element place name raw content) = first_cut content

  -- the same of what an element holds
  pub first_cut : Content → Option Answer
  first_cut (last text) = None
  first_cut (also text e more) = option_or (first_cut_in e) (first_cut more)
  first_cut (cut text answer) = Some answer
