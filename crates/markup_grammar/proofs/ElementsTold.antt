-- The elements that the answers on a text spell are those of its tree.
use Rattle.std.proofs.Common.{◌≡◌, ℕ, ◌+◌, ◌≤◌, List, [], ◌∷◌, ◌++◌, length, refl, ap, sym, ◌∙◌, append_assoc, append-nil}
use Rattle.markup_grammar.specs.Answers.{Answer, start, words, stop, finish}
use Rattle.markup_grammar.specs.Elements as told
use Rattle.markup_grammar.specs.Elements.{with_text_before, with_start, with_text, innermost, outer_contents, open_contents, content_of}
use Rattle.markup_grammar.specs.Escapes.{unescaped, unescaped_from}
use Rattle.markup_grammar.specs.Reading.{answers}
use Rattle.markup_grammar.specs.Tree.{Element, element, empty, Content, text_only, element_after, aside_after, start_tag, spelled, spelled_all, spelled_aside, Tree, spelled_front, IsText, height, words_at, pieces, pieces_all}
use Rattle.markup_grammar.specs.TreeElements.{element_at, content_at, tree_content}
use Rattle.markup_grammar.proofs.Limit.{whole_texts}

left_start : (place : ℕ) (name raw : List ℕ) (more : List Answer) → open_contents (start place name raw ∷ more) ≡ with_start place name raw (open_contents more)
unfolding open_contents
left_start place name raw more = refl

left_words : (place : ℕ) (raw : List ℕ) (more : List Answer) → open_contents (words place raw ∷ more) ≡ with_text (unescaped raw) (open_contents more)
unfolding open_contents
left_words place raw more = refl

left_stop : (place : ℕ) (more : List Answer) → open_contents (stop place ∷ more) ≡ told.last [] ∷ open_contents more
unfolding open_contents
left_stop place more = refl

left_finish : open_contents (finish ∷ []) ≡ told.last [] ∷ []
unfolding open_contents
left_finish = refl

unescaped_nil : unescaped [] ≡ []
unfolding unescaped_from
unescaped_nil = refl

prepended_nil : (content : told.Content) → with_text_before [] content ≡ content
prepended_nil (told.last text) = refl
prepended_nil (told.also text e more) = refl
prepended_nil (told.cut text answer) = refl

-- a run of text before what is left of the innermost element
left_text : (text : List ℕ) (place : ℕ) (more : List Answer) (content : told.Content) (contents : List told.Content) → open_contents more ≡ content ∷ contents → open_contents (words_at place text ++ more) ≡ with_text_before (unescaped text) content ∷ contents
left_text [] place more content contents e =
    e ∙ ap (λ c. c ∷ contents) (sym (ap (λ xs. with_text_before xs content) unescaped_nil ∙ prepended_nil content))
left_text (b ∷ text) place more content contents e =
    left_words place (b ∷ text) more ∙ ap (λ xs. with_text (unescaped (b ∷ text)) xs) e

mutual
  -- an element before what is left of the one round it
  left_element : (e : Element) (place : ℕ) (more : List Answer) (content : told.Content) (contents : List told.Content) → open_contents more ≡ content ∷ contents → open_contents (pieces place e ++ more) ≡ told.also [] (element_at place e) content ∷ contents
  left_element (element name raw inside space) place more content contents e =
      left_start place name raw _
      ∙ (ap (λ xs. with_start place name raw (open_contents xs)) (append_assoc (pieces_all (place + length (start_tag name raw)) inside) (stop (place + length (start_tag name raw) + length (spelled_all inside)) ∷ []) more)
      ∙ ap (λ xs. with_start place name raw xs)
      (left_content inside (place + length (start_tag name raw)) (stop (place + length (start_tag name raw) + length (spelled_all inside)) ∷ more) (content ∷ contents)
      (left_stop (place + length (start_tag name raw) + length (spelled_all inside)) more ∙ ap (λ xs. told.last [] ∷ xs) e)))
  left_element (empty name raw) place more content contents e =
      left_start place name raw _
      ∙ ap (λ xs. with_start place name raw xs) (left_stop (place + length (60 ∷ (name ++ raw))) more ∙ ap (λ xs. told.last [] ∷ xs) e)

  -- what stands between two tags, before the end of its element
  left_content : (inside : Content) (place : ℕ) (more : List Answer) (contents : List told.Content) → open_contents more ≡ told.last [] ∷ contents → open_contents (pieces_all place inside ++ more) ≡ content_at place inside ∷ contents
  left_content (text_only text) place more contents e =
      left_text text place more (told.last []) contents e ∙ ap (λ xs. told.last xs ∷ contents) (append-nil (unescaped text))
  left_content (element_after text e rest) place more contents ends =
      ap open_contents (append_assoc (words_at place text) _ more)
      ∙ (left_text text place _ (told.also [] (element_at (place + length text) e) (content_at (place + length text + length (spelled e)) rest)) contents
      (ap open_contents (append_assoc (pieces (place + length text) e) _ more)
      ∙ left_element e (place + length text) _ (content_at (place + length text + length (spelled e)) rest) contents (left_content rest (place + length text + length (spelled e)) more contents ends))
      ∙ ap (λ xs. told.also xs (element_at (place + length text) e) (content_at (place + length text + length (spelled e)) rest) ∷ contents) (append-nil (unescaped text)))
  left_content (aside_after text a rest) place more contents ends =
      ap open_contents (append_assoc (words_at place text) _ more)
      ∙ left_text text place _ (content_at (place + length text + length (spelled_aside a)) rest) contents (left_content rest (place + length text + length (spelled_aside a)) more contents ends)

-- the elements of a whole text
pub elements_told : (text : List ℕ) (tree : Tree) → IsText text tree → height tree.root ≤ 256 → content_of (answers text) ≡ tree_content tree
elements_told text tree is fit =
    ap content_of (whole_texts text tree is fit)
    ∙ ap innermost (left_element tree.root (length (spelled_front tree)) (finish ∷ []) (told.last []) [] left_finish)
