-- A tree of the grammar gives its pieces.
use Rattle.std.proofs.Common.{◌≡◌, ℕ, ◌+◌, ◌-◌, ◌<◌, ◌≤◌, Bool, true, false, eqb, ltb, List, [], ◌∷◌, ◌++◌, length, refl, ap, sym, ◌∙◌, append_assoc, append-nil, length-append, arith, lt-ltb}
use Rattle.markup_grammar.specs.Answers.{Answer, start, stop, finish, limit_depth}
use Rattle.markup_grammar.specs.Bytes.{is_space, is_text, IsName}
use Rattle.markup_grammar.specs.Machine.{Level, before, within, behind, Names, fresh, mark_one, mark_two, between, opened, closing, level_of_names, answers_from}
use Rattle.markup_grammar.specs.Tags.{IsTagText}
use Rattle.markup_grammar.specs.Tree.{Aside, Around, blank, aside, Element, element, empty, Content, text_only, element_after, aside_after, Tree, start_tag, end_tag, spelled, spelled_all, spelled_aside, spelled_around, mark_of, spelled_front, spelled_tree, AreAround, IsElement, IsContent, IsText, height, height_all, words_at, pieces, pieces_all, tree_pieces}
use Rattle.markup_grammar.proofs.Asides.{past_open, aside_on, spelled_aside-open, around_on}
use Rattle.markup_grammar.proofs.Classes.{space_not_mark}
use Rattle.markup_grammar.proofs.Runs.{open_names, IsOpen, start_ends, empty_ends, name_on, end_on, text_open}
use Rattle.markup_grammar.proofs.Steps.{differ, at_end, step_on, at_place, on_bytes}

-- `/` behind a `<`
pub open_slash : (p : ℕ) (name : List ℕ) (names : Names) (rest : List ℕ) (at : ℕ) → answers_from (opened p (within name names)) at (47 ∷ rest) ≡ answers_from (closing p name names) (at + 1) rest
open_slash p name names rest at = step_on (opened p (within name names)) (closing p name names) at 47 rest [] refl

-- the rest of a start tag
pub start_on : (p : ℕ) (level : Level) (name raw rest : List ℕ) (at : ℕ) → IsOpen level → IsName name → IsTagText raw → answers_from (opened p level) at (name ++ (raw ++ (62 ∷ rest))) ≡ start p name raw ∷ answers_from (between (within name (open_names level))) (at + (length name + (length raw + 1))) rest
start_on p level name raw rest at is is_name is_text =
    name_on p level name (raw ++ (62 ∷ rest)) at is is_name
    ∙ (start_ends raw p name (open_names level) rest (at + length name) is_text
    ∙ ap (λ xs. start p name raw ∷ xs) (at_place (between (within name (open_names level))) (at + length name + (length raw + 1)) (at + (length name + (length raw + 1))) rest (omega arith)))

-- the bytes of an element behind its `<`
abbrev pub past_open_tag : Element → List ℕ
past_open_tag (element name raw inner space) = name ++ (raw ++ (62 ∷ (spelled_all inner ++ end_tag name space)))
past_open_tag (empty name raw) = name ++ (raw ++ 47 ∷ 62 ∷ [])

pub spelled-open : (e : Element) (rest : List ℕ) → spelled e ++ rest ≡ 60 ∷ (past_open_tag e ++ rest)
spelled-open (element name raw inner space) rest = simp append_assoc refl
spelled-open (empty name raw) rest = refl

mutual
  -- an element behind its `<`
  pub element_on : (e : Element) (level : Level) (rest : List ℕ) (p : ℕ) → IsOpen level → IsElement e → answers_from (opened p level) (p + 1) (past_open_tag e ++ rest) ≡ pieces p e ++ answers_from (between (level_of_names (open_names level))) (p + length (spelled e)) rest
  element_on (element name raw inner space) level rest p opens is =
      on_bytes (opened p level) (p + 1) (past_open_tag (element name raw inner space) ++ rest)
      (name ++ (raw ++ (62 ∷ (spelled_all inner ++ (60 ∷ 47 ∷ (name ++ (space ++ (62 ∷ rest)))))))) (simp append_assoc refl)
      ∙ (start_on p level name raw (spelled_all inner ++ (60 ∷ 47 ∷ (name ++ (space ++ (62 ∷ rest))))) (p + 1) opens is.0 is.1
      ∙ ap (λ xs. start p name raw ∷ xs)
      (at_place (between (within name (open_names level))) (p + 1 + (length name + (length raw + 1))) (p + length (start_tag name raw)) _ (simp length-append (omega arith))
      ∙ (content_on inner name (open_names level) (name ++ (space ++ (62 ∷ rest))) (p + length (start_tag name raw)) is.2
      ∙ (ap (λ xs. pieces_all (p + length (start_tag name raw)) inner ++ xs)
      (end_on (p + length (start_tag name raw) + length (spelled_all inner)) name (open_names level) space rest _ is.3
      ∙ ap (λ xs. stop (p + length (start_tag name raw) + length (spelled_all inner)) ∷ xs)
      (at_place (between (level_of_names (open_names level))) _ (p + length (spelled (element name raw inner space))) rest
      (simp length-append (omega arith))))
      ∙ sym (append_assoc (pieces_all (p + length (start_tag name raw)) inner) (stop (p + length (start_tag name raw) + length (spelled_all inner)) ∷ []) _)))))
  element_on (empty name raw) level rest p opens is =
      on_bytes (opened p level) (p + 1) (past_open_tag (empty name raw) ++ rest) (name ++ (raw ++ (47 ∷ 62 ∷ rest))) (simp append_assoc refl)
      ∙ (name_on p level name (raw ++ (47 ∷ 62 ∷ rest)) (p + 1) opens is.0
      ∙ (empty_ends raw p name (open_names level) rest (p + 1 + length name) is.1
      ∙ (ap (λ n. start p name raw ∷ stop n ∷ answers_from (between (level_of_names (open_names level))) (p + 1 + length name + (length raw + 2)) rest)
      (let e : p + 1 + length name + length raw ≡ p + length (60 ∷ (name ++ raw)) = simp length-append (omega arith) in e)
      ∙ ap (λ xs. start p name raw ∷ stop (p + length (60 ∷ (name ++ raw))) ∷ xs)
      (at_place (between (level_of_names (open_names level))) _ (p + length (spelled (empty name raw))) rest (simp length-append (omega arith))))))

  -- what stands between two tags, and the `</` that ends it
  pub content_on : (inner : Content) (name : List ℕ) (names : Names) (rest : List ℕ) (at : ℕ) → IsContent inner → answers_from (between (within name names)) at (spelled_all inner ++ (60 ∷ 47 ∷ rest)) ≡ pieces_all at inner ++ answers_from (closing (at + length (spelled_all inner)) name names) (at + length (spelled_all inner) + 2) rest
  content_on (text_only text) name names rest at is =
      text_open text name names (47 ∷ rest) at is
      ∙ ap (λ xs. words_at at text ++ xs)
      (open_slash (at + length text) name names rest (at + length text + 1)
      ∙ at_place (closing (at + length text) name names) (at + length text + 1 + 1) (at + length text + 2) rest (omega arith))
  content_on (element_after text e more) name names rest at is =
      on_bytes (between (within name names)) at (spelled_all (element_after text e more) ++ (60 ∷ 47 ∷ rest))
      (text ++ (60 ∷ (past_open_tag e ++ (spelled_all more ++ (60 ∷ 47 ∷ rest))))) (rw (← spelled-open e (spelled_all more ++ (60 ∷ 47 ∷ rest))) (simp append_assoc refl))
      ∙ (text_open text name names (past_open_tag e ++ (spelled_all more ++ (60 ∷ 47 ∷ rest))) at is.0
      ∙ (ap (λ xs. words_at at text ++ xs)
      (element_on e (within name names) (spelled_all more ++ (60 ∷ 47 ∷ rest)) (at + length text) tt is.1
      ∙ (ap (λ xs. pieces (at + length text) e ++ xs)
      (content_on more name names rest (at + length text + length (spelled e)) is.2
      ∙ ap (λ n. pieces_all (at + length text + length (spelled e)) more ++ answers_from (closing n name names) (n + 2) rest)
      (let same : at + length text + length (spelled e) + length (spelled_all more) ≡ at + length (spelled_all (element_after text e more)) = simp length-append (omega arith) in same))
      ∙ sym (append_assoc (pieces (at + length text) e) (pieces_all (at + length text + length (spelled e)) more) _)))
      ∙ sym (append_assoc (words_at at text) _ _)))
  content_on (aside_after text a more) name names rest at is =
      on_bytes (between (within name names)) at (spelled_all (aside_after text a more) ++ (60 ∷ 47 ∷ rest))
      (text ++ (60 ∷ (past_open a ++ (spelled_all more ++ (60 ∷ 47 ∷ rest))))) (rw (spelled_aside-open a) (simp append_assoc refl))
      ∙ (text_open text name names (past_open a ++ (spelled_all more ++ (60 ∷ 47 ∷ rest))) at is.0
      ∙ (ap (λ xs. words_at at text ++ xs)
      (aside_on a (within name names) (spelled_all more ++ (60 ∷ 47 ∷ rest)) (at + length text) (at + length text + 1) is.1
      ∙ (at_place (between (within name names)) (at + length text + 1 + length (past_open a)) (at + length text + length (spelled_aside a)) _ (rw (spelled_aside-open a) (omega arith))
      ∙ (content_on more name names rest (at + length text + length (spelled_aside a)) is.2
      ∙ ap (λ n. pieces_all (at + length text + length (spelled_aside a)) more ++ answers_from (closing n name names) (n + 2) rest)
      (let same : at + length text + length (spelled_aside a) + length (spelled_all more) ≡ at + length (spelled_all (aside_after text a more)) = simp length-append (omega arith) in same))))
      ∙ sym (append_assoc (words_at at text) (pieces_all (at + length text + length (spelled_aside a)) more) _)))

-- a text that does not begin with the byte order mark
as_before : (at b : ℕ) (rest : List ℕ) → eqb b 0xEF ≡ false → answers_from fresh at (b ∷ rest) ≡ answers_from (between before) at (b ∷ rest)
unfolding answers_from
as_before at b rest other = rw other refl

unmarked : (around : List Around) (rest : List ℕ) → AreAround around → answers_from fresh 0 (spelled_around around ++ (60 ∷ rest)) ≡ answers_from (between before) 0 (spelled_around around ++ (60 ∷ rest))
unmarked [] rest are = as_before 0 60 rest refl
unmarked (blank b ∷ around) rest are = as_before 0 b (spelled_around around ++ (60 ∷ rest)) (differ is_space b 0xEF are.0 space_not_mark)
unmarked (aside a ∷ around) rest are =
    on_bytes fresh 0 _ _ (opens a)
    ∙ (as_before 0 60 ((past_open a ++ spelled_around around) ++ (60 ∷ rest)) refl
    ∙ sym (on_bytes (between before) 0 _ _ (opens a)))
  where
    opens : (a : Aside) → (spelled_aside a ++ spelled_around around) ++ (60 ∷ rest) ≡ 60 ∷ ((past_open a ++ spelled_around around) ++ (60 ∷ rest))
    opens a = ap (λ xs. (xs ++ spelled_around around) ++ (60 ∷ rest)) (spelled_aside-open a)

-- the bytes before the outermost element, and its `<`
front_on : (marked : Bool) (around : List Around) (rest : List ℕ) → AreAround around → answers_from fresh 0 ((mark_of marked ++ spelled_around around) ++ (60 ∷ rest)) ≡ answers_from (opened (length (mark_of marked ++ spelled_around around)) before) (length (mark_of marked ++ spelled_around around) + 1) rest
front_on true around rest are =
    step_on fresh mark_one 0 0xEF _ [] refl
    ∙ (step_on mark_one mark_two (0 + 1) 0xBB _ [] refl
    ∙ (step_on mark_two (between before) (0 + 1 + 1) 0xBF _ [] refl
    ∙ (around_on around before (60 ∷ rest) (0 + 1 + 1 + 1) tt are
    ∙ (step_on (between before) (opened (0 + 1 + 1 + 1 + length (spelled_around around)) before) (0 + 1 + 1 + 1 + length (spelled_around around)) 60 rest [] refl
    ∙ ap (λ n. answers_from (opened n before) (n + 1) rest) (let e : 0 + 1 + 1 + 1 + length (spelled_around around) ≡ length (mark_of true ++ spelled_around around) = omega arith in e)))))
front_on false around rest are =
    unmarked around rest are
    ∙ (around_on around before (60 ∷ rest) 0 tt are
    ∙ (step_on (between before) (opened (0 + length (spelled_around around)) before) (0 + length (spelled_around around)) 60 rest [] refl
    ∙ ap (λ n. answers_from (opened n before) (n + 1) rest) (let e : 0 + length (spelled_around around) ≡ length (mark_of false ++ spelled_around around) = omega arith in e)))

-- a text of the grammar, were all its bytes UTF-8
pub whole_bytes : (tree : Tree) → AreAround tree.front → IsElement tree.root → AreAround tree.back → answers_from fresh 0 (spelled_tree tree) ≡ tree_pieces tree ++ finish ∷ []
whole_bytes tree front root back =
    on_bytes fresh 0 (spelled_tree tree) (spelled_front tree ++ (60 ∷ (past_open_tag tree.root ++ spelled_around tree.back))) (ap (λ xs. spelled_front tree ++ xs) (spelled-open tree.root (spelled_around tree.back)))
    ∙ (front_on tree.marked tree.front (past_open_tag tree.root ++ spelled_around tree.back) front
    ∙ (element_on tree.root before (spelled_around tree.back) (length (spelled_front tree)) tt root
    ∙ ap (λ xs. tree_pieces tree ++ xs) (behind_on tree.back _ back)))
  where
    behind_on : (around : List Around) (at : ℕ) → AreAround around → answers_from (between behind) at (spelled_around around) ≡ finish ∷ []
    behind_on around at are =
        on_bytes (between behind) at (spelled_around around) (spelled_around around ++ []) (sym (append-nil (spelled_around around)))
        ∙ (around_on around behind [] at tt are ∙ at_end (between behind) (at + length (spelled_around around)))

-- a text of the grammar
pub whole : (text : List ℕ) (tree : Tree) → IsText text tree → answers_from fresh 0 text ≡ tree_pieces tree ++ finish ∷ []
whole text tree is = on_bytes fresh 0 text (spelled_tree tree) is.spells ∙ whole_bytes tree is.front is.root is.back

-- a run of text opens nothing
limited-words_at : (text : List ℕ) (d at : ℕ) (more : List Answer) → limit_depth d (words_at at text ++ more) ≡ words_at at text ++ limit_depth d more
limited-words_at [] d at more = refl
limited-words_at (b ∷ bs) d at more = refl

mutual
  -- an element within the limit is not cut
  pub limited-pieces : (e : Element) (d p : ℕ) (more : List Answer) → d + height e ≤ 256 → limit_depth d (pieces p e ++ more) ≡ pieces p e ++ limit_depth d more
  limited-pieces (element name raw inner space) d p more fit =
      let room : d < 256 = omega arith in
      let within_limit : ltb d 256 ≡ true = lt-ltb d 256 room in
      rw within_limit
      (ap (λ xs. start p name raw ∷ xs)
      (ap (λ xs. limit_depth (d + 1) xs) (append_assoc (pieces_all (p + length (start_tag name raw)) inner) (stop (p + length (start_tag name raw) + length (spelled_all inner)) ∷ []) more)
      ∙ (limited-pieces_all inner (d + 1) (p + length (start_tag name raw)) (stop (p + length (start_tag name raw) + length (spelled_all inner)) ∷ more) (omega arith)
      ∙ (ap (λ n. pieces_all (p + length (start_tag name raw)) inner ++ (stop (p + length (start_tag name raw) + length (spelled_all inner)) ∷ limit_depth n more)) (let back : d + 1 - 1 ≡ d = omega arith in back)
      ∙ sym (append_assoc (pieces_all (p + length (start_tag name raw)) inner) (stop (p + length (start_tag name raw) + length (spelled_all inner)) ∷ []) (limit_depth d more))))))
  limited-pieces (empty name raw) d p more fit =
      let room : d < 256 = omega arith in
      let within_limit : ltb d 256 ≡ true = lt-ltb d 256 room in
      rw within_limit
      (ap (λ n. start p name raw ∷ stop (p + length (60 ∷ (name ++ raw))) ∷ limit_depth n more) (let back : d + 1 - 1 ≡ d = omega arith in back))

  pub limited-pieces_all : (inner : Content) (d at : ℕ) (more : List Answer) → d + height_all inner ≤ 256 → limit_depth d (pieces_all at inner ++ more) ≡ pieces_all at inner ++ limit_depth d more
  limited-pieces_all (text_only text) d at more fit = limited-words_at text d at more
  limited-pieces_all (element_after text e inner) d at more fit =
      ap (λ xs. limit_depth d xs) (append_assoc (words_at at text) _ more)
      ∙ (limited-words_at text d at _
      ∙ (ap (λ xs. words_at at text ++ xs)
      (ap (λ xs. limit_depth d xs) (append_assoc (pieces (at + length text) e) _ more)
      ∙ (limited-pieces e d (at + length text) _ (omega arith)
      ∙ (ap (λ xs. pieces (at + length text) e ++ xs) (limited-pieces_all inner d (at + length text + length (spelled e)) more (omega arith))
      ∙ sym (append_assoc (pieces (at + length text) e) _ _))))
      ∙ sym (append_assoc (words_at at text) _ _)))
  limited-pieces_all (aside_after text a inner) d at more fit =
      ap (λ xs. limit_depth d xs) (append_assoc (words_at at text) _ more)
      ∙ (limited-words_at text d at _
      ∙ (ap (λ xs. words_at at text ++ xs) (limited-pieces_all inner d (at + length text + length (spelled_aside a)) more fit)
      ∙ sym (append_assoc (words_at at text) _ _)))
