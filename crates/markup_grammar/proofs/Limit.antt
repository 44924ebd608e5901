-- The answers on a whole text: what UTF-8 and the limit on open elements cut off.
use Rattle.std.proofs.Common.{◌≡◌, ℕ, ◌+◌, ◌-◌, ◌<◌, ◌≤◌, Bool, true, false, eqb, ltb, cond, List, [], ◌∷◌, ◌++◌, length, take, refl, ap, sym, ◌∙◌, subst, append_assoc, append-nil, length-append, arith, true≢false, ltb-true, eqb-true, eq-eqb, get_or}
use Rattle.std.proofs.Math.Seq.{take-append_seam, get_or-append_seam, take-length}
use Rattle.std.proofs.lemmas.Str.{IsUtf8-take, IsCharBoundary-after_ascii}
use Rattle.std.specs.Str.{IsUtf8}
use Rattle.markup_grammar.specs.Answers.{Answer, start, words, stop, finish, form, depth, finishes, limit_depth, cut_short}
use Rattle.markup_grammar.specs.Bytes.{is_space}
use Rattle.markup_grammar.specs.Machine.{fresh, answers_from}
use Rattle.markup_grammar.specs.Reading.{answers_within, answers}
use Rattle.markup_grammar.specs.Tree.{Aside, comment, instruction, Around, blank, aside, Element, element, empty, Content, text_only, element_after, aside_after, Tree, start_tag, end_tag, spelled, spelled_all, spelled_aside, spelled_around, spelled_front, spelled_tree, AreAround, IsText, height, height_all, words_at, pieces, pieces_all, tree_pieces}
use Rattle.markup_grammar.specs.Utf8.{none_left, utf8_front, utf8_front_from, BeginsUtf8}
use Rattle.markup_grammar.proofs.Classes.{space_cases}
use Rattle.markup_grammar.proofs.Sound.{Grown, grown}
use Rattle.markup_grammar.proofs.Utf8Fronts.{front_nil, front_append, utf8_fronts}
use Rattle.markup_grammar.proofs.Utf8Texts.{run-from_IsUtf8}
use Rattle.markup_grammar.proofs.Whole.{whole, limited-pieces}

-- the whole of a text in UTF-8 begins one
pub whole_front : (text : List ℕ) → IsUtf8 text → utf8_front text ≡ length text
whole_front text is =
    ap (λ xs. utf8_front_from none_left xs) (sym (append-nil text))
    ∙ (front_append text [] none_left none_left (run-from_IsUtf8 text is)
    ∙ (ap (λ n. length text + n) (front_nil none_left) ∙ omega arith))

-- nothing is cut off from a text whose front is the whole of it
pub within_whole : (text : List ℕ) (n : ℕ) → n ≡ length text → answers_within text n ≡ answers_from fresh 0 text
within_whole text n e = rw (eq-eqb n (length text) e) refl

-- the answers on a text in UTF-8
pub answers_utf8 : (text : List ℕ) → IsUtf8 text → answers text ≡ limit_depth 0 (answers_from fresh 0 text)
unfolding answers
answers_utf8 text is = ap (λ xs. limit_depth 0 xs) (within_whole text (utf8_front text) (whole_front text is))

-- a text of the grammar within the limit
pub whole_texts : (text : List ℕ) (tree : Tree) → IsText text tree → height tree.root ≤ 256 → answers text ≡ tree_pieces tree ++ finish ∷ []
whole_texts text tree is fit =
    answers_utf8 text is.utf8
    ∙ (ap (λ xs. limit_depth 0 xs) (whole text tree is)
    ∙ limited-pieces tree.root 0 (length (spelled_front tree)) (finish ∷ []) (omega arith))

-- what is cut short does not finish
pub cut_finishes : (n : ℕ) (list : List Answer) → finishes (cut_short n list) ≡ true → ⊥
cut_finishes n [] h = true≢false (sym h)
cut_finishes n (start p name raw ∷ list) h = cut_finishes n list h
cut_finishes n (words p raw ∷ list) h = cut_finishes n list h
cut_finishes n (stop p ∷ list) h = cut_finishes n list h
cut_finishes n (finish ∷ list) h = cut_finishes n list h
cut_finishes n (form p ∷ list) h = cut_finishes n list h
cut_finishes n (depth p ∷ list) h = cut_finishes n list h

-- a list that is cut does not end in `finish`
start_finishes : (room : Bool) (d p : ℕ) (name raw : List ℕ) (more : List Answer) → ltb d 256 ≡ room → finishes (limit_depth d (start p name raw ∷ more)) ≡ true → (d < 256) × (finishes (limit_depth (d + 1) more) ≡ true)
start_finishes true d p name raw more is h =
    (ltb-true d 256 is, let test : ltb d 256 ≡ true = is in rw test at h)
start_finishes false d p name raw more is h =
    let test : ltb d 256 ≡ false = is in
    let cut : finishes (depth p ∷ []) ≡ true = rw test at h in
    absurd (true≢false (sym cut))

-- what ends in `finish` behind the limit ends in it before
pub uncut : (d : ℕ) (list : List Answer) → finishes (limit_depth d list) ≡ true → finishes list ≡ true
uncut d [] h = h
uncut d (start p name raw ∷ more) h = uncut (d + 1) more (start_finishes (ltb d 256) d p name raw more refl h).1
uncut d (words p raw ∷ more) h = uncut d more h
uncut d (stop p ∷ more) h = uncut (d - 1) more h
uncut d (finish ∷ more) h = refl
uncut d (form p ∷ more) h = uncut d more h
uncut d (depth p ∷ more) h = uncut d more h

words_finish : (text : List ℕ) (d at : ℕ) (more : List Answer) → finishes (limit_depth d (words_at at text ++ more)) ≡ true → finishes (limit_depth d more) ≡ true
words_finish [] d at more h = h
words_finish (b ∷ bs) d at more h = h

finishes_along : (d : ℕ) (xs ys : List Answer) → xs ≡ ys → finishes (limit_depth d xs) ≡ true → finishes (limit_depth d ys) ≡ true
finishes_along d xs ys e h = sym (ap (λ zs. finishes (limit_depth d zs)) e) ∙ h

mutual
  -- where the pieces of an element are not cut, it keeps within the limit
  fits : (e : Element) (d p : ℕ) (more : List Answer) → d ≤ 256 → finishes (limit_depth d (pieces p e ++ more)) ≡ true → (d + height e ≤ 256) × (finishes (limit_depth d more) ≡ true)
  fits (element name raw inner space) d p more le h =
      let begun : (d < 256) × (finishes (limit_depth (d + 1) (pieces_all (p + length (start_tag name raw)) inner ++ stop (p + length (start_tag name raw) + length (spelled_all inner)) ∷ [] ++ more)) ≡ true) =
      start_finishes (ltb d 256) d p name raw _ refl h in
      let room : d + 1 ≤ 256 = omega arith in
      let all : (d + 1 + height_all inner ≤ 256) × (finishes (limit_depth (d + 1) (stop (p + length (start_tag name raw) + length (spelled_all inner)) ∷ more)) ≡ true) =
      fits_all inner (d + 1) (p + length (start_tag name raw)) (stop (p + length (start_tag name raw) + length (spelled_all inner)) ∷ more) room
      (finishes_along (d + 1) _ _ (append_assoc (pieces_all (p + length (start_tag name raw)) inner) (stop (p + length (start_tag name raw) + length (spelled_all inner)) ∷ []) more) begun.1) in
      let back : d + 1 - 1 ≡ d = omega arith in
      (omega arith, sym (ap (λ n. finishes (limit_depth n more)) back) ∙ all.1)
  fits (empty name raw) d p more le h =
      let begun : (d < 256) × (finishes (limit_depth (d + 1) (stop (p + length (60 ∷ (name ++ raw))) ∷ more)) ≡ true) =
      start_finishes (ltb d 256) d p name raw (stop (p + length (60 ∷ (name ++ raw))) ∷ more) refl h in
      let back : d + 1 - 1 ≡ d = omega arith in
      (omega arith, sym (ap (λ n. finishes (limit_depth n more)) back) ∙ begun.1)

  fits_all : (inner : Content) (d at : ℕ) (more : List Answer) → d ≤ 256 → finishes (limit_depth d (pieces_all at inner ++ more)) ≡ true → (d + height_all inner ≤ 256) × (finishes (limit_depth d more) ≡ true)
  fits_all (text_only text) d at more le h = (omega arith, words_finish text d at more h)
  fits_all (element_after text e inner) d at more le h =
      let first : (d + height e ≤ 256) × (finishes (limit_depth d (pieces_all (at + length text + length (spelled e)) inner ++ more)) ≡ true) =
      fits e d (at + length text) (pieces_all (at + length text + length (spelled e)) inner ++ more) le
      (finishes_along d _ _ (append_assoc (pieces (at + length text) e) _ more)
      (words_finish text d at _ (finishes_along d _ _ (append_assoc (words_at at text) _ more) h))) in
      let rest : (d + height_all inner ≤ 256) × (finishes (limit_depth d more) ≡ true) =
      fits_all inner d (at + length text + length (spelled e)) more le first.1 in
      (omega arith, rest.1)
  fits_all (aside_after text a inner) d at more le h =
      fits_all inner d (at + length text + length (spelled_aside a)) more le
      (words_finish text d at _ (finishes_along d _ _ (append_assoc (words_at at text) _ more) h))

-- the bytes end in one of ASCII
abbrev pub EndsAscii : List ℕ → Type 0
EndsAscii bytes = (front : List ℕ) × (b : ℕ) × (b < 128) × (bytes ≡ front ++ b ∷ [])

ascii_behind : (xs ys : List ℕ) → EndsAscii ys → EndsAscii (xs ++ ys)
ascii_behind xs ys (front, b, low, e) = (xs ++ front, b, low, ap (λ zs. xs ++ zs) e ∙ sym (append_assoc xs front (b ∷ [])))

space_low : (b : ℕ) → is_space b ≡ true → b < 128
space_low b h = space_cases (λ n. n < 128) (omega arith) (omega arith) (omega arith) (omega arith) b h

ascii_aside : (a : Aside) → EndsAscii (spelled_aside a)
ascii_aside (comment body) = ascii_behind (60 ∷ 33 ∷ 45 ∷ 45 ∷ body) (45 ∷ 45 ∷ 62 ∷ []) (45 ∷ 45 ∷ [], 62, omega arith, refl)
ascii_aside (instruction body) = ascii_behind (60 ∷ 63 ∷ body) (63 ∷ 62 ∷ []) (63 ∷ [], 62, omega arith, refl)

ascii_element : (e : Element) → EndsAscii (spelled e)
ascii_element (element name raw inner space) =
    ascii_behind (start_tag name raw) (spelled_all inner ++ end_tag name space)
    (ascii_behind (spelled_all inner) (end_tag name space)
    (ascii_behind (60 ∷ 47 ∷ name) (space ++ 62 ∷ []) (space, 62, omega arith, refl)))
ascii_element (empty name raw) = ascii_behind (60 ∷ name) (raw ++ 47 ∷ 62 ∷ []) (ascii_behind raw (47 ∷ 62 ∷ []) (47 ∷ [], 62, omega arith, refl))

ascii_around : (around : List Around) (bytes : List ℕ) → AreAround around → EndsAscii bytes → EndsAscii (bytes ++ spelled_around around)
ascii_around [] bytes are h = let P : List ℕ → Type 0 = λ xs. EndsAscii xs in subst P (sym (append-nil bytes)) h
ascii_around (blank b ∷ around) bytes are h =
    let P : List ℕ → Type 0 = λ xs. EndsAscii xs in
    subst P (append_assoc bytes (b ∷ []) (spelled_around around)) (ascii_around around (bytes ++ b ∷ []) are.1 (bytes, b, space_low b are.0, refl))
ascii_around (aside a ∷ around) bytes are h =
    let P : List ℕ → Type 0 = λ xs. EndsAscii xs in
    subst P (append_assoc bytes (spelled_aside a) (spelled_around around)) (ascii_around around (bytes ++ spelled_aside a) are.1 (ascii_behind bytes (spelled_aside a) (ascii_aside a)))

-- a tree's bytes end in one of ASCII
pub ascii_tree : (tree : Tree) → AreAround tree.back → EndsAscii (spelled_tree tree)
ascii_tree tree are = ascii_behind (spelled_front tree) _ (ascii_around tree.back (spelled tree.root) are (ascii_element tree.root))

-- bytes that begin a text in UTF-8 and end in one of ASCII are one
pub utf8_ends : (text more : List ℕ) → EndsAscii text → IsUtf8 (text ++ more) → IsUtf8 text
utf8_ends text more (front, b, low, e) is =
    let P : List ℕ → Type 0 = λ xs. IsUtf8 xs in
    let Q : ℕ → Type 0 = λ n. n < 128 in
    let all : IsUtf8 (front ++ (b ∷ more)) = subst P (ap (λ xs. xs ++ more) e ∙ append_assoc front (b ∷ []) more) is in
    let last : get_or (front ++ (b ∷ more)) (length front) 0 < 128 = subst Q (sym (get_or-append_seam front b more 0)) low in
    let cut : IsUtf8 (take (length front + 1) (front ++ (b ∷ more))) =
    IsUtf8-take (front ++ (b ∷ more)) (length front + 1) all
    (IsCharBoundary-after_ascii (front ++ (b ∷ more)) (length front) all (simp length-append (omega arith)) last) in
    subst P (ap (λ xs. take (length front + 1) xs) (sym (append_assoc front (b ∷ []) more))
    ∙ (ap (λ n. take n ((front ++ b ∷ []) ++ more)) (let same : length front + 1 ≡ length (front ++ b ∷ []) = simp length-append (omega arith) in same)
    ∙ (take-append_seam (front ++ b ∷ []) more ∙ sym e))) cut

-- what is answered with `finish` is UTF-8 as a whole, and its answers are not cut off
pub finishes_within : (text : List ℕ) → finishes (answers_within text (utf8_front text)) ≡ true → (utf8_front text ≡ length text) × (finishes (answers_from fresh 0 text) ≡ true)
finishes_within text h = by_test (eqb (utf8_front text) (length text)) refl h
  where
    by_test : (test : Bool) → eqb (utf8_front text) (length text) ≡ test → finishes (cond test (answers_from fresh 0 text) (cut_short (utf8_front text) (answers_from fresh 0 (take (utf8_front text) text)))) ≡ true → (utf8_front text ≡ length text) × (finishes (answers_from fresh 0 text) ≡ true)
    by_test true e h = (eqb-true (utf8_front text) (length text) e, h)
    by_test false e h = absurd (cut_finishes (utf8_front text) (answers_from fresh 0 (take (utf8_front text) text)) h)

-- a text whose answers end in `finish`, before the limit
pub finished : (text : List ℕ) → finishes (answers_within text (utf8_front text)) ≡ true → (tree : Tree) × IsText text tree
finished text h = from (finishes_within text h)
  where
    begins : utf8_front text ≡ length text → BeginsUtf8 text
    begins e =
        let P : List ℕ → Type 0 = λ xs. BeginsUtf8 xs in
        subst P (ap (λ n. take n text) e ∙ take-length text) (utf8_fronts text).begins

    whole_tree : BeginsUtf8 text → Grown text → (tree : Tree) × IsText text tree
    whole_tree (more, is) (tree, front, root, back, spells) =
        let P : List ℕ → Type 0 = λ xs. EndsAscii xs in
        (tree, record { front = front; root = root; back = back; spells = spells; utf8 = utf8_ends text more (subst P (sym spells) (ascii_tree tree back)) is })

    from : (utf8_front text ≡ length text) × (finishes (answers_from fresh 0 text) ≡ true) → (tree : Tree) × IsText text tree
    from (e, done) = whole_tree (begins e) (grown text done)

-- a text whose answers end in `finish` is in the grammar, within the limit
pub finished_texts : (text : List ℕ) → finishes (answers text) ≡ true → (tree : Tree) × IsText text tree × (height tree.root ≤ 256)
unfolding answers
finished_texts text h = in_limit (finished text (uncut 0 (answers_within text (utf8_front text)) h))
  where
    in_limit : (tree : Tree) × IsText text tree → (tree : Tree) × IsText text tree × (height tree.root ≤ 256)
    in_limit (tree, is) =
        let low : 0 ≤ 256 = omega arith in
        let both : (0 + height tree.root ≤ 256) × (finishes (limit_depth 0 (finish ∷ [])) ≡ true) =
        fits tree.root 0 (length (spelled_front tree)) (finish ∷ []) low
        (finishes_along 0 _ _ (within_whole text (utf8_front text) (whole_front text is.utf8) ∙ whole text tree is) h) in
        (tree, is, omega arith)
