-- What is put for an element, part by part: how the equations of the calls join.
use Rattle.std.proofs.Common.{◌≡◌, ℕ, suc, ◌+◌, ◌<◌, ◌≤◌, List, [], ◌∷◌, ◌++◌, length, drop, map, get_or, refl, ap, sym, ◌∙◌, add-one}
use Rattle.std.proofs.Math.Seq.{drop-cons}
use Rattle.std.proofs.lemmas.List.{drop_all}
use Rattle.std.specs.Prelude.{codes, flat_map}
use Rattle.doc_sinks.specs.Chunks.{Chunk, plain, hidden, attribute_chunks, start_chunks, end_chunks, chunks, chunks_all}
use Rattle.doc_sinks.specs.States.{after_chunks, after_start_tag, after_end_tag, after_piece, after_pieces}
use Rattle.doc_spelling.specs.Pieces.{Piece, Pieces, leaf, secret, box, none, beside, ◌▹◌, ◌▹▹◌, pieces_of, protected_attribute}
use Rattle.markup_grammar.specs.Escapes.{escaped}

abbrev pub Attributes : Type 0
Attributes = List (List ℕ × List ℕ)

pub after_append : {S : Type 0} (step : S → Chunk → S) (s : S) (xs ys : List Chunk) → after_chunks step s (xs ++ ys) ≡ after_chunks step (after_chunks step s xs) ys
after_append step s [] ys = refl
after_append step s (x ∷ xs) ys = after_append step (step s x) xs ys

put_box : {S : Type 0} (step : S → Chunk → S) (s : S) (name : List ℕ) (ps : Pieces)
    → after_piece step s (box name ps) ≡ after_end_tag step (after_pieces step (after_start_tag step s name []) ps) name
unfolding after_piece after_pieces after_start_tag after_end_tag
put_box step s name ps =
    after_append step s (start_chunks name []) (chunks_all ps ++ end_chunks name)
    ∙ after_append step (after_chunks step s (start_chunks name [])) (chunks_all ps) (end_chunks name)

pub put_none : {S : Type 0} (step : S → Chunk → S) (s : S) → after_pieces step s none ≡ s
unfolding after_pieces
put_none step s = refl

pub put_beside : {S : Type 0} (step : S → Chunk → S) (s : S) (p : Piece) (ps : Pieces)
    → after_pieces step s (beside p ps) ≡ after_pieces step (after_piece step s p) ps
unfolding after_piece after_pieces
put_beside step s p ps = after_append step s (chunks p) (chunks_all ps)

put_joined : {S : Type 0} (step : S → Chunk → S) (s : S) (ps more : Pieces) → after_pieces step s (ps ▹▹ more) ≡ after_pieces step (after_pieces step s ps) more
put_joined step s none more = ap (λ x. after_pieces step x more) (sym (put_none step s))
put_joined step s (beside p ps) more =
    put_beside step s p (ps ▹▹ more) ∙ put_joined step (after_piece step s p) ps more ∙ ap (λ x. after_pieces step x more) (sym (put_beside step s p ps))

-- ---- a start tag, and an element with one chunk between its tags

pub begun_by : {S : Type 0} {t : S} (step : S → Chunk → S) (s : S) (name : List ℕ) (attributes : Attributes)
    → t ≡ step (after_chunks step (step (step s (plain (codes "<"))) (plain name)) (flat_map attribute_chunks attributes)) (plain (codes ">"))
    → t ≡ after_start_tag step s name attributes
unfolding after_start_tag
begun_by step s name attributes e =
    e ∙ sym (after_append step (step (step s (plain (codes "<"))) (plain name)) (flat_map attribute_chunks attributes) (plain (codes ">") ∷ []))

held : {S : Type 0} (step : S → Chunk → S) (s : S) (name : List ℕ) (attributes : Attributes) (c : Chunk)
    → after_end_tag step (step (after_start_tag step s name attributes) c) name ≡ after_chunks step s (start_chunks name attributes ++ (c ∷ end_chunks name))
unfolding after_start_tag after_end_tag
held step s name attributes c = sym (after_append step s (start_chunks name attributes) (c ∷ end_chunks name))

pub leaf_put : {S : Type 0} {a b t : S} (step : S → Chunk → S) (s : S) (name : List ℕ) (attributes : Attributes) (text : List ℕ)
    → a ≡ after_start_tag step s name attributes → b ≡ step a (plain (escaped text)) → t ≡ after_end_tag step b name
    → t ≡ after_piece step s (leaf name attributes text)
unfolding after_piece
leaf_put step s name attributes text start one end =
    end ∙ ap (λ x. after_end_tag step x name) (one ∙ ap (λ x. step x (plain (escaped text))) start) ∙ held step s name attributes (plain (escaped text))

pub secret_put : {S : Type 0} {a b t : S} (step : S → Chunk → S) (s : S) (name : List ℕ) (attributes : Attributes) (bytes : List ℕ)
    → a ≡ after_start_tag step s name (attributes ++ protected_attribute ∷ []) → b ≡ step a (hidden bytes) → t ≡ after_end_tag step b name
    → t ≡ after_piece step s (secret name attributes bytes)
unfolding after_piece
secret_put step s name attributes bytes start one end =
    end ∙ ap (λ x. after_end_tag step x name) (one ∙ ap (λ x. step x (hidden bytes)) start) ∙ held step s name (attributes ++ protected_attribute ∷ []) (hidden bytes)

-- ---- an element's calls one after another: its start tag, its elements, its end tag

pub boxed : {S : Type 0} {a b t : S} (step : S → Chunk → S) (s : S) (name : List ℕ) (ps : Pieces)
    → a ≡ after_start_tag step s name [] → b ≡ after_pieces step a ps → t ≡ after_end_tag step b name → t ≡ after_piece step s (box name ps)
boxed step s name ps start within end =
    end ∙ ap (λ x. after_end_tag step x name) (within ∙ ap (λ x. after_pieces step x ps) start) ∙ sym (put_box step s name ps)

pub first : {S : Type 0} {a t : S} (step : S → Chunk → S) (s : S) (p : Piece) (ps : Pieces)
    → a ≡ after_piece step s p → t ≡ after_pieces step a ps → t ≡ after_pieces step s (beside p ps)
first step s p ps one more =
    more ∙ ap (λ x. after_pieces step x ps) one ∙ sym (put_beside step s p ps)

pub before : {S : Type 0} {a t : S} (step : S → Chunk → S) (s : S) (ps more : Pieces)
    → a ≡ after_pieces step s ps → t ≡ after_pieces step a more → t ≡ after_pieces step s (ps ▹▹ more)
before step s ps more one rest = rest ∙ ap (λ x. after_pieces step x more) one ∙ sym (put_joined step s ps more)

pub done : {S : Type 0} {s : S} (step : S → Chunk → S) → s ≡ after_pieces step s none
done {s = s} step = sym (put_none step s)

-- the last element
pub one : {S : Type 0} {t : S} (step : S → Chunk → S) (s : S) (p : Piece) → t ≡ after_piece step s p → t ≡ after_pieces step s (beside p none)
one {t = t} step s p e = first step s p none e (done step)

-- ---- a loop over a list

-- one more item of a list is put, and the rest is as before
pub put_more : {S A B : Type 0} {t last : S} (step : S → Chunk → S) (s : S) (f : B → Piece) (g : A → B) (xs : List A) (i : ℕ) (x : A)
    → i < length xs → x ≡ get_or xs i x → t ≡ after_piece step s (f (g x))
    → after_pieces step s (pieces_of f (map g (drop i xs))) ≡ last
    → after_pieces step t (pieces_of f (map g (drop (i + 1) xs))) ≡ last
put_more {t = t} step s f g xs i x below here now before =
    let front : drop i xs ≡ x ∷ drop (suc i) xs = drop-cons xs i x below ∙ ap (λ y. y ∷ drop (suc i) xs) (sym here) in
    ap (λ u. after_pieces step u (pieces_of f (map g (drop (i + 1) xs)))) now
    ∙ ap (λ (n : ℕ). after_pieces step (after_piece step s (f (g x))) (pieces_of f (map g (drop n xs)))) (add-one i)
    ∙ sym (put_beside step s (f (g x)) (pieces_of f (map g (drop (suc i) xs))))
    ∙ sym (ap (λ ys. after_pieces step s (pieces_of f (map g ys))) front)
    ∙ before

-- no item is left
pub put_end : {S A B : Type 0} {s last : S} (step : S → Chunk → S) (f : B → Piece) (g : A → B) (xs : List A) (i : ℕ)
    → length xs ≤ i → after_pieces step s (pieces_of f (map g (drop i xs))) ≡ last → s ≡ last
put_end {s = s} step f g xs i past before =
    sym (put_none step s) ∙ sym (ap (λ ys. after_pieces step s (pieces_of f (map g ys))) (drop_all i xs past)) ∙ before

-- the same of items that are seen as they are
pub put_next : {S A : Type 0} {t last : S} (step : S → Chunk → S) (s : S) (f : A → Piece) (xs : List A) (i : ℕ) (x : A)
    → i < length xs → x ≡ get_or xs i x → t ≡ after_piece step s (f x)
    → after_pieces step s (pieces_of f (drop i xs)) ≡ last
    → after_pieces step t (pieces_of f (drop (i + 1) xs)) ≡ last
put_next {t = t} step s f xs i x below here now before =
    let front : drop i xs ≡ x ∷ drop (suc i) xs = drop-cons xs i x below ∙ ap (λ y. y ∷ drop (suc i) xs) (sym here) in
    ap (λ u. after_pieces step u (pieces_of f (drop (i + 1) xs))) now
    ∙ ap (λ (n : ℕ). after_pieces step (after_piece step s (f x)) (pieces_of f (drop n xs))) (add-one i)
    ∙ sym (put_beside step s (f x) (pieces_of f (drop (suc i) xs)))
    ∙ sym (ap (λ ys. after_pieces step s (pieces_of f ys)) front)
    ∙ before

pub put_last : {S A : Type 0} {s last : S} (step : S → Chunk → S) (f : A → Piece) (xs : List A) (i : ℕ)
    → length xs ≤ i → after_pieces step s (pieces_of f (drop i xs)) ≡ last → s ≡ last
put_last {s = s} step f xs i past before =
    sym (put_none step s) ∙ sym (ap (λ ys. after_pieces step s (pieces_of f ys)) (drop_all i xs past)) ∙ before
