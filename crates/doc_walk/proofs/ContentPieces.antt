-- What an element holds, piece by piece.
use Rattle.std.proofs.Common.{◌≡◌, ℕ, false, List, [], ◌∷◌, ◌++◌, refl, ap, sym, ◌∙◌, append_assoc, append-nil, Ok, Err}
use Rattle.markup_grammar.specs.Answers.{Answer, start, words, stop, form, depth}
use Rattle.markup_grammar.specs.Elements.{Content, element, last, also, cut, innermost, outer_contents, open_contents, own_text, with_text_before}
use Rattle.markup_grammar.specs.Escapes.{unescaped}
use Rattle.doc_forms.specs.declared.cursor.Cursor.{Cursor}
use Rattle.doc_forms.specs.declared.fails.DocFail.{DocFail}
use Rattle.doc_forms.specs.declared.fails.DocFail.TheVariants.{Form, Depth}
use Rattle.doc_forms.specs.ElementTexts.{Setting, is_protected, text_at_end}
use Rattle.doc_forms.specs.Children.{Child, all_children, children_and_end}
use Rattle.outside_core.specs.Results.{◌>>=◌}
use Rattle.doc_forms.specs.Refusals.{Fails}
use Rattle.doc_walk.proofs.Pieces.{carried}

regroup : (a b c d : List ℕ) → a ++ ((b ++ c) ++ d) ≡ (a ++ b) ++ (c ++ d)
regroup a b c d = simp append_assoc

-- a run of text before the rest
pub with_words : {P : Type 0} (s : Setting) (child : Child P) (place : ℕ) (raw text u : List ℕ) (content : Content) (parts : P) (cursor : Cursor)
    → children_and_end s child place raw text (with_text_before u content) parts cursor ≡ children_and_end s child place raw (text ++ u) content parts cursor
with_words s child place raw text u (last rest) parts cursor =
    ap (λ t. text_at_end s place raw t cursor >>= λ y. Ok (parts, y.1)) (sym (append_assoc text u rest))
with_words s child place raw text u (also rest e more) parts cursor =
    ap (λ t. (child parts e cursor >>= λ x. all_children child more x.0 x.1) >>= λ x. text_at_end s place raw t x.1 >>= λ y. Ok (x.0, y.1)) (regroup text u rest (own_text more))
with_words s child place raw text u (cut rest answer) parts cursor =
    ap (λ t. all_children child (cut rest answer) parts cursor >>= λ x. text_at_end s place raw t x.1 >>= λ y. Ok (x.0, y.1)) (sym (append_assoc text u rest))

-- the text of an element that does not hide it does not count
pub any_text : {P : Type 0} (s : Setting) (child : Child P) (place : ℕ) (raw text other : List ℕ) (content : Content) (parts : P) (cursor : Cursor)
    → is_protected raw ≡ false
    → children_and_end s child place raw text content parts cursor ≡ children_and_end s child place raw other content parts cursor
any_text s child place raw text other content parts cursor shown = rw shown refl

-- a run of text, in an element that hides it
pub words_joined : {P : Type 0} (s : Setting) (child : Child P) (place : ℕ) (raw text : List ℕ) (old new : List Answer) (parts : P) (at : Cursor) (p : ℕ) (run : List ℕ)
    → old ≡ words p run ∷ new
    → children_and_end s child place raw text (innermost (open_contents old)) parts at ≡ children_and_end s child place raw (text ++ unescaped run) (innermost (open_contents new)) parts at
unfolding open_contents
words_joined s child place raw text old new parts at p run e = rw e (with_words s child place raw text (unescaped run) (innermost (open_contents new)) parts at)

-- the same in one that does not
pub words_passed : {P : Type 0} (s : Setting) (child : Child P) (place : ℕ) (raw text : List ℕ) (old new : List Answer) (parts : P) (at : Cursor) (p : ℕ) (run : List ℕ)
    → old ≡ words p run ∷ new → is_protected raw ≡ false
    → children_and_end s child place raw text (innermost (open_contents old)) parts at ≡ children_and_end s child place raw text (innermost (open_contents new)) parts at
words_passed s child place raw text old new parts at p run e shown =
    words_joined s child place raw text old new parts at p run e
    ∙ any_text s child place raw (text ++ unescaped run) text (innermost (open_contents new)) parts at shown

pub words_outer : (old new : List Answer) (p : ℕ) (run : List ℕ) → old ≡ words p run ∷ new → outer_contents (open_contents old) ≡ outer_contents (open_contents new)
unfolding open_contents
words_outer old new p run e = rw e refl

-- the end
pub at_end : {P : Type 0} (s : Setting) (child : Child P) (place : ℕ) (raw text : List ℕ) (old new : List Answer) (parts : P) (at : Cursor) (p : ℕ)
    → old ≡ stop p ∷ new
    → children_and_end s child place raw text (innermost (open_contents old)) parts at ≡ (text_at_end s place raw text at >>= λ y. Ok (parts, y.1))
unfolding open_contents
at_end s child place raw text old new parts at p e = rw e (ap (λ t. text_at_end s place raw t at >>= λ y. Ok (parts, y.1)) (append-nil text))

-- a refusal of the markup
pub form_within : {P : Type 0} (s : Setting) (child : Child P) (place : ℕ) (raw text : List ℕ) (old : List Answer) (parts : P) (at : Cursor) (p : ℕ)
    → old ≡ form p ∷ [] → children_and_end s child place raw text (innermost (open_contents old)) parts at ≡ Err (Form p)
unfolding open_contents
form_within s child place raw text old parts at p e = rw e refl

pub depth_within : {P : Type 0} (s : Setting) (child : Child P) (place : ℕ) (raw text : List ℕ) (old : List Answer) (parts : P) (at : Cursor) (p : ℕ)
    → old ≡ depth p ∷ [] → children_and_end s child place raw text (innermost (open_contents old)) parts at ≡ Err (Depth p)
unfolding open_contents
depth_within s child place raw text old parts at p e = rw e refl

-- an element in it that was read
pub after_child : {P : Type 0} (s : Setting) (child : Child P) (place : ℕ) (raw text : List ℕ) (old new later : List Answer) (parts more : P) (at after : Cursor) (p : ℕ) (name attrs : List ℕ)
    → old ≡ start p name attrs ∷ new
    → child parts (element p name attrs (innermost (open_contents new))) at ≡ Ok (more, after)
    → open_contents later ≡ outer_contents (open_contents new)
    → (children_and_end s child place raw text (innermost (open_contents old)) parts at ≡ children_and_end s child place raw text (innermost (open_contents later)) more after) × (outer_contents (open_contents old) ≡ outer_contents (open_contents later))
unfolding open_contents
after_child s child place raw text old new later parts more at after p name attrs e read rest =
    rw (e, rest) (ap (λ r. (r >>= λ x. all_children child (innermost (outer_contents (open_contents new))) x.0 x.1) >>= λ x. text_at_end s place raw (text ++ own_text (innermost (outer_contents (open_contents new)))) x.1 >>= λ y. Ok (x.0, y.1)) read, refl)

-- one that is refused
pub child_stops : {P : Type 0} (s : Setting) (child : Child P) (place : ℕ) (raw text : List ℕ) (old new : List Answer) (parts : P) (at : Cursor) (p : ℕ) (name attrs : List ℕ) (e : DocFail)
    → old ≡ start p name attrs ∷ new
    → Fails e (child parts (element p name attrs (innermost (open_contents new))) at)
    → Fails e (children_and_end s child place raw text (innermost (open_contents old)) parts at)
unfolding open_contents
child_stops s child place raw text old new parts at p name attrs e is fails =
    rw is (carried e (child parts (element p name attrs (innermost (open_contents new))) at) _
    (λ same. ap (λ r. (r >>= λ x. all_children child (innermost (outer_contents (open_contents new))) x.0 x.1) >>= λ x. text_at_end s place raw (text ++ own_text (innermost (outer_contents (open_contents new)))) x.1 >>= λ y. Ok (x.0, y.1)) same) fails)

-- an element that is refused at its end
pub end_stops : {P : Type 0} (s : Setting) (place : ℕ) (raw text : List ℕ) (parts : P) (at : Cursor) (e : DocFail)
    → Fails e (text_at_end s place raw text at) → Fails {Y = P × Cursor} e (text_at_end s place raw text at >>= λ y. Ok (parts, y.1))
end_stops s place raw text parts at e fails =
    carried e (text_at_end s place raw text at) _ (λ same. ap (λ r. r >>= λ y. Ok (parts, y.1)) same) fails
