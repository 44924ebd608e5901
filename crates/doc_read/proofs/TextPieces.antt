-- The outermost elements of a text, piece by piece.
use Rattle.std.proofs.Common.{◌≡◌, ℕ, List, [], ◌∷◌, refl, ap, subst, Option, None, Result, Ok, Err}
use Rattle.markup_grammar.specs.Reading.{answers}
use Rattle.markup_grammar.specs.Answers as answer
use Rattle.markup_grammar.specs.Answers.{Answer, words, finish, form, depth}
use Rattle.markup_grammar.specs.Elements.{Content, last, also, cut, element, innermost, outer_contents, open_contents, with_text_before}
use Rattle.doc_forms.specs.declared.cursor.Cursor.{Cursor}
use Rattle.doc_forms.specs.declared.fails.DocFail.{DocFail}
use Rattle.doc_forms.specs.declared.fails.DocFail.TheVariants.{Form, Depth}
use Rattle.doc_forms.specs.Children.{all_children, by_name}
use Rattle.doc_forms.specs.Documents.{FileParts, document_rows, parts_in}
use Rattle.doc_forms.specs.ElementTexts.{Setting, start}
use Rattle.outside_core.specs.Results.{◌>>=◌}
use Rattle.doc_forms.specs.Refusals.{Fails, Returns}
use Rattle.doc_groups.proofs.DocWalk.Pieces.{carried}
use Rattle.doc_groups.specs.DocWalk.Steps.{Course, course_of}
use Rattle.doc_read.specs.TextSteps.{parts_left}

-- where nothing of the text has been read
pub at_start : {X : Type 0} (view : X → Option FileParts) (r : Result X DocFail) (s : Setting) (text : List ℕ) (walk : Course) (reader : List Answer)
    → walk ≡ course_of s reader start → reader ≡ answers text
    → Returns view r (parts_left walk.setting (innermost (open_contents walk.answers)) None walk.cursor) → Returns view r (parts_in s text)
at_start view r s text walk reader new whole gives =
    subst (λ (a : List Answer). Returns view r (parts_left s (innermost (open_contents a)) None start)) whole
    (subst (λ (w : Course). Returns view r (parts_left w.setting (innermost (open_contents w.answers)) None w.cursor)) new gives)

any_words : (s : Setting) (u : List ℕ) (content : Content) (parts : Option FileParts) (at : Cursor) → parts_left s (with_text_before u content) parts at ≡ parts_left s content parts at
any_words s u (last text) parts at = refl
any_words s u (also text e more) parts at = refl
any_words s u (cut text answer) parts at = refl

-- after a run of text
pub after_words : (s : Setting) (old new : List Answer) (parts : Option FileParts) (at : Cursor) (p : ℕ) (run : List ℕ)
    → old ≡ words p run ∷ new → parts_left s (innermost (open_contents old)) parts at ≡ parts_left s (innermost (open_contents new)) parts at
unfolding open_contents
after_words s old new parts at p run e = rw e (any_words s _ (innermost (open_contents new)) parts at)

-- after an element that was read
pub after_element : (s : Setting) (old new later : List Answer) (parts next : Option FileParts) (at after : Cursor) (p : ℕ) (name attrs : List ℕ)
    → old ≡ answer.start p name attrs ∷ new
    → by_name s (document_rows s) parts (element p name attrs (innermost (open_contents new))) at ≡ Ok (next, after)
    → open_contents later ≡ outer_contents (open_contents new)
    → parts_left s (innermost (open_contents old)) parts at ≡ parts_left s (innermost (open_contents later)) next after
unfolding open_contents
after_element s old new later parts next at after p name attrs e gives rest =
    rw (e, rest) (ap (λ r. (r >>= λ y. all_children (by_name s (document_rows s)) (innermost (outer_contents (open_contents new))) y.0 y.1) >>= λ x. Ok x.0) gives)

-- one that is refused
pub element_refused : (s : Setting) (old new : List Answer) (parts : Option FileParts) (at : Cursor) (p : ℕ) (name attrs : List ℕ) (e : DocFail)
    → old ≡ answer.start p name attrs ∷ new
    → Fails e (by_name s (document_rows s) parts (element p name attrs (innermost (open_contents new))) at)
    → Fails e (parts_left s (innermost (open_contents old)) parts at)
unfolding open_contents
element_refused s old new parts at p name attrs e is fails =
    rw is (carried e (by_name s (document_rows s) parts (element p name attrs (innermost (open_contents new))) at) _
    (λ same. ap (λ r. (r >>= λ y. all_children (by_name s (document_rows s)) (innermost (outer_contents (open_contents new))) y.0 y.1) >>= λ x. Ok x.0) same) fails)

-- the end of the whole text
pub at_finish : (s : Setting) (old : List Answer) (parts : Option FileParts) (at : Cursor) → old ≡ finish ∷ [] → parts_left s (innermost (open_contents old)) parts at ≡ Ok parts
unfolding open_contents
at_finish s old parts at e = rw e refl

-- a refusal of the markup
pub at_form : (s : Setting) (old : List Answer) (parts : Option FileParts) (at : Cursor) (p : ℕ) → old ≡ form p ∷ [] → parts_left s (innermost (open_contents old)) parts at ≡ Err (Form p)
unfolding open_contents
at_form s old parts at p e = rw e refl

pub at_depth : (s : Setting) (old : List Answer) (parts : Option FileParts) (at : Cursor) (p : ℕ) → old ≡ depth p ∷ [] → parts_left s (innermost (open_contents old)) parts at ≡ Err (Depth p)
unfolding open_contents
at_depth s old parts at p e = rw e refl
