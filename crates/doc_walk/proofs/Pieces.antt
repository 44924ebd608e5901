-- What an element says, piece by piece.
use Rattle.std.proofs.Common.{◌≡◌, ℕ, ◌<◌, List, [], ◌∷◌, ◌++◌, length, refl, ap, sym, ◌∙◌, subst, append_assoc, append-nil, arith, Result, Ok, Err, OnOk}
use Rattle.markup_grammar.specs.Answers.{Answer, start, words, stop, form, depth}
use Rattle.markup_grammar.specs.Elements.{Content, last, also, cut, innermost, outer_contents, open_contents, own_text, with_text_before}
use Rattle.markup_grammar.specs.Escapes.{unescaped}
use Rattle.doc_forms.specs.StreamCore.InnerStream.{Keystream, keystream}
use Rattle.doc_forms.specs.StreamCore.declared.inner.InnerStream.{InnerStream}
use Rattle.vault_model.specs.declared.forms.DocForm.{DocForm}
use Rattle.doc_forms.specs.declared.cursor.Cursor.{Cursor}
use Rattle.doc_forms.specs.declared.fails.DocFail.{DocFail}
use Rattle.doc_forms.specs.declared.fails.DocFail.TheVariants.{Form, Depth, NoMemory}
use Rattle.doc_forms.specs.ElementTexts.{Setting, text_at_end, pass_over, read_element, read_rest}
use Rattle.outside_core.specs.Results.{◌>>=◌}
use Rattle.doc_forms.specs.Refusals.{Fails, Returns}
use Rattle.doc_forms.specs.SeenTexts.{setting_of}
use Rattle.doc_forms.specs.ElementTexts.{ElementText}

-- a refusal of one step is that of the whole, where the step's is
pub carried : {A B : Type 0} (e : DocFail) (r : Result A DocFail) (whole : Result B DocFail) → (r ≡ Err e → whole ≡ Err e) → Fails e r → Fails e whole
carried NoMemory r whole h f = tt
carried e r whole h f = h f

-- of two equal definitions the same is given
pub given_same : {X Y : Type 0} (view : X → Y) (r : Result X DocFail) (d e : Result Y DocFail) → d ≡ e → Returns view r d → Returns view r e
given_same view r d e same gives = subst (Returns view r) same gives

-- a run of text
words_left : (place : ℕ) (raw : List ℕ) (more : List Answer) → innermost (open_contents (words place raw ∷ more)) ≡ with_text_before (unescaped raw) (innermost (open_contents more))
unfolding open_contents
words_left place raw more = refl

words_outer : (place : ℕ) (raw : List ℕ) (more : List Answer) → outer_contents (open_contents (words place raw ∷ more)) ≡ outer_contents (open_contents more)
unfolding open_contents
words_outer place raw more = refl

regroup : (a b c d : List ℕ) → a ++ ((b ++ c) ++ d) ≡ (a ++ b) ++ (c ++ d)
regroup a b c d = simp append_assoc

with_words : (s : Setting) (place : ℕ) (raw text u : List ℕ) (content : Content) (cursor : Cursor) → read_rest s place raw text (with_text_before u content) cursor ≡ read_rest s place raw (text ++ u) content cursor
with_words s place raw text u (last rest) cursor = ap (λ t. text_at_end s place raw t cursor) (sym (append_assoc text u rest))
with_words s place raw text u (also rest e more) cursor =
    ap (λ t. (read_element s e cursor >>= λ x. pass_over s more x.1) >>= λ after. text_at_end s place raw t after) (regroup text u rest (own_text more))
with_words s place raw text u (cut rest answer) cursor =
    ap (λ t. pass_over s (cut rest answer) cursor >>= λ after. text_at_end s place raw t after) (sym (append_assoc text u rest))

-- what is read and what is left after a piece
pub record NextAnswer (s : Setting) (place : ℕ) (raw text : List ℕ) (old new : List Answer) (at : Cursor) (next : List ℕ) : Type 0 where
  pub gives : read_rest s place raw text (innermost (open_contents old)) at ≡ read_rest s place raw next (innermost (open_contents new)) at
  pub outer_same : outer_contents (open_contents old) ≡ outer_contents (open_contents new)
  pub shorter : length new < length old

pub after_words : (s : Setting) (place : ℕ) (raw text : List ℕ) (old new : List Answer) (at : Cursor) (p : ℕ) (run : List ℕ) → old ≡ words p run ∷ new → NextAnswer s place raw text old new at (text ++ unescaped run)
after_words s place raw text old new at p run e = rw e (record {
  gives = ap (λ c. read_rest s place raw text c at) (words_left p run new) ∙ with_words s place raw text (unescaped run) (innermost (open_contents new)) at;
  outer_same = words_outer p run new;
  shorter = omega arith;
})

-- the end
pub at_stop : (s : Setting) (place : ℕ) (raw text : List ℕ) (old new : List Answer) (at : Cursor) (p : ℕ) → old ≡ stop p ∷ new → read_rest s place raw text (innermost (open_contents old)) at ≡ text_at_end s place raw text at
unfolding open_contents
at_stop s place raw text old new at p e = rw e (ap (λ t. text_at_end s place raw t at) (append-nil text))

pub stop_outer : (old new : List Answer) (p : ℕ) → old ≡ stop p ∷ new → open_contents new ≡ outer_contents (open_contents old)
unfolding open_contents
stop_outer old new p e = rw e refl

-- a refusal
pub at_form : (s : Setting) (place : ℕ) (raw text : List ℕ) (old : List Answer) (at : Cursor) (p : ℕ) → old ≡ form p ∷ [] → read_rest s place raw text (innermost (open_contents old)) at ≡ Err (Form p)
unfolding open_contents
at_form s place raw text old at p e = rw e refl

pub at_depth : (s : Setting) (place : ℕ) (raw text : List ℕ) (old : List Answer) (at : Cursor) (p : ℕ) → old ≡ depth p ∷ [] → read_rest s place raw text (innermost (open_contents old)) at ≡ Err (Depth p)
unfolding open_contents
at_depth s place raw text old at p e = rw e refl

-- an element in it that says something
pub after_child : (s : Setting) (place : ℕ) (raw text : List ℕ) (old new later : List Answer) (at after : Cursor) (p : ℕ) (name attrs : List ℕ) (x : ElementText)
    → old ≡ start p name attrs ∷ new
    → read_rest s p attrs [] (innermost (open_contents new)) at ≡ Ok (x, after)
    → open_contents later ≡ outer_contents (open_contents new)
    → (read_rest s place raw text (innermost (open_contents old)) at ≡ read_rest s place raw text (innermost (open_contents later)) after) × (outer_contents (open_contents old) ≡ outer_contents (open_contents later))
unfolding open_contents
after_child s place raw text old new later at after p name attrs x e child rest =
    rw (e, rest) (ap (λ r. (r >>= λ y. pass_over s (innermost (outer_contents (open_contents new))) y.1) >>= λ b. text_at_end s place raw (text ++ own_text (innermost (outer_contents (open_contents new)))) b) child, refl)

-- one that is refused
pub child_refused : (s : Setting) (place : ℕ) (raw text : List ℕ) (old new : List Answer) (at : Cursor) (p : ℕ) (name attrs : List ℕ) (e : DocFail)
    → old ≡ start p name attrs ∷ new
    → Fails e (read_rest s p attrs [] (innermost (open_contents new)) at)
    → Fails e (read_rest s place raw text (innermost (open_contents old)) at)
unfolding open_contents
child_refused s place raw text old new at p name attrs e is child =
    rw is (carried e (read_rest s p attrs [] (innermost (open_contents new)) at) _
    (λ same. ap (λ r. (r >>= λ y. pass_over s (innermost (outer_contents (open_contents new))) y.1) >>= λ b. text_at_end s place raw (text ++ own_text (innermost (outer_contents (open_contents new)))) b) same) child)

-- of equal keystreams the setting is the same
pub setting_same : (f : DocForm) (a b : InnerStream) → keystream a ≡ keystream b → setting_of f a ≡ setting_of f b
setting_same f a b e = ap (λ (k : Keystream). let s : Setting = record { form = f; keystream = k } in s) e

-- a fact holds of each answer
pub on_ok : {A E : Type 0} (r : Result A E) {P : Type 0} → P → OnOk r P
on_ok (Ok x) p = p
on_ok (Err e) p = tt
