-- How what is left of the open elements changes as their items come.
use Rattle.std.proofs.Common.{ℕ, ◌≡◌, ◌<◌, ◌≤◌, ◌∙◌, sym, ap, refl, arith, false, ◌&&◌, List, [], ◌∷◌, ◌++◌, length, append_assoc}
use Rattle.markup_core.specs.MarkupGrammar.Answers.{Answer, start, words, stop, finish}
use Rattle.markup_core.specs.MarkupGrammar.Elements.{Element, element, Content, last, also, cut, innermost, outer_contents, open_contents, with_text_before, own_text}
use Rattle.markup_core.specs.MarkupGrammar.Escapes.{unescaped}
use Rattle.key_core.specs.KeyDocument.{is_whole, is_whole_element, last_says}
use Rattle.key_core.specs.Reading.{are_whole, IsRead}
use Rattle.std.specs.Prelude.{Err}
use Rattle.markup_core.specs.Next.{Answers}
use Rattle.markup_core.specs.declared.piece.MarkupFail.{MarkupFail}
use Rattle.markup_core.specs.declared.piece.MarkupFail.TheVariants.{Form, Depth}

-- text in front of content changes neither whether it is whole nor what its elements say
pub prepended_whole : (text : List ℕ) (content : Content) → is_whole (with_text_before text content) ≡ is_whole content
prepended_whole text (last rest) = refl
prepended_whole text (also rest e more) = refl
prepended_whole text (cut rest answer) = refl

pub prepended_says : {A : Type 0} (name : List ℕ) (says : Element → A) (other : A) (text : List ℕ) (content : Content)
    → last_says name says other (with_text_before text content) ≡ last_says name says other content
prepended_says name says other text (last rest) = refl
prepended_says name says other text (also rest e more) = refl
prepended_says name says other text (cut rest answer) = refl

pub prepended_joined : (text : List ℕ) (content : Content) → own_text (with_text_before text content) ≡ text ++ own_text content
prepended_joined text (last rest) = refl
prepended_joined text (also rest e more) = append_assoc text rest (own_text more)
prepended_joined text (cut rest answer) = refl

-- what was said of the content of old is said so far, and by what is left of it now
pub record Follows {A : Type 0} (says so_far : Content → A) (old now : List Answer) : Type 0 where
  pub said : so_far (innermost (open_contents now)) ≡ says (innermost (open_contents old))
  pub whole : is_whole (innermost (open_contents now)) ≡ is_whole (innermost (open_contents old))
  pub rest : outer_contents (open_contents now) ≡ outer_contents (open_contents old)
  pub shorter : length now ≤ length old

-- a run of text came
pub after_words : {A : Type 0} (says so_far next : Content → A) (text : List ℕ) (old now new : List Answer)
    → Follows says so_far old now → innermost (open_contents now) ≡ with_text_before text (innermost (open_contents new)) → outer_contents (open_contents now) ≡ outer_contents (open_contents new)
    → length new < length now → next (innermost (open_contents new)) ≡ so_far (with_text_before text (innermost (open_contents new)))
    → Follows says next old new
after_words says so_far next text old now new f comes round short same = record {
  said = same ∙ sym (ap so_far comes) ∙ f.said;
  whole = sym (prepended_whole text (innermost (open_contents new))) ∙ sym (ap is_whole comes) ∙ f.whole;
  rest = sym round ∙ f.rest;
  shorter = omega (arith, f.shorter);
}

-- an element came, and was read up to its end
pub after_child : {A B : Type 0} (says so_far next : Content → A) (e : Element) (value spoken : B) (old now mid new : List Answer)
    → Follows says so_far old now → innermost (open_contents now) ≡ also [] e (innermost (outer_contents (open_contents mid))) → is_whole_element e ≡ is_whole (innermost (open_contents mid))
    → outer_contents (open_contents now) ≡ outer_contents (outer_contents (open_contents mid)) → length mid < length now → IsRead value spoken mid new
    → next (innermost (open_contents new)) ≡ so_far (also [] e (innermost (open_contents new)))
    → Follows says next old new
after_child says so_far next e value spoken old now mid new f comes held round short r same =
    let here : innermost (open_contents now) ≡ also [] e (innermost (open_contents new)) = comes ∙ ap (λ cs. also [] e (innermost cs)) (sym r.rest) in
    record {
      said = same ∙ sym (ap so_far here) ∙ f.said;
      whole = sym (ap (λ b. b && is_whole (innermost (open_contents new))) (held ∙ r.whole)) ∙ sym (ap is_whole here) ∙ f.whole;
      rest = ap outer_contents r.rest ∙ sym round ∙ f.rest;
      shorter = omega (arith, f.shorter, r.shorter);
    }

-- its end came
pub at_end : {A : Type 0} (says so_far : Content → A) (value : A) (old now new : List Answer)
    → Follows says so_far old now → innermost (open_contents now) ≡ last [] → outer_contents (open_contents now) ≡ open_contents new → length new < length now → value ≡ so_far (last [])
    → IsRead value (says (innermost (open_contents old))) old new
at_end says so_far value old now new f comes round short same = record {
  said = same ∙ sym (ap so_far comes) ∙ f.said;
  whole = sym f.whole ∙ ap is_whole comes;
  rest = sym round ∙ f.rest;
  shorter = omega (arith, f.shorter);
}

-- it is cut, or what stands round it is
pub cut_here : {A : Type 0} (says so_far : Content → A) (old now : List Answer) → Follows says so_far old now → are_whole now ≡ false → are_whole old ≡ false
cut_here says so_far old now f h =
    sym (ap (λ b. b && is_whole (innermost (outer_contents (open_contents now)))) f.whole ∙ ap (λ cs. is_whole (innermost (open_contents old)) && is_whole (innermost cs)) f.rest) ∙ h

-- an element came that is cut, or that has something cut round it
pub cut_in_child : {A : Type 0} (says so_far : Content → A) (e : Element) (old now mid : List Answer) → Follows says so_far old now
    → innermost (open_contents now) ≡ also [] e (innermost (outer_contents (open_contents mid))) → is_whole_element e ≡ is_whole (innermost (open_contents mid)) → are_whole mid ≡ false → are_whole old ≡ false
cut_in_child says so_far e old now mid f comes held h =
    let within : is_whole (innermost (open_contents now)) ≡ false = ap is_whole comes ∙ ap (λ b. b && is_whole (innermost (outer_contents (open_contents mid)))) held ∙ h in
    cut_here says so_far old now f (ap (λ b. b && is_whole (innermost (outer_contents (open_contents now)))) within)

-- the answers of a reader, as items
pub start_came : (place : ℕ) (name raw : List ℕ) (old new : List Answer) → old ≡ start place name raw ∷ new
    → (innermost (open_contents old) ≡ also [] (element place name raw (innermost (open_contents new))) (innermost (outer_contents (open_contents new))))
    × (outer_contents (open_contents old) ≡ outer_contents (outer_contents (open_contents new))) × (length new < length old)
unfolding open_contents
start_came place name raw old new h =
    let longer : length old ≡ length (start place name raw ∷ new) = ap length h in
    (ap (λ a. innermost (open_contents a)) h, ap (λ a. outer_contents (open_contents a)) h, omega arith)

pub words_came : (place : ℕ) (raw : List ℕ) (old new : List Answer) → old ≡ words place raw ∷ new
    → (innermost (open_contents old) ≡ with_text_before (unescaped raw) (innermost (open_contents new))) × (outer_contents (open_contents old) ≡ outer_contents (open_contents new)) × (length new < length old)
unfolding open_contents
words_came place raw old new h =
    let longer : length old ≡ length (words place raw ∷ new) = ap length h in
    (ap (λ a. innermost (open_contents a)) h, ap (λ a. outer_contents (open_contents a)) h, omega arith)

pub stop_came : (place : ℕ) (old new : List Answer) → old ≡ stop place ∷ new
    → (innermost (open_contents old) ≡ last []) × (outer_contents (open_contents old) ≡ open_contents new) × (length new < length old)
unfolding open_contents
stop_came place old new h =
    let longer : length old ≡ length (stop place ∷ new) = ap length h in
    (ap (λ a. innermost (open_contents a)) h, ap (λ a. outer_contents (open_contents a)) h, omega arith)

pub finish_came : (old : List Answer) → old ≡ finish ∷ [] → are_whole old ≡ false
unfolding open_contents
finish_came old h = ap are_whole h

pub refusal_came : (fail : MarkupFail) (old new : List Answer) → Answers old (Err fail) new → are_whole old ≡ false
unfolding open_contents
refusal_came (Form place) old new h = ap are_whole h.0
refusal_came (Depth place) old new h = ap are_whole h.0
