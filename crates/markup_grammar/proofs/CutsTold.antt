-- In the elements that the answers on a text spell, the first cut is the refusal.
use Rattle.std.proofs.Common.{◌≡◌, ℕ, zero, suc, Option, Some, None, List, [], ◌∷◌, refl, ap, sym, ◌∙◌}
use Rattle.std.specs.Option.{option_or}
use Rattle.markup_grammar.specs.Answers.{Answer, start, words, stop, finish, form, depth, refusal_of}
use Rattle.markup_grammar.specs.Elements.{Content, last, also, cut, with_text_before, with_start, with_text, innermost, outer_contents, open_contents, content_of, first_cut}
use Rattle.markup_grammar.specs.Escapes.{unescaped}
use Rattle.markup_grammar.specs.Reading.{answers}
use Rattle.markup_grammar.proofs.Balance.{Balanced, balanced_text}

-- the first cut in what is left of so many open elements and of the text round them, the innermost first
first_cut_of : ℕ → List Content → Option Answer
first_cut_of zero contents = first_cut (innermost contents)
first_cut_of (suc count) contents = option_or (first_cut (innermost contents)) (first_cut_of count (outer_contents contents))

or_assoc : (a b c : Option Answer) → option_or (option_or a b) c ≡ option_or a (option_or b c)
or_assoc None b c = refl
or_assoc (Some x) b c = refl

prepended_cut : (text : List ℕ) (content : Content) → first_cut (with_text_before text content) ≡ first_cut content
prepended_cut text (last rest) = refl
prepended_cut text (also rest e more) = refl
prepended_cut text (cut rest answer) = refl

begun_cut : (count place : ℕ) (name raw : List ℕ) (contents : List Content)
    → first_cut_of count (with_start place name raw contents) ≡ first_cut_of (suc count) contents
unfolding first_cut_of
begun_cut zero place name raw contents = refl
begun_cut (suc count) place name raw contents =
    or_assoc (first_cut (innermost contents)) (first_cut (innermost (outer_contents contents))) (first_cut_of count (outer_contents (outer_contents contents)))

said_cut : (count : ℕ) (text : List ℕ) (contents : List Content) → first_cut_of count (with_text text contents) ≡ first_cut_of count contents
unfolding first_cut_of
said_cut zero text contents = prepended_cut text (innermost contents)
said_cut (suc count) text contents = ap (λ o. option_or o (first_cut_of count (outer_contents contents))) (prepended_cut text (innermost contents))

refused_cut : (count : ℕ) (answer : Answer) → first_cut_of count (cut [] answer ∷ []) ≡ Some answer
unfolding first_cut_of
refused_cut zero answer = refl
refused_cut (suc count) answer = refl

left_cut : (count : ℕ) (list : List Answer) → Balanced count list → first_cut_of count (open_contents list) ≡ refusal_of list
unfolding first_cut_of open_contents
left_cut count [] h = absurd h
left_cut count (start place name raw ∷ more) h = begun_cut count place name raw (open_contents more) ∙ left_cut (suc count) more h
left_cut count (words place raw ∷ more) h = said_cut count (unescaped raw) (open_contents more) ∙ left_cut count more h
left_cut zero (stop place ∷ more) h = absurd h
left_cut (suc count) (stop place ∷ more) h = left_cut count more h
left_cut zero (finish ∷ more) h = sym (ap (λ list. refusal_of (finish ∷ list)) h.1)
left_cut (suc count) (finish ∷ more) h = cc h.0
left_cut count (form place ∷ more) h = refused_cut count (form place)
left_cut count (depth place ∷ more) h = refused_cut count (depth place)

-- the first cut of what a text holds is its refusal
pub cuts_told : (text : List ℕ) → first_cut (content_of (answers text)) ≡ refusal_of (answers text)
unfolding first_cut_of
cuts_told text = left_cut 0 (answers text) (balanced_text text)
