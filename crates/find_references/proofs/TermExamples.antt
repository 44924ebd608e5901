-- Terms of some texts.
use Rattle.std.proofs.Common.{◌≡◌, ℕ, Bool, true, false, List, [], ◌∷◌, Ok, Err, refl}
use Rattle.std.specs.Prelude.{codes}
use Rattle.find_references.specs.declared.fail.FindFail.TheVariants.{EmptyTerm}
use Rattle.find_references.specs.declared.terms.SearchField.{SearchField}
use Rattle.find_references.specs.declared.terms.SearchField.TheVariants.{Any, Title, Attr, Group, UserName}
use Rattle.find_references.specs.declared.terms.Term.{Term}
use Rattle.find_references.specs.Terms.{term_before, terms_of}

abbrev term : Bool → Bool → SearchField → List ℕ → Term
term not whole field text = record { not = not; whole = whole; field = field; text = text }

one_word : terms_of (codes "ba") ≡ Ok (term false false Any (codes "ba") ∷ [])
unfolding terms_of term_before
one_word = refl

no_text : terms_of (codes "title:") ≡ Err (EmptyTerm 0)
unfolding terms_of term_before
no_text = refl

no_term : terms_of (codes "  ") ≡ Err (EmptyTerm 0)
unfolding terms_of term_before
no_term = refl

-- The offset is the one of the term, and not of its text.
later_term : terms_of (codes "a  -t:\"\"") ≡ Err (EmptyTerm 3)
unfolding terms_of term_before
later_term = refl

-- Signs stand in any order and repeat, and a closing quotation mark ends a term.
signs_and_quotes : terms_of (codes "+!!u:\"a b\"c:d g:x\"y attr:\"e")
    ≡ Ok (term true true UserName (codes "a b") ∷ term false false Any (codes "c:d")
    ∷ term false false Group (codes "x\"y") ∷ term false false Attr (codes "e") ∷ [])
unfolding terms_of term_before
signs_and_quotes = refl

-- Names of fields are in lower case.
other_case : terms_of (codes "Title:a t:b")
    ≡ Ok (term false false Any (codes "Title:a") ∷ term false false Title (codes "b") ∷ [])
unfolding terms_of term_before
other_case = refl
