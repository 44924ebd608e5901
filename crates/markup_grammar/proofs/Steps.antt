-- How the reader goes over one byte.
use Rattle.std.proofs.Common.{◌≡◌, ℕ, ◌+◌, Bool, true, false, eqb, List, [], ◌∷◌, ◌++◌, length, refl, ap, sym, ◌∙◌, arith, true≢false, eqb-true}
use Rattle.std.proofs.lemmas.Bool.{false_from_ne_true}
use Rattle.markup_grammar.specs.Answers.{Answer, start, words, stop, finish, form, depth, finishes, refused_at, refusal_of}
use Rattle.markup_grammar.specs.Machine.{State, Turn, on, off, step, verdict, answers_of_turn, answers_from}

-- a byte that passes a test is not one that fails it
pub differ : (test : ℕ → Bool) (b c : ℕ) → test b ≡ true → test c ≡ false → eqb b c ≡ false
differ test b c holds fails =
    false_from_ne_true (eqb b c) (λ same. true≢false (sym holds ∙ (ap test (eqb-true b c same) ∙ fails)))

-- the end of the bytes
pub at_end : (s : State) (at : ℕ) → answers_from s at [] ≡ verdict s at ∷ []
unfolding answers_from
at_end s at = refl

-- a good byte
pub step_on : (s next : State) (at b : ℕ) (rest : List ℕ) (said : List Answer) → step s at b ≡ on said next → answers_from s at (b ∷ rest) ≡ said ++ answers_from next (at + 1) rest
unfolding answers_from
step_on s next at b rest said e = ap (λ t. answers_of_turn t at (λ n. answers_from n (at + 1) rest)) e

-- a refused byte
pub step_off : (s : State) (at b : ℕ) (rest : List ℕ) → step s at b ≡ off → answers_from s at (b ∷ rest) ≡ form at ∷ []
unfolding answers_from
step_off s at b rest e = ap (λ t. answers_of_turn t at (λ n. answers_from n (at + 1) rest)) e

-- the same answers at an equal place
pub at_place : (s : State) (at place : ℕ) (rest : List ℕ) → at ≡ place → answers_from s at rest ≡ answers_from s place rest
at_place s at place rest e = ap (λ n. answers_from s n rest) e

-- the same answers at another name of the same bytes
pub on_bytes : (s : State) (at : ℕ) (xs ys : List ℕ) → xs ≡ ys → answers_from s at xs ≡ answers_from s at ys
on_bytes s at xs ys e = ap (λ bs. answers_from s at bs) e

-- a byte that gives no piece, and then a run
pub run_on : (s t u : State) (at b : ℕ) (bs rest : List ℕ) → step s at b ≡ on [] t → answers_from t (at + 1) (bs ++ rest) ≡ answers_from u (at + 1 + length bs) rest → answers_from s at (b ∷ (bs ++ rest)) ≡ answers_from u (at + length (b ∷ bs)) rest
run_on s t u at b bs rest turn run =
    step_on s t at b (bs ++ rest) [] turn ∙ (run ∙ at_place u (at + 1 + length bs) (at + length (b ∷ bs)) rest (omega arith))

-- pieces alone: no verdict among them
abbrev pub AreClean : List Answer → Type 0
AreClean [] = Unit {0}
AreClean (finish ∷ answers) = ⊥
AreClean (form place ∷ answers) = ⊥
AreClean (depth place ∷ answers) = ⊥
AreClean (_ ∷ answers) = AreClean answers

abbrev pub IsClean : Turn → Type 0
IsClean off = Unit {0}
IsClean (on said next) = AreClean said

pub finishes-clean : (said more : List Answer) → AreClean said → finishes (said ++ more) ≡ finishes more
finishes-clean [] more c = refl
finishes-clean (start p name raw ∷ said) more c = finishes-clean said more c
finishes-clean (words p raw ∷ said) more c = finishes-clean said more c
finishes-clean (stop p ∷ said) more c = finishes-clean said more c
finishes-clean (finish ∷ said) more c = absurd c
finishes-clean (form p ∷ said) more c = absurd c
finishes-clean (depth p ∷ said) more c = absurd c

pub refused_at-clean : (said more : List Answer) → AreClean said → refused_at (said ++ more) ≡ refused_at more
refused_at-clean [] more c = refl
refused_at-clean (start p name raw ∷ said) more c = refused_at-clean said more c
refused_at-clean (words p raw ∷ said) more c = refused_at-clean said more c
refused_at-clean (stop p ∷ said) more c = refused_at-clean said more c
refused_at-clean (finish ∷ said) more c = absurd c
refused_at-clean (form p ∷ said) more c = absurd c
refused_at-clean (depth p ∷ said) more c = absurd c

pub refusal_of-clean : (said more : List Answer) → AreClean said → refusal_of (said ++ more) ≡ refusal_of more
refusal_of-clean [] more c = refl
refusal_of-clean (start p name raw ∷ said) more c = refusal_of-clean said more c
refusal_of-clean (words p raw ∷ said) more c = refusal_of-clean said more c
refusal_of-clean (stop p ∷ said) more c = refusal_of-clean said more c
refusal_of-clean (finish ∷ said) more c = absurd c
refusal_of-clean (form p ∷ said) more c = absurd c
refusal_of-clean (depth p ∷ said) more c = absurd c
