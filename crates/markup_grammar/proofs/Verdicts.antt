-- The answers on a text end once: in `finish` or in a refusal.
use Rattle.std.proofs.Common.{◌≡◌, ℕ, ◌+◌, ◌-◌, Bool, true, false, eqb, ltb, cond, List, [], ◌∷◌, ◌++◌, length, take, refl, ap, sym, subst}
use Rattle.markup_grammar.specs.Answers.{Answer, start, words, stop, finish, form, depth, EndsOnce, limit_depth, cut_short}
use Rattle.markup_grammar.specs.Machine.{State, fresh, Turn, on, off, step, answers_from}
use Rattle.markup_grammar.specs.Reading.{answers_within, answers}
use Rattle.markup_grammar.specs.Utf8.{utf8_front}
use Rattle.markup_grammar.proofs.Clean.{clean}
use Rattle.markup_grammar.proofs.Stand.{verdict_by}
use Rattle.markup_grammar.proofs.Steps.{AreClean, IsClean, at_end, step_on, step_off}

ends_behind : (said more : List Answer) → AreClean said → EndsOnce more → EndsOnce (said ++ more)
ends_behind [] more c h = h
ends_behind (start p name raw ∷ said) more c h = ends_behind said more c h
ends_behind (words p raw ∷ said) more c h = ends_behind said more c h
ends_behind (stop p ∷ said) more c h = ends_behind said more c h
ends_behind (finish ∷ said) more c h = absurd c
ends_behind (form p ∷ said) more c h = absurd c
ends_behind (depth p ∷ said) more c h = absurd c

ends_along : (xs ys : List Answer) → xs ≡ ys → EndsOnce ys → EndsOnce xs
ends_along xs ys e h = subst EndsOnce (sym e) h

ends_turn : (s : State) (at b : ℕ) (bytes : List ℕ) (turn : Turn) → step s at b ≡ turn → IsClean turn → ((next : State) → EndsOnce (answers_from next (at + 1) bytes)) → EndsOnce (answers_from s at (b ∷ bytes))
ends_turn s at b bytes off is c further = ends_along _ _ (step_off s at b bytes is) refl
ends_turn s at b bytes (on said next) is c further =
    ends_along _ _ (step_on s next at b bytes said is) (ends_behind said _ c (further next))

-- the answers from a state on end once
pub ends : (s : State) (at : ℕ) (bytes : List ℕ) → EndsOnce (answers_from s at bytes)
ends s at [] = ends_along _ _ (at_end s at) (verdict_by (λ answer. EndsOnce (answer ∷ [])) s at refl refl)
ends s at (b ∷ bytes) = ends_turn s at b bytes (step s at b) refl (clean s at b) (λ next. ends next (at + 1) bytes)

ends_short : (n : ℕ) (list : List Answer) → EndsOnce list → EndsOnce (cut_short n list)
ends_short n [] h = h
ends_short n (start p name raw ∷ more) h = ends_short n more h
ends_short n (words p raw ∷ more) h = ends_short n more h
ends_short n (stop p ∷ more) h = ends_short n more h
ends_short n (finish ∷ more) h = ap (λ xs. cut_short n xs) h
ends_short n (form p ∷ more) h = ap (λ xs. cut_short n xs) h
ends_short n (depth p ∷ more) h = ap (λ xs. cut_short n xs) h

ends_within : (text : List ℕ) (n : ℕ) (whole : Bool) → EndsOnce (cond whole (answers_from fresh 0 text) (cut_short n (answers_from fresh 0 (take n text))))
ends_within text n true = ends fresh 0 text
ends_within text n false = ends_short n (answers_from fresh 0 (take n text)) (ends fresh 0 (take n text))

ends_cut : (room : Bool) (p : ℕ) (name raw : List ℕ) (more : List Answer) → EndsOnce more → EndsOnce (cond room (start p name raw ∷ more) (depth p ∷ []))
ends_cut true p name raw more h = h
ends_cut false p name raw more h = refl

ends_limited : (d : ℕ) (list : List Answer) → EndsOnce list → EndsOnce (limit_depth d list)
ends_limited d [] h = h
ends_limited d (start p name raw ∷ more) h = ends_cut (ltb d 256) p name raw (limit_depth (d + 1) more) (ends_limited (d + 1) more h)
ends_limited d (words p raw ∷ more) h = ends_limited d more h
ends_limited d (stop p ∷ more) h = ends_limited (d - 1) more h
ends_limited d (finish ∷ more) h = ap (λ xs. limit_depth d xs) h
ends_limited d (form p ∷ more) h = ap (λ xs. limit_depth d xs) h
ends_limited d (depth p ∷ more) h = ap (λ xs. limit_depth d xs) h

-- the answers on any text end once
pub verdicts : (text : List ℕ) → EndsOnce (answers text)
unfolding answers
verdicts text = ends_limited 0 (answers_within text (utf8_front text)) (ends_within text (utf8_front text) (eqb (utf8_front text) (length text)))
