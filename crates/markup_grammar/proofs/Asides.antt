-- How the reader goes over comments, instructions and white space.
use Rattle.std.proofs.Common.{◌≡◌, ℕ, ◌+◌, Bool, true, false, eqb, List, [], ◌∷◌, ◌++◌, length, refl, ap, ◌∙◌, subst, append_assoc, length-append, arith, eqb-true}
use Rattle.markup_grammar.specs.Bytes.{is_space}
use Rattle.markup_grammar.specs.Machine.{Level, before, within, behind, Dashes, no_dash, one_dash, two_dashes, on, step, between, opened, bang, bang_dash, in_comment, in_instruction, answers_from}
use Rattle.markup_grammar.specs.Tree.{Aside, comment, instruction, Around, blank, aside, spelled_aside, spelled_around, comment_end, instruction_end, EndsFirst, IsAside, AreAround}
use Rattle.markup_grammar.proofs.Classes.{space_not_open}
use Rattle.markup_grammar.proofs.Steps.{differ, step_on, at_place, on_bytes, run_on}

-- the dashes that a comment has come to
abbrev pub dash_bytes : Dashes → List ℕ
dash_bytes no_dash = []
dash_bytes one_dash = 45 ∷ []
dash_bytes two_dashes = 45 ∷ 45 ∷ []

-- the `?` that an instruction has come to
abbrev pub asked_bytes : Bool → List ℕ
asked_bytes true = 63 ∷ []
asked_bytes false = []

-- what ends first behind some bytes ends first behind less of them
pub ends_tail : (mark : List ℕ) (b : ℕ) (body : List ℕ) → EndsFirst mark (b ∷ body) → EndsFirst mark body
ends_tail mark b body first front back e = first (b ∷ front) back (ap (λ xs. b ∷ xs) e)

-- where the byte is this one
at_byte : (mark front : List ℕ) (b c : ℕ) (body : List ℕ) → eqb b c ≡ true → EndsFirst mark (front ++ (b ∷ body)) → EndsFirst mark (front ++ (c ∷ body))
at_byte mark front b c body same first = let P : ℕ → Type 0 = λ n. EndsFirst mark (front ++ (n ∷ body)) in subst P (eqb-true b c same) first

-- one byte of a comment, and the rest
comment_goes : (s t : Dashes) (b : ℕ) (body : List ℕ) (level : Level) (rest : List ℕ) (at : ℕ) → step (in_comment s level) at b ≡ on [] (in_comment t level) → answers_from (in_comment t level) (at + 1) (body ++ (comment_end ++ rest)) ≡ answers_from (between level) (at + 1 + (length body + 3)) rest → answers_from (in_comment s level) at (b ∷ (body ++ (comment_end ++ rest))) ≡ answers_from (between level) (at + (length (b ∷ body) + 3)) rest
comment_goes s t b body level rest at goes more =
    step_on (in_comment s level) (in_comment t level) at b (body ++ (comment_end ++ rest)) [] goes
    ∙ (more ∙ at_place (between level) (at + 1 + (length body + 3)) (at + (length (b ∷ body) + 3)) rest (omega arith))

nothing_behind : (body : List ℕ) (b : ℕ) (mark : List ℕ) → body ++ (b ∷ mark) ≡ [] → ⊥
nothing_behind [] b mark e = cc
nothing_behind (c ∷ body) b mark e = cc

-- a comment's body and its end
comment_on : (body : List ℕ) (dashes : Dashes) (level : Level) (rest : List ℕ) (at : ℕ) → EndsFirst comment_end (dash_bytes dashes ++ body) → answers_from (in_comment dashes level) at (body ++ (comment_end ++ rest)) ≡ answers_from (between level) (at + (length body + 3)) rest
comment_on [] no_dash level rest at first =
    step_on (in_comment no_dash level) (in_comment one_dash level) at 45 (45 ∷ 62 ∷ rest) [] refl
    ∙ (step_on (in_comment one_dash level) (in_comment two_dashes level) (at + 1) 45 (62 ∷ rest) [] refl
    ∙ (step_on (in_comment two_dashes level) (between level) (at + 1 + 1) 62 rest [] refl ∙ at_place (between level) (at + 1 + 1 + 1) (at + (0 + 3)) rest (omega arith)))
comment_on [] one_dash level rest at first =
    step_on (in_comment one_dash level) (in_comment two_dashes level) at 45 (45 ∷ 62 ∷ rest) [] refl
    ∙ (step_on (in_comment two_dashes level) (in_comment two_dashes level) (at + 1) 45 (62 ∷ rest) [] refl
    ∙ (step_on (in_comment two_dashes level) (between level) (at + 1 + 1) 62 rest [] refl ∙ at_place (between level) (at + 1 + 1 + 1) (at + (0 + 3)) rest (omega arith)))
comment_on [] two_dashes level rest at first =
    step_on (in_comment two_dashes level) (in_comment two_dashes level) at 45 (45 ∷ 62 ∷ rest) [] refl
    ∙ (step_on (in_comment two_dashes level) (in_comment two_dashes level) (at + 1) 45 (62 ∷ rest) [] refl
    ∙ (step_on (in_comment two_dashes level) (between level) (at + 1 + 1) 62 rest [] refl ∙ at_place (between level) (at + 1 + 1 + 1) (at + (0 + 3)) rest (omega arith)))
comment_on (b ∷ body) no_dash level rest at first =
    by_dash (eqb b 45) refl (λ t. comment_on body t level rest (at + 1))
  where
    by_dash : (test : Bool) → eqb b 45 ≡ test → ((t : Dashes) → EndsFirst comment_end (dash_bytes t ++ body) → answers_from (in_comment t level) (at + 1) (body ++ (comment_end ++ rest)) ≡ answers_from (between level) (at + 1 + (length body + 3)) rest) → answers_from (in_comment no_dash level) at (b ∷ (body ++ (comment_end ++ rest))) ≡ answers_from (between level) (at + (length (b ∷ body) + 3)) rest
    by_dash true e further =
        comment_goes no_dash one_dash b body level rest at (rw e refl) (further one_dash (at_byte comment_end [] b 45 body e first))
    by_dash false e further =
        comment_goes no_dash no_dash b body level rest at (rw e refl) (further no_dash (ends_tail comment_end b body first))
comment_on (b ∷ body) one_dash level rest at first =
    by_dash (eqb b 45) refl (λ t. comment_on body t level rest (at + 1))
  where
    by_dash : (test : Bool) → eqb b 45 ≡ test → ((t : Dashes) → EndsFirst comment_end (dash_bytes t ++ body) → answers_from (in_comment t level) (at + 1) (body ++ (comment_end ++ rest)) ≡ answers_from (between level) (at + 1 + (length body + 3)) rest) → answers_from (in_comment one_dash level) at (b ∷ (body ++ (comment_end ++ rest))) ≡ answers_from (between level) (at + (length (b ∷ body) + 3)) rest
    by_dash true e further =
        comment_goes one_dash two_dashes b body level rest at (rw e refl) (further two_dashes (at_byte comment_end (45 ∷ []) b 45 body e first))
    by_dash false e further =
        comment_goes one_dash no_dash b body level rest at (rw e refl) (further no_dash (ends_tail comment_end b body (ends_tail comment_end 45 (b ∷ body) first)))
comment_on (b ∷ body) two_dashes level rest at first =
    by_close (eqb b 62) refl (λ t. comment_on body t level rest (at + 1))
  where
    tail : EndsFirst comment_end (45 ∷ b ∷ body)
    tail = ends_tail comment_end 45 (45 ∷ b ∷ body) first

    by_dash : (test : Bool) → eqb b 45 ≡ test → eqb b 62 ≡ false → ((t : Dashes) → EndsFirst comment_end (dash_bytes t ++ body) → answers_from (in_comment t level) (at + 1) (body ++ (comment_end ++ rest)) ≡ answers_from (between level) (at + 1 + (length body + 3)) rest) → answers_from (in_comment two_dashes level) at (b ∷ (body ++ (comment_end ++ rest))) ≡ answers_from (between level) (at + (length (b ∷ body) + 3)) rest
    by_dash true e other further =
        comment_goes two_dashes two_dashes b body level rest at (rw (other, e) refl) (further two_dashes (at_byte comment_end (45 ∷ []) b 45 body e tail))
    by_dash false e other further =
        comment_goes two_dashes no_dash b body level rest at (rw (other, e) refl) (further no_dash (ends_tail comment_end b body (ends_tail comment_end 45 (b ∷ body) tail)))

    by_close : (test : Bool) → eqb b 62 ≡ test → ((t : Dashes) → EndsFirst comment_end (dash_bytes t ++ body) → answers_from (in_comment t level) (at + 1) (body ++ (comment_end ++ rest)) ≡ answers_from (between level) (at + 1 + (length body + 3)) rest) → answers_from (in_comment two_dashes level) at (b ∷ (body ++ (comment_end ++ rest))) ≡ answers_from (between level) (at + (length (b ∷ body) + 3)) rest
    by_close true e further =
        absurd (nothing_behind body 45 (45 ∷ 62 ∷ []) (at_byte comment_end (45 ∷ 45 ∷ []) b 62 body e first [] (body ++ comment_end) refl))
    by_close false e further = by_dash (eqb b 45) refl e further

-- one byte of an instruction, and the rest
instruction_goes : (s t : Bool) (b : ℕ) (body : List ℕ) (level : Level) (rest : List ℕ) (at : ℕ) → step (in_instruction s level) at b ≡ on [] (in_instruction t level) → answers_from (in_instruction t level) (at + 1) (body ++ (instruction_end ++ rest)) ≡ answers_from (between level) (at + 1 + (length body + 2)) rest → answers_from (in_instruction s level) at (b ∷ (body ++ (instruction_end ++ rest))) ≡ answers_from (between level) (at + (length (b ∷ body) + 2)) rest
instruction_goes s t b body level rest at goes more =
    step_on (in_instruction s level) (in_instruction t level) at b (body ++ (instruction_end ++ rest)) [] goes
    ∙ (more ∙ at_place (between level) (at + 1 + (length body + 2)) (at + (length (b ∷ body) + 2)) rest (omega arith))

-- an instruction's body and its end
instruction_on : (body : List ℕ) (asked : Bool) (level : Level) (rest : List ℕ) (at : ℕ) → EndsFirst instruction_end (asked_bytes asked ++ body) → answers_from (in_instruction asked level) at (body ++ (instruction_end ++ rest)) ≡ answers_from (between level) (at + (length body + 2)) rest
instruction_on [] false level rest at first =
    step_on (in_instruction false level) (in_instruction true level) at 63 (62 ∷ rest) [] refl
    ∙ (step_on (in_instruction true level) (between level) (at + 1) 62 rest [] refl ∙ at_place (between level) (at + 1 + 1) (at + (0 + 2)) rest (omega arith))
instruction_on [] true level rest at first =
    step_on (in_instruction true level) (in_instruction true level) at 63 (62 ∷ rest) [] refl
    ∙ (step_on (in_instruction true level) (between level) (at + 1) 62 rest [] refl ∙ at_place (between level) (at + 1 + 1) (at + (0 + 2)) rest (omega arith))
instruction_on (b ∷ body) false level rest at first =
    by_mark (eqb b 63) refl (λ t. instruction_on body t level rest (at + 1))
  where
    by_mark : (test : Bool) → eqb b 63 ≡ test → ((t : Bool) → EndsFirst instruction_end (asked_bytes t ++ body) → answers_from (in_instruction t level) (at + 1) (body ++ (instruction_end ++ rest)) ≡ answers_from (between level) (at + 1 + (length body + 2)) rest) → answers_from (in_instruction false level) at (b ∷ (body ++ (instruction_end ++ rest))) ≡ answers_from (between level) (at + (length (b ∷ body) + 2)) rest
    by_mark true e further =
        instruction_goes false true b body level rest at (rw e refl) (further true (at_byte instruction_end [] b 63 body e first))
    by_mark false e further =
        instruction_goes false false b body level rest at (rw e refl) (further false (ends_tail instruction_end b body first))
instruction_on (b ∷ body) true level rest at first =
    by_close (eqb b 62) refl (λ t. instruction_on body t level rest (at + 1))
  where
    by_mark : (test : Bool) → eqb b 63 ≡ test → eqb b 62 ≡ false → ((t : Bool) → EndsFirst instruction_end (asked_bytes t ++ body) → answers_from (in_instruction t level) (at + 1) (body ++ (instruction_end ++ rest)) ≡ answers_from (between level) (at + 1 + (length body + 2)) rest) → answers_from (in_instruction true level) at (b ∷ (body ++ (instruction_end ++ rest))) ≡ answers_from (between level) (at + (length (b ∷ body) + 2)) rest
    by_mark true e other further =
        instruction_goes true true b body level rest at (rw (other, e) refl) (further true (at_byte instruction_end [] b 63 body e (ends_tail instruction_end 63 (b ∷ body) first)))
    by_mark false e other further =
        instruction_goes true false b body level rest at (rw (other, e) refl) (further false (ends_tail instruction_end b body (ends_tail instruction_end 63 (b ∷ body) first)))

    by_close : (test : Bool) → eqb b 62 ≡ test → ((t : Bool) → EndsFirst instruction_end (asked_bytes t ++ body) → answers_from (in_instruction t level) (at + 1) (body ++ (instruction_end ++ rest)) ≡ answers_from (between level) (at + 1 + (length body + 2)) rest) → answers_from (in_instruction true level) at (b ∷ (body ++ (instruction_end ++ rest))) ≡ answers_from (between level) (at + (length (b ∷ body) + 2)) rest
    by_close true e further =
        absurd (nothing_behind body 63 (62 ∷ []) (at_byte instruction_end (63 ∷ []) b 62 body e first [] (body ++ instruction_end) refl))
    by_close false e further = by_mark (eqb b 63) refl e further

-- the bytes of an aside behind its `<`
abbrev pub past_open : Aside → List ℕ
past_open (comment body) = 33 ∷ 45 ∷ 45 ∷ (body ++ comment_end)
past_open (instruction body) = 63 ∷ (body ++ instruction_end)

-- an aside behind its `<`
pub aside_on : (a : Aside) (level : Level) (rest : List ℕ) (p at : ℕ) → IsAside a → answers_from (opened p level) at (past_open a ++ rest) ≡ answers_from (between level) (at + length (past_open a)) rest
aside_on (comment body) level rest p at first =
    step_on (opened p level) (bang level) at 33 _ [] refl
    ∙ (step_on (bang level) (bang_dash level) (at + 1) 45 _ [] refl
    ∙ (step_on (bang_dash level) (in_comment no_dash level) (at + 1 + 1) 45 _ [] refl
    ∙ (on_bytes (in_comment no_dash level) (at + 1 + 1 + 1) _ _ (append_assoc body comment_end rest)
    ∙ (comment_on body no_dash level rest (at + 1 + 1 + 1) first
    ∙ at_place (between level) _ _ rest (let e : at + 1 + 1 + 1 + (length body + 3) ≡ at + length (past_open (comment body)) = simp length-append (omega arith) in e)))))
aside_on (instruction body) level rest p at first =
    step_on (opened p level) (in_instruction false level) at 63 _ [] refl
    ∙ (on_bytes (in_instruction false level) (at + 1) _ _ (append_assoc body instruction_end rest)
    ∙ (instruction_on body false level rest (at + 1) first
    ∙ at_place (between level) _ _ rest (let e : at + 1 + (length body + 2) ≡ at + length (past_open (instruction body)) = simp length-append (omega arith) in e)))

pub spelled_aside-open : (a : Aside) → spelled_aside a ≡ 60 ∷ past_open a
spelled_aside-open (comment body) = refl
spelled_aside-open (instruction body) = refl

-- where white space stands round the outermost element
abbrev pub IsAround : Level → Type 0
IsAround (within name names) = ⊥
IsAround _ = Unit {0}

blank_step : (level : Level) (at b : ℕ) → IsAround level → is_space b ≡ true → step (between level) at b ≡ on [] (between level)
blank_step before at b is h = rw (differ is_space b 60 h space_not_open, h) refl
blank_step behind at b is h = rw (differ is_space b 60 h space_not_open, h) refl
blank_step (within name names) at b is h = absurd is

-- what stands round the outermost element
pub around_on : (around : List Around) (level : Level) (rest : List ℕ) (at : ℕ) → IsAround level → AreAround around → answers_from (between level) at (spelled_around around ++ rest) ≡ answers_from (between level) (at + length (spelled_around around)) rest
around_on [] level rest at is are = at_place (between level) at (at + 0) rest (omega arith)
around_on (blank b ∷ around) level rest at is are =
    run_on (between level) (between level) (between level) at b (spelled_around around) rest (blank_step level at b is are.0) (around_on around level rest (at + 1) is are.1)
around_on (aside a ∷ around) level rest at is are =
    on_bytes (between level) at _ _ (ap (λ xs. (xs ++ spelled_around around) ++ rest) (spelled_aside-open a))
    ∙ (step_on (between level) (opened at level) at 60 ((past_open a ++ spelled_around around) ++ rest) [] refl
    ∙ (on_bytes (opened at level) (at + 1) _ _ (append_assoc (past_open a) (spelled_around around) rest)
    ∙ (aside_on a level (spelled_around around ++ rest) at (at + 1) are.0
    ∙ (around_on around level rest (at + 1 + length (past_open a)) is are.1
    ∙ at_place (between level) _ _ rest
    (let e : at + 1 + length (past_open a) + length (spelled_around around) ≡ at + length (spelled_aside a ++ spelled_around around) = rw (spelled_aside-open a) (simp length-append (omega arith)) in e)))))
