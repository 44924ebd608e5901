-- How the byte-wise reader goes through comments and instructions.
use Rattle.std.specs.Prelude.{⊤}
use Rattle.std.proofs.Common.{MatchResult, ◌≡◌, ℕ, zero, suc, ◌+◌, Bool, true, false, cond, eqb, leb, ◌&&◌, List, [], ◌∷◌, drop, refl, ap, sym, ◌∙◌, add-one, arith, Result, Ok, Err, inl, inr}
use Rattle.std.proofs.lemmas.Bool.Decides.{nat_tests}
use Rattle.markup_grammar.specs.Answers.{form}
use Rattle.markup_grammar.specs.Bytes.{is_space}
use Rattle.markup_grammar.specs.Machine.{State, Level, before, within, behind, between, opened, in_comment, in_instruction, no_dash, one_dash, two_dashes, step, verdict, on, off, comment_step, instruction_step}
use Rattle.markup_scanner.specs.Left.{answers_at, StandsAt, BeginsWithout}
use Rattle.markup_scanner.specs.Scans.{EndsWithin, run_end}
use Rattle.markup_scanner.specs.Asides.{EndsTag, EndsTagOrStays, NoAside, IsOutside, dashes_of}
use Rattle.markup_scanner.proofs.Steps.{left_on, refused, other_byte, run_left}
use Rattle.markup_scanner.proofs.Numbers.{differ}

-- past one byte
pub past_on : (text : List ℕ) (s next : State) (at end byte : ℕ) → step s at byte ≡ on [] next → (end ≡ at + 1) × StandsAt text at byte → answers_at text s at ≡ answers_at text next end
past_on text s next at end byte turn is = left_on text s next at byte [] is.1 turn ∙ ap (λ n. answers_at text next n) (sym is.0)

-- the one byte that a state waits for does not stand there
pub past_off : (text : List ℕ) (s : State) (at place byte : ℕ) → verdict s at ≡ form at → ((b : ℕ) → eqb b byte ≡ false → step s at b ≡ off) → (place ≡ at) × BeginsWithout byte (drop at text) → answers_at text s at ≡ form place ∷ []
past_off text s at place byte ends turn is =
    refused text s at (λ _. ends) (λ b stand. turn b (other_byte text at b byte stand is.1)) ∙ ap (λ n. form n ∷ []) (sym is.0)

-- a byte of a comment that does not end it
comment_more : (level : Level) (d b : ℕ) → (leb 2 d && eqb b 62) ≡ false → comment_step (dashes_of d) level b ≡ on [] (in_comment (dashes_of (cond (eqb b 45) (d + 1) 0)) level)
comment_more level zero b e = by_dash (eqb b 45)
  where
    by_dash : (t : Bool) → cond t (on [] (in_comment one_dash level)) (on [] (in_comment no_dash level)) ≡ on [] (in_comment (dashes_of (cond t (0 + 1) 0)) level)
    by_dash true = refl
    by_dash false = refl
comment_more level (suc zero) b e = by_dash (eqb b 45)
  where
    by_dash : (t : Bool) → cond t (on [] (in_comment two_dashes level)) (on [] (in_comment no_dash level)) ≡ on [] (in_comment (dashes_of (cond t (1 + 1) 0)) level)
    by_dash true = refl
    by_dash false = refl
comment_more level (suc (suc n)) b e =
    let more : leb 2 (suc (suc n)) ≡ true = grind (arith, nat_tests) in
    let open_still : eqb b 62 ≡ false = rw more at e in
    rw open_still (by_dash (eqb b 45))
  where
    by_dash : (t : Bool) → cond t (on [] (in_comment two_dashes level)) (on [] (in_comment no_dash level)) ≡ on [] (in_comment (dashes_of (cond t (suc (suc n) + 1) 0)) level)
    by_dash true = rw (add-one (suc (suc n))) refl
    by_dash false = refl

pub comment_goes : (text : List ℕ) (level : Level) (d place b next : ℕ) → StandsAt text place b → (leb 2 d && eqb b 62) ≡ false → next ≡ cond (eqb b 45) (d + 1) 0 → answers_at text (in_comment (dashes_of d) level) place ≡ answers_at text (in_comment (dashes_of next) level) (place + 1)
comment_goes text level d place b next stand e is =
    left_on text (in_comment (dashes_of d) level) (in_comment (dashes_of next) level) place b [] stand
    (comment_more level d b e ∙ ap (λ n. on [] (in_comment (dashes_of n) level)) (sym is))

comment_last : (level : Level) (d b : ℕ) → (leb 2 d && eqb b 62) ≡ true → comment_step (dashes_of d) level b ≡ on [] (between level)
comment_last level zero b e = absurd (cc)
comment_last level (suc zero) b e = absurd (cc)
comment_last level (suc (suc n)) b e =
    let more : leb 2 (suc (suc n)) ≡ true = grind (arith, nat_tests) in
    let ends : eqb b 62 ≡ true = rw more at e in
    rw ends refl

pub comment_ends : (text : List ℕ) (level : Level) (d place b : ℕ) → StandsAt text place b → (leb 2 d && eqb b 62) ≡ true → answers_at text (in_comment (dashes_of d) level) place ≡ answers_at text (between level) (place + 1)
comment_ends text level d place b stand e =
    left_on text (in_comment (dashes_of d) level) (between level) place b [] stand (comment_last level d b e)

both_right : (t u : Bool) → (t && u) ≡ true → u ≡ true
both_right true u e = e
both_right false u e = absurd (cc)

-- the byte that ends a comment or an instruction
pub closing_byte : (text : List ℕ) (place b : ℕ) (t : Bool) → StandsAt text place b → (t && eqb b 62) ≡ true → EndsTag text (place + 1)
closing_byte text place b t stand e =
    let same : b ≡ 62 = (let h : eqb b 62 ≡ true = both_right t (eqb b 62) e in grind (arith, nat_tests)) in
    (place, refl, (let h : StandsAt text place 62 = rw same at stand in h))

instruction_more : (level : Level) (asked : Bool) (b : ℕ) → (asked && eqb b 62) ≡ false → instruction_step asked level b ≡ on [] (in_instruction (eqb b 63) level)
instruction_more level false b e = by_mark (eqb b 63)
  where
    by_mark : (t : Bool) → cond t (on [] (in_instruction true level)) (on [] (in_instruction false level)) ≡ on [] (in_instruction t level)
    by_mark true = refl
    by_mark false = refl
instruction_more level true b e = rw e (by_mark (eqb b 63))
  where
    by_mark : (t : Bool) → cond t (on [] (in_instruction true level)) (on [] (in_instruction false level)) ≡ on [] (in_instruction t level)
    by_mark true = refl
    by_mark false = refl

pub instruction_goes : (text : List ℕ) (level : Level) (asked : Bool) (place b : ℕ) (next : Bool) → StandsAt text place b → (asked && eqb b 62) ≡ false → next ≡ eqb b 63 → answers_at text (in_instruction asked level) place ≡ answers_at text (in_instruction next level) (place + 1)
instruction_goes text level asked place b next stand e is =
    left_on text (in_instruction asked level) (in_instruction next level) place b [] stand
    (instruction_more level asked b e ∙ ap (λ t. on [] (in_instruction t level)) (sym is))

instruction_last : (level : Level) (asked : Bool) (b : ℕ) → (asked && eqb b 62) ≡ true → instruction_step asked level b ≡ on [] (between level)
instruction_last level false b e = absurd (cc)
instruction_last level true b e = rw e refl

pub instruction_ends : (text : List ℕ) (level : Level) (asked : Bool) (place b : ℕ) → StandsAt text place b → (asked && eqb b 62) ≡ true → answers_at text (in_instruction asked level) place ≡ answers_at text (between level) (place + 1)
instruction_ends text level asked place b stand e =
    left_on text (in_instruction asked level) (between level) place b [] stand (instruction_last level asked b e)

space_not_open : is_space 60 ≡ false
unfolding is_space
space_not_open = refl

-- white space outside the outermost element
pub spaces_left : (text : List ℕ) (level : Level) (at end : ℕ) → IsOutside level → end ≡ run_end is_space text at → answers_at text (between level) at ≡ answers_at text (between level) end
spaces_left text level at end outside is =
    run_left text is_space (λ _. between level) 0 (λ place b _ stand holds. turn level outside place b holds) at (omega arith)
    ∙ ap (λ n. answers_at text (between level) n) (sym is)
  where
    turn : (level : Level) → IsOutside level → (place b : ℕ) → is_space b ≡ true → step (between level) place b ≡ on [] (between level)
    turn before outside place b holds = rw (differ is_space b 60 holds space_not_open, holds) refl
    turn (within name names) outside place b holds = absurd outside
    turn behind outside place b holds = rw (differ is_space b 60 holds space_not_open, holds) refl

-- past a `<` and what follows it
pub opened_on : (text : List ℕ) (level : Level) (next : State) (at tag end byte : ℕ) → step (opened at level) (at + 1) byte ≡ on [] next → (tag ≡ at + 1) × StandsAt text at 60 → (end ≡ tag + 1) × StandsAt text tag byte → answers_at text (between level) at ≡ answers_at text next end
opened_on text level next at tag end byte turn first second =
    past_on text (between level) (opened at level) at tag 60 refl first
    ∙ past_on text (opened at level) next tag end byte turn second

-- with no `<` there, neither begins
pub no_tag : (text : List ℕ) (at : ℕ) → BeginsWithout 60 (drop at text) → NoAside text at
no_tag text at bare = λ stand. absurd ((let other = rw stand at bare in other) refl)

-- nor with a `<` and neither `!` nor `?` behind it
pub other_tag : (text : List ℕ) (at tag : ℕ) → tag ≡ at + 1 → BeginsWithout 33 (drop tag text) → BeginsWithout 63 (drop tag text) → NoAside text at
other_tag text at tag is mark ask = λ stand. (rw is at mark, rw is at ask)

-- an end behind an end is one
pub ends_on : (text : List ℕ) (at place next : ℕ) → EndsTagOrStays text at place → EndsTagOrStays text place next → EndsTagOrStays text at next
ends_on text at place next (inl e) (inl f) = inl (f ∙ e)
ends_on text at place next (inr w) (inl f) = inr (rw (← f) at w)
ends_on text at place next first (inr w) = inr w

-- behind a tag that ends
pub ends_closed : (text : List ℕ) (at : ℕ) (r : Result ℕ ℕ) → MatchResult r (λ end. EndsTag text end) (λ _. ⊤) → MatchResult r (λ end. EndsTagOrStays text at end) (λ _. ⊤)
ends_closed text at (Ok end) e = inr e
ends_closed text at (Err n) e = tt

-- an end that lies further on is not the beginning
pub ends_later : (text : List ℕ) (at tag inner : ℕ) (r : Result ℕ ℕ) → tag ≡ at + 1 → inner ≡ tag + 1 → EndsWithin text inner r → MatchResult r (λ end. end ≡ at → NoAside text at) (λ _. ⊤)
ends_later text at tag inner (Ok end) e f fits = λ same. absurd (omega (arith, fits.0))
ends_later text at tag inner (Err n) e f fits = tt
