-- Marks that end first: what a byte in front of a body leaves to be shown.
use Rattle.std.proofs.Common.{◌≡◌, ℕ, ◌+◌, false, eqb, List, [], ◌∷◌, ◌++◌, length, refl, ap, ◌∙◌, length-append, arith}
use Rattle.std.proofs.lemmas.Bool.{eqb-false}
use Rattle.markup_grammar.specs.Tree.{comment_end, instruction_end, EndsFirst}

-- a byte in front, where the mark does not begin with it
first_more : (mark : List ℕ) (b : ℕ) (body : List ℕ) → ((back : List ℕ) → b ∷ (body ++ mark) ≡ mark ++ back → ⊥) → EndsFirst mark body → EndsFirst mark (b ∷ body)
first_more mark b body never first [] back e = absurd (never back e)
first_more mark b body never first (c ∷ front) back e = first front back (let same : body ++ mark ≡ front ++ (mark ++ back) = cc in same)

-- behind nothing
pub ends_nil : (b : ℕ) (mark : List ℕ) → EndsFirst (b ∷ mark) []
ends_nil b mark front [] e = refl
ends_nil b mark front (c ∷ back) e =
    let same : length (b ∷ mark) ≡ length front + (1 + length mark + (1 + length back)) = ap length e ∙ simp length-append (omega arith) in
    absurd (omega arith)

unlike : (b c : ℕ) → eqb b c ≡ false → b ≡ c → ⊥
unlike b c other = eqb-false b c other

pub comment_byte : (b : ℕ) (body : List ℕ) → eqb b 45 ≡ false → EndsFirst comment_end body → EndsFirst comment_end (b ∷ body)
comment_byte b body other first = first_more comment_end b body (λ back e. unlike b 45 other cc) first

pub comment_dash : (b : ℕ) (body : List ℕ) → eqb b 45 ≡ false → EndsFirst comment_end body → EndsFirst comment_end (45 ∷ b ∷ body)
comment_dash b body other first = first_more comment_end 45 (b ∷ body) (λ back e. unlike b 45 other cc) (comment_byte b body other first)

pub comment_third : (b : ℕ) (body : List ℕ) → eqb b 45 ≡ false → eqb b 62 ≡ false → EndsFirst comment_end body → EndsFirst comment_end (45 ∷ 45 ∷ b ∷ body)
comment_third b body other no_close first =
    first_more comment_end 45 (45 ∷ b ∷ body) (λ back e. unlike b 62 no_close cc) (comment_dash b body other first)

-- a third dash
pub comment_two : (body bytes rest : List ℕ) → 45 ∷ 45 ∷ bytes ≡ body ++ (comment_end ++ rest) → EndsFirst comment_end body → EndsFirst comment_end (45 ∷ body)
comment_two body bytes rest e first = first_more comment_end 45 body (λ back. clash body e back) first
  where
    clash : (body : List ℕ) → 45 ∷ 45 ∷ bytes ≡ body ++ (comment_end ++ rest) → (back : List ℕ) → 45 ∷ (body ++ comment_end) ≡ comment_end ++ back → ⊥
    clash [] e back e' = unlike 45 62 refl cc
    clash (x ∷ []) e back e' = unlike 45 62 refl cc
    clash (x ∷ y ∷ body) e back e' = let second : 45 ≡ y = cc in let third : y ≡ 62 = cc in omega arith

pub instruction_byte : (b : ℕ) (body : List ℕ) → eqb b 63 ≡ false → EndsFirst instruction_end body → EndsFirst instruction_end (b ∷ body)
instruction_byte b body other first = first_more instruction_end b body (λ back e. unlike b 63 other cc) first

pub instruction_other : (b : ℕ) (body : List ℕ) → eqb b 63 ≡ false → eqb b 62 ≡ false → EndsFirst instruction_end body → EndsFirst instruction_end (63 ∷ b ∷ body)
instruction_other b body other no_close first =
    first_more instruction_end 63 (b ∷ body) (λ back e. unlike b 62 no_close cc) (instruction_byte b body other first)

-- a second `?`
pub instruction_mark : (body bytes rest : List ℕ) → 63 ∷ bytes ≡ body ++ (instruction_end ++ rest) → EndsFirst instruction_end body → EndsFirst instruction_end (63 ∷ body)
instruction_mark body bytes rest e first = first_more instruction_end 63 body (λ back. clash body e back) first
  where
    clash : (body : List ℕ) → 63 ∷ bytes ≡ body ++ (instruction_end ++ rest) → (back : List ℕ) → 63 ∷ (body ++ instruction_end) ≡ instruction_end ++ back → ⊥
    clash [] e back e' = unlike 63 62 refl cc
    clash (x ∷ body) e back e' = let first : 63 ≡ x = cc in let second : x ≡ 62 = cc in omega arith
