-- The parts of a term: what is following each is an end of the text.
use Rattle.std.proofs.Common.{◌≡◌, ◌≤◌, ◌<◌, ℕ, suc, ◌+◌, ◌-◌, Bool, true, false, true≢false, cond, ◌==◌, List, [], ◌∷◌, ◌++◌, length, take, Option, Some, None, Result, Ok, Err, refl, sym, ap, ◌∙◌, arith, append_assoc, length-append}
use Rattle.std.proofs.lemmas.Bool.{ne_eqb}
use Rattle.std.proofs.lemmas.Bool.Decides.{nat_tests}
use Rattle.std.proofs.lemmas.List.{length-take, take-append-drop}
use Rattle.std.specs.List.{after_first, before_first, position_or_len}
use Rattle.find_references.specs.declared.fail.FindFail.{FindFail}
use Rattle.find_references.specs.declared.fail.FindFail.TheVariants.{EmptyTerm}
use Rattle.find_references.specs.declared.terms.Term.{Term}
use Rattle.find_references.specs.declared.terms.SearchField.{SearchField}
use Rattle.find_references.specs.Terms.{cut_at, field_before, field_named, field_or_any, has_byte, is_colon, is_not_sign, is_quote, is_space, is_whole_sign, one_at_least, signs_before, term_before, terms_from, text_before, with_texts}

-- ---- signs

pub no_sign : (not whole : Bool) (text : List ℕ) → ((rest : List ℕ) → text ≡ 33 ∷ rest → ⊥)
    → ((rest : List ℕ) → text ≡ 45 ∷ rest → ⊥) → ((rest : List ℕ) → text ≡ 43 ∷ rest → ⊥)
    → record { not = not; whole = whole; following = text } ≡ signs_before not whole text
no_sign not whole [] h i j = refl
no_sign not whole (b ∷ bs) h i j =
    let p = ne_eqb b 33 (λ e. h bs (ap (λ c. c ∷ bs) e)) in
    let q = ne_eqb b 45 (λ e. i bs (ap (λ c. c ∷ bs) e)) in
    let r = ne_eqb b 43 (λ e. j bs (ap (λ c. c ∷ bs) e)) in
    rw (p, q, r)

-- ---- a text

pub unquoted : (text : List ℕ) → ((rest : List ℕ) → text ≡ 34 ∷ rest → ⊥) → text_before text ≡ cut_at is_space text
unquoted [] h = refl
unquoted (b ∷ bs) h = let p = ne_eqb b 34 (λ e. h bs (ap (λ c. c ∷ bs) e)) in rw p

-- ---- ends

-- what is left at the end of a text, following so many bytes or more
pub record IsBehind (n : ℕ) (following text : List ℕ) : Type 0 where
  pub front : List ℕ
  pub joined : text ≡ front ++ following
  pub within : n ≤ length front

pub all_behind : (text : List ℕ) → IsBehind 0 text text
all_behind text = record { front = []; joined = refl; within = omega arith }

pub behind_more : (b n : ℕ) (following text : List ℕ) → IsBehind n following text → IsBehind n following (b ∷ text)
behind_more b n following text h = record { front = b ∷ h.front; joined = ap (λ t. b ∷ t) h.joined; within = let w = h.within in omega arith }

pub behind_both : (n : ℕ) (end mid text : List ℕ) → IsBehind n end mid → IsBehind 0 mid text → IsBehind n end text
behind_both n end mid text p q = record {
  front = q.front ++ p.front;
  joined = q.joined ∙ ap (λ t. q.front ++ t) p.joined ∙ sym (append_assoc q.front p.front end);
  within = let w = p.within in omega (arith, length-append q.front p.front);
}

pub behind_signs : (not whole : Bool) (text : List ℕ) → IsBehind 0 (signs_before not whole text).following text
behind_signs not whole [] = all_behind []
behind_signs not whole (b ∷ bs) =
    elim (is_not_sign b) as (λ (x : Bool). IsBehind 0 (cond x (signs_before true whole bs) (cond (is_whole_sign b) (signs_before not true bs) (record { not = not; whole = whole; following = b ∷ bs }))).following (b ∷ bs)) [
      | true ↦ behind_more b 0 _ bs (behind_signs true whole bs)
      | false ↦ elim (is_whole_sign b) as (λ (x : Bool). IsBehind 0 (cond x (signs_before not true bs) (record { not = not; whole = whole; following = b ∷ bs })).following (b ∷ bs)) [
        | true ↦ behind_more b 0 _ bs (behind_signs not true bs)
        | false ↦ all_behind (b ∷ bs)
      ]
    ]

pub behind_cut : (is_end : ℕ → Bool) (text : List ℕ) → IsBehind (length (before_first is_end text)) (after_first is_end text) text
behind_cut is_end text =
    let n = position_or_len is_end text in record {
      front = take (n + 1) text;
      joined = sym (take-append-drop (n + 1) text);
      within = omega (arith, length-take n text, length-take (n + 1) text);
    }

behind_any : (n : ℕ) (following text : List ℕ) → IsBehind n following text → IsBehind 0 following text
behind_any n following text h = record { front = h.front; joined = h.joined; within = omega arith }

behind_named : (text following : List ℕ) (found : Option SearchField) → IsBehind 0 following text → IsBehind 0 (field_or_any text following found).following text
behind_named text following None h = all_behind text
behind_named text following (Some f) h = h

pub behind_field : (text : List ℕ) → IsBehind 0 (field_before text).following text
behind_field text =
    elim (has_byte is_colon text) as (λ (x : Bool). IsBehind 0 (cond x (field_or_any text (cut_at is_colon text).following (field_named (cut_at is_colon text).text)) (field_or_any text [] None)).following text) [
      | true ↦ behind_named text (after_first is_colon text) (field_named (before_first is_colon text)) (behind_any _ _ text (behind_cut is_colon text))
      | false ↦ all_behind text
    ]

pub behind_text : (text : List ℕ) → IsBehind (length (text_before text).text) (text_before text).following text
behind_text [] = behind_cut is_space []
behind_text (b ∷ bs) =
    elim (is_quote b) as (λ (x : Bool). IsBehind (length (cond x (cut_at is_quote bs) (cut_at is_space (b ∷ bs))).text) (cond x (cut_at is_quote bs) (cut_at is_space (b ∷ bs))).following (b ∷ bs)) [
      | true ↦ behind_more b _ _ bs (behind_cut is_quote bs)
      | false ↦ behind_cut is_space (b ∷ bs)
    ]

-- what is following a term is following its text
pub behind_term : (text : List ℕ) → IsBehind (length (term_before text).term.text) (term_before text).following text
unfolding term_before
behind_term text =
    let signs = signs_before false false text in
    let body = field_before signs.following in
    behind_both _ _ body.following text (behind_text body.following)
    (behind_both 0 body.following signs.following text (behind_field signs.following) (behind_signs false false text))

-- ---- terms

pub terms_past : (offset : ℕ) (front following : List ℕ) → terms_from offset (length front) (front ++ following) ≡ terms_from (offset + length front) 0 following
terms_past offset [] following = let e : offset + 0 ≡ offset = omega arith in ap (λ o. terms_from o 0 following) (sym e)
terms_past offset (b ∷ bs) following =
    let e : offset + 1 + length bs ≡ offset + suc (length bs) = omega arith in
    terms_past (offset + 1) bs following ∙ ap (λ o. terms_from o 0 following) e

-- following a term that is not empty
pub past_term : (b : ℕ) (bs following front : List ℕ) (offset : ℕ) → b ∷ bs ≡ front ++ following → 0 < length front
    → terms_from (offset + 1) (length bs - length following) bs ≡ terms_from (offset + (suc (length bs) - length following)) 0 following
past_term b bs following [] offset e some = absurd (omega arith)
past_term b bs following (x ∷ front) offset e some =
    let tails : bs ≡ front ++ following = cc in
    let n : length bs - length following ≡ length front = omega (arith, ap length tails, length-append front following) in
    let m : offset + 1 + length front ≡ offset + (suc (length bs) - length following) = omega (arith, ap length tails, length-append front following) in
    ap (λ k. terms_from (offset + 1) k bs) n ∙ ap (terms_from (offset + 1) (length front)) tails
    ∙ terms_past (offset + 1) front following ∙ ap (λ k. terms_from k 0 following) m

some_length : (n : ℕ) → (n == 0) ≡ false → 0 < n
some_length n h = grind (arith, nat_tests)

-- a term without text
pub empty_term : (terms : List Term) (offset : ℕ) (rest : List ℕ) → (length rest == 0) ≡ false → ((r : List ℕ) → rest ≡ 32 ∷ r → ⊥)
    → (length (term_before rest).term.text == 0) ≡ true → with_texts terms (terms_from offset 0 rest) ≡ Err (EmptyTerm offset)
empty_term terms offset [] some no_space empty = absurd (true≢false some)
empty_term terms offset (b ∷ bs) some no_space empty =
    let p : is_space b ≡ false = ne_eqb b 32 (λ e. no_space bs (ap (λ c. c ∷ bs) e)) in
    rw (p, empty)

-- a term with a text
pub next_term : (terms : List Term) (offset : ℕ) (rest : List ℕ) → (length rest == 0) ≡ false → ((r : List ℕ) → rest ≡ 32 ∷ r → ⊥)
    → (length (term_before rest).term.text == 0) ≡ false
    → with_texts terms (terms_from offset 0 rest)
    ≡ with_texts (terms ++ (term_before rest).term ∷ []) (terms_from (offset + (length rest - length (term_before rest).following)) 0 (term_before rest).following)
next_term terms offset [] some no_space full = absurd (true≢false some)
next_term terms offset (b ∷ bs) some no_space full =
    let p : is_space b ≡ false = ne_eqb b 32 (λ e. no_space bs (ap (λ c. c ∷ bs) e)) in
    let following = behind_term (b ∷ bs) in
    let within = following.within in
    let long = some_length (length (term_before (b ∷ bs)).term.text) full in
    let fits : 0 < length following.front = omega (arith, within, long) in
    rw (p, full) (ap (with_texts (terms ++ (term_before (b ∷ bs)).term ∷ [])) (past_term b bs (term_before (b ∷ bs)).following following.front offset following.joined fits))

-- what is following a term with a text is shorter
pub shorter : (rest : List ℕ) → (length (term_before rest).term.text == 0) ≡ false → length (term_before rest).following < length rest
shorter rest full =
    let following = behind_term rest in
    let within = following.within in
    let long = some_length (length (term_before rest).term.text) full in
    omega (arith, within, long, ap length following.joined, length-append following.front (term_before rest).following)

-- ---- the end of a text

pub no_terms : (terms : List Term) (offset : ℕ) (rest : List ℕ) (whole : Result (List Term) FindFail) → length rest ≡ 0 → length terms ≡ 0
    → with_texts terms (terms_from offset 0 rest) ≡ whole → one_at_least whole ≡ Err (EmptyTerm 0)
no_terms [] offset [] whole ended none is = ap one_at_least (sym is)
no_terms terms offset (b ∷ bs) whole ended none is = absurd (omega arith)
no_terms (t ∷ ts) offset rest whole ended none is = absurd (omega arith)

pub some_terms : (terms : List Term) (offset : ℕ) (rest : List ℕ) (whole : Result (List Term) FindFail) → length rest ≡ 0 → (length terms ≡ 0 → ⊥)
    → with_texts terms (terms_from offset 0 rest) ≡ whole → one_at_least whole ≡ Ok terms
some_terms [] offset rest whole ended some is = absurd (some refl)
some_terms (t ∷ ts) offset [] whole ended some is = ap one_at_least (sym is)
some_terms (t ∷ ts) offset (b ∷ bs) whole ended some is = absurd (omega arith)

-- a test of a length
pub no_length : (n : ℕ) → (n == 0) ≡ true → n ≡ 0
no_length n h = grind (arith, nat_tests)
