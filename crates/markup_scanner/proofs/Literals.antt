-- Bytes that are waited for, one after the other.
use Rattle.std.proofs.Common.{◌≡◌, ℕ, ◌+◌, ◌<◌, ◌≤◌, true, false, eqb, List, [], ◌∷◌, length, drop, get_or, refl, ap, sym, ◌∙◌, rules}
use Rattle.std.proofs.lemmas.List.{drop_more}
use Rattle.markup_grammar.specs.Answers.{form}
use Rattle.markup_grammar.specs.Machine.{State}
use Rattle.markup_scanner.specs.Left.{answers_at, StandsAt, BeginsWithout}
use Rattle.markup_scanner.specs.Scans.{Await}
use Rattle.markup_scanner.proofs.Steps.{left_on, refused, other_byte}

pub eqb_self : (b : ℕ) → eqb b b ≡ true
eqb_self b = search rules

-- the next of them does not stand there
pub literal_stops : (text : List ℕ) (s : List ℕ → ℕ → State) (least : ℕ) (bytes : List ℕ) (place i p : ℕ) → Await text s least → least ≤ place → i < length bytes → (p ≡ place) × BeginsWithout (get_or bytes i 0) (drop place text) → answers_at text (s (drop i bytes) place) place ≡ form p ∷ []
literal_stops text s least bytes place i p await le low not =
    let here : drop i bytes ≡ get_or bytes i 0 ∷ drop (i + 1) bytes = drop_more bytes i 0 low in
    ap (λ xs. answers_at text (s xs place) place) here
    ∙ (refused text (s (get_or bytes i 0 ∷ drop (i + 1) bytes) place) place
    (λ _. await.ends (get_or bytes i 0) (drop (i + 1) bytes) place)
    (λ b stand. await.turns (get_or bytes i 0) (drop (i + 1) bytes) place b le stand
    ∙ (let other : eqb b (get_or bytes i 0) ≡ false = other_byte text place b (get_or bytes i 0) stand not.1 in rw other refl))
    ∙ ap (λ n. form n ∷ []) (sym not.0))

-- the next of them stands there
pub literal_goes : (text : List ℕ) (s : List ℕ → ℕ → State) (least : ℕ) (bytes : List ℕ) (place i end : ℕ) → Await text s least → least ≤ place → i < length bytes → (end ≡ place + 1) × StandsAt text place (get_or bytes i 0) → answers_at text (s (drop i bytes) place) place ≡ answers_at text (s (drop (i + 1) bytes) end) end
literal_goes text s least bytes place i end await le low is =
    let here : drop i bytes ≡ get_or bytes i 0 ∷ drop (i + 1) bytes = drop_more bytes i 0 low in
    ap (λ xs. answers_at text (s xs place) place) here
    ∙ (left_on text (s (get_or bytes i 0 ∷ drop (i + 1) bytes) place) (s (drop (i + 1) bytes) (place + 1)) place (get_or bytes i 0) [] is.1
    (await.turns (get_or bytes i 0) (drop (i + 1) bytes) place (get_or bytes i 0) le is.1 ∙ rw (eqb_self (get_or bytes i 0)) refl)
    ∙ ap (λ n. answers_at text (s (drop (i + 1) bytes) n) n) (sym is.0))
