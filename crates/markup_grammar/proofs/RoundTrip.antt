-- What is written for a text stands for that text: byte by byte, by a table of the bytes that are not written as they are.
use Rattle.std.proofs.Common.{◌≡◌, ℕ, zero, suc, ◌<◌, ◌≤◌, Bool, true, false, ◌&&◌, ◌⊎◌, inl, inr, eqb, List, [], ◌∷◌, ◌++◌, refl, ap, sym, ◌∙◌, append_assoc, arith, bytes_eq, true≢false}
use Rattle.std.proofs.lemmas.Bool.{ne_eqb, cases_lt}
use Rattle.std.proofs.lemmas.Bool.Decides.{nat_tests}
use Rattle.std.proofs.lemmas.Slice.Eq.{bytes_eq-Decides}
use lib.Utf8.{encode}
use Rattle.markup_grammar.specs.Escapes.{Place, plain, returned, reference, bytes_given, place_after, unescaped, unescaped_from, character_of_reference, character_by_number, escaped, escaped_byte}

-- where one is past these bytes
abbrev pub past : Place → List ℕ → Place
past place [] = place
past place (b ∷ bs) = past (place_after place b) bs

-- raw text goes on where a front of it ends
pub unescaped_from-append : (place : Place) (xs ys : List ℕ) → unescaped_from place (xs ++ ys) ≡ unescaped_from place xs ++ unescaped_from (past place xs) ys
unfolding unescaped_from
unescaped_from-append place [] ys = refl
unescaped_from-append place (b ∷ xs) ys =
    ap (λ r. bytes_given place b ++ r) (unescaped_from-append (place_after place b) xs ys)
    ∙ sym (append_assoc (bytes_given place b) (unescaped_from (place_after place b) xs) (unescaped_from (past (place_after place b) xs) ys))

abbrev is_plain : Place → Bool
is_plain plain = true
is_plain returned = false
is_plain (reference name) = false

plain_if : (place : Place) → is_plain place ≡ true → place ≡ plain
plain_if plain e = refl
plain_if returned e = absurd (true≢false (sym e))
plain_if (reference name) e = absurd (true≢false (sym e))

-- what is written for the byte stands for it, and leaves one in plain text
abbrev returns_byte : ℕ → Bool
returns_byte b = bytes_eq (unescaped_from plain (escaped_byte b)) (b ∷ []) && is_plain (past plain (escaped_byte b))

abbrev all_below : (ℕ → Bool) → ℕ → Bool
all_below test zero = true
all_below test (suc n) = test n && all_below test n

and_both : (a b : Bool) → a && b ≡ true → (a ≡ true) × (b ≡ true)
and_both true b e = (refl, e)
and_both false b e = absurd (true≢false (sym e))

below_suc : (b n : ℕ) → b < suc n → (b ≡ n) ⊎ (b < n)
below_suc b n h = elim (cases_lt b n) [ inl low ↦ inr low | inr high ↦ inl (omega arith) ]

all_below-at : (test : ℕ → Bool) (n b : ℕ) → all_below test n ≡ true → b < n → test b ≡ true
all_below-at test zero b all h = absurd (omega arith)
all_below-at test (suc n) b all h =
    elim (below_suc b n h) [
      | inl e ↦ ap test e ∙ (and_both (test n) (all_below test n) all).0
      | inr low ↦ all_below-at test n b (and_both (test n) (all_below test n) all).1 low
    ]

table : all_below returns_byte 64 ≡ true
unfolding unescaped_from escaped_byte character_of_reference character_by_number encode
table = refl

pub record Returns (b : ℕ) : Type 0 where
  pub byte : unescaped_from plain (escaped_byte b) ≡ b ∷ []
  pub place : past plain (escaped_byte b) ≡ plain

low_returns : (b : ℕ) → b < 64 → Returns b
low_returns b h =
    let both = and_both (bytes_eq (unescaped_from plain (escaped_byte b)) (b ∷ [])) (is_plain (past plain (escaped_byte b))) (all_below-at returns_byte 64 b table h) in
    record {
      byte = (bytes_eq-Decides (unescaped_from plain (escaped_byte b)) (b ∷ [])).0 both.0;
      place = plain_if (past plain (escaped_byte b)) both.1;
    }

differs : (b n : ℕ) → 64 ≤ b → n < 64 → eqb b n ≡ false
differs b n high low = ne_eqb b n (λ e. omega arith)

high_same : (b : ℕ) → 64 ≤ b → escaped_byte b ≡ b ∷ []
unfolding escaped_byte
high_same b h = grind (arith, nat_tests)

pub returns_all : (b : ℕ) → Returns b
unfolding unescaped_from
returns_all b =
    elim (cases_lt b 64) [
      | inl low ↦ low_returns b low
      | inr high ↦ record {
        byte = rw (high_same b high, differs b 38 high (omega arith), differs b 13 high (omega arith)) refl;
        place = rw (high_same b high, differs b 38 high (omega arith), differs b 13 high (omega arith)) refl;
      }
    ]

pub round_trip_lem : (text : List ℕ) → unescaped (escaped text) ≡ text
unfolding unescaped_from
round_trip_lem [] = refl
round_trip_lem (b ∷ text) =
    unescaped_from-append plain (escaped_byte b) (escaped text)
    ∙ (rw ((returns_all b).byte, (returns_all b).place) (ap (λ r. b ∷ r) (round_trip_lem text)))
