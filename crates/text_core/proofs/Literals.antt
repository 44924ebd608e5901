-- Raw markup without escapes stands for itself.
use Rattle.std.proofs.Common.{ℕ, ◌≡◌, Bool, true, false, not, ◌&&◌, ◌||◌, eqb, List, [], ◌∷◌, refl, arith}
use Rattle.std.proofs.lemmas.Bool.Decides.{nat_tests}
use Rattle.std.proofs.lemmas.Bool.{or_parts}
use Rattle.std.specs.List.{list_all, list_any}
use Rattle.markup_grammar.specs.Escapes.{plain, unescaped, unescaped_from, plainly_given, place_after_text}
use Rattle.text_forms.specs.Texts.{is_literal}

first_literal : (b : ℕ) (rest : List ℕ) → list_all is_literal (b ∷ rest) ≡ true → is_literal b ≡ true
first_literal b rest h = grind (arith, nat_tests)

rest_literal : (b : ℕ) (rest : List ℕ) → list_all is_literal (b ∷ rest) ≡ true → list_all is_literal rest ≡ true
rest_literal b rest h = grind (arith, nat_tests)

given_itself : (b : ℕ) → is_literal b ≡ true → plainly_given b ≡ b ∷ []
given_itself b h = grind (arith, nat_tests)

stays_plain : (b : ℕ) → is_literal b ≡ true → place_after_text b ≡ plain
stays_plain b h = grind (arith, nat_tests)

pub literal_text : (raw : List ℕ) → list_all is_literal raw ≡ true → unescaped raw ≡ raw
unfolding unescaped_from
literal_text [] h = refl
literal_text (b ∷ rest) h =
    let one = first_literal b rest h in
    let more : unescaped rest ≡ rest = literal_text rest (rest_literal b rest h) in
    rw (given_itself b one, stays_plain b one, more) refl

neither : (amp return more rest : Bool) → amp ≡ false → not more ≡ rest → not (return || more) ≡ ((not amp && not return) && rest)
neither amp true more rest e same = rw e refl
neither amp false more rest e same = rw e same

-- where no `&` is in raw markup, a carriage return decides
pub literal_tests : (raw : List ℕ) → list_any (λ b. eqb b 38) raw ≡ false → not (list_any (λ b. eqb b 13) raw) ≡ list_all is_literal raw
literal_tests [] e = refl
literal_tests (b ∷ rest) e =
    let parts = or_parts (eqb b 38) (list_any (λ b. eqb b 38) rest) e in
    neither (eqb b 38) (eqb b 13) (list_any (λ b. eqb b 13) rest) (list_all is_literal rest) parts.0 (literal_tests rest parts.1)
