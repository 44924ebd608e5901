-- How many bytes a text takes at most as it is written.
use Rattle.std.proofs.Common.{ℕ, ◌*◌, ◌≤◌, List, [], ◌∷◌, length, length-append, arith}
use Rattle.std.proofs.lemmas.Bool.Decides.{nat_tests}
use Rattle.markup_grammar.specs.Escapes.{escaped, escaped_byte}

byte_most : (b : ℕ) → length (escaped_byte b) ≤ 6
unfolding escaped_byte
byte_most b = grind (arith, nat_tests)

-- six for each of its bytes
pub escaped_most : (text : List ℕ) → length (escaped text) ≤ 6 * length text
escaped_most [] = omega arith
escaped_most (b ∷ rest) = omega (arith, length-append (escaped_byte b) (escaped rest), byte_most b, escaped_most rest)
