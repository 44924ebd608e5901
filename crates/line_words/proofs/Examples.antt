-- Words of some lines.
use Rattle.std.proofs.Common.{◌≡◌, refl, [], ◌∷◌, codes, Ok, Err}
use Rattle.line_words.specs.Words.{line_words}

one_word : line_words (codes "ls") ≡ Ok (codes "ls" ∷ [])
one_word = refl

-- Quotation marks alone are an empty word, and several spaces are as one.
quoted_words : line_words (codes " ls  \"a b\"c \"\"") ≡ Ok (codes "ls" ∷ codes "a bc" ∷ [] ∷ [])
quoted_words = refl

-- A quotation mark ends no word.
within_a_word : line_words (codes "a\"b c\"d e\"\"f") ≡ Ok (codes "ab cd" ∷ codes "ef" ∷ [])
within_a_word = refl

-- A tab is a byte as any other.
tab : line_words (codes "a\tb ") ≡ Ok (codes "a\tb" ∷ [])
tab = refl

no_line : line_words [] ≡ Ok []
no_line = refl

spaces : line_words (codes "  ") ≡ Ok []
spaces = refl

open_at_the_end : line_words (codes "ls \"") ≡ Err 3
open_at_the_end = refl

-- The third quotation mark has no closing one.
third_is_open : line_words (codes "\"a\" b\"c d") ≡ Err 5
third_is_open = refl
