-- How a line spells any words that have no quotation mark.
use Rattle.std.specs.Prelude.{◌≡◌, ℕ, false, List, [], ◌∷◌, ◌++◌, All}
use Rattle.line_words.specs.Words.{is_quote}

-- No byte of a text is a quotation mark.
abbrev pub HasNoQuote : List ℕ → Type 0
HasNoQuote text = All (λ b. is_quote b ≡ false) text

-- A word in quotation marks.
abbrev pub quoted_word : List ℕ → List ℕ
quoted_word word = 34 ∷ word ++ 34 ∷ []

-- The line of words that are each in quotation marks, with one space between each two.
abbrev pub quoted_line : List (List ℕ) → List ℕ
quoted_line [] = []
quoted_line (word ∷ []) = quoted_word word
quoted_line (word ∷ words) = quoted_word word ++ 32 ∷ quoted_line words
