use Rattle.std.proofs.Common.{◌≡◌, refl, ap, ◌∙◌, ℕ, ◌+◌, ◌*◌, ◌%◌, ◌==◌, cond, false, List, [], ◌∷◌, ◌++◌, length, All, Some, None, Ok, arith, append_assoc}
use Rattle.std.specs.List.{before_last}
use Rattle.std.proofs.lemmas.List.{append-nil}
use Rattle.std.proofs.lemmas.List.Elements.{All-head, All-nil, All-tail}
use Rattle.line_words.specs.Spelling.{HasNoQuote, quoted_line, quoted_word}
use Rattle.line_words.specs.Words.{is_quote, pieces_of, words_unless, words_in}
use Rattle.line_words.proofs.Pieces.{in_quotes_joined}
use Rattle.line_words.proofs.Quotes.{first_quote, quotes_in, quotes_joined}
use Rattle.line_words.proofs.laws.quoted_words_are_read.Goals as goal

-- a word has two quotation marks
two : (word : List ℕ) → HasNoQuote word → quotes_in (quoted_word word) ≡ 2
two word none = first_quote [] (word ++ 34 ∷ []) (All-nil (λ b. is_quote b ≡ false)) ∙ ap (λ n. 1 + n) (first_quote word [] none)

two_each : (words : List (List ℕ)) → All HasNoQuote words → quotes_in (quoted_line words) ≡ 2 * length words
two_each [] none = refl
two_each (word ∷ []) none = two word (All-head HasNoQuote word [] none)
two_each (word ∷ next ∷ words) none =
    omega (
      arith,
      quotes_joined (quoted_word word) (32 ∷ quoted_line (next ∷ words)),
      two word (All-head HasNoQuote word (next ∷ words) none),
      two_each (next ∷ words) (All-tail HasNoQuote word (next ∷ words) none),
    )

-- a word is what is in its quotation marks
read : (words : List (List ℕ)) → All HasNoQuote words → words_in (pieces_of false (quoted_line words)) ≡ words
read [] none = refl
read (word ∷ []) none =
    in_quotes_joined None word [] (All-head HasNoQuote word [] none) ∙ ap (λ w. w ∷ []) (append-nil word)
read (word ∷ next ∷ words) none =
    let rest = quoted_line (next ∷ words) in
    ap (λ line. words_in (pieces_of false (34 ∷ line))) (append_assoc word (34 ∷ []) (32 ∷ rest))
    ∙ in_quotes_joined None word (32 ∷ rest) (All-head HasNoQuote word (next ∷ words) none)
    ∙ ap (λ w. w ∷ words_in (pieces_of false rest)) (append-nil word)
    ∙ ap (λ ws. word ∷ ws) (read (next ∷ words) (All-tail HasNoQuote word (next ∷ words) none))

pub returns : goal.returns
returns c = λ words none.
    let even : quotes_in (quoted_line words) % 2 ≡ 0 = omega (arith, two_each words none) in
    ap (λ n. words_unless (cond (n == 0) None (Some (length (before_last is_quote (quoted_line words))))) (words_in (pieces_of false (quoted_line words)))) even
    ∙ ap Ok (read words none)
