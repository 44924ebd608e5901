-- How the pieces of a line go on with the word that has begun.
use Rattle.std.proofs.Common.{◌≡◌, refl, sym, ap, ◌∙◌, ℕ, Bool, true, false, cond, not, ◌&&◌, ◌==◌, List, [], ◌∷◌, ◌++◌, length, Option, Some, None, append_assoc, true≢false}
use Rattle.std.specs.Prelude.{unwrap_or}
use Rattle.std.specs.List.{onto_first}
use Rattle.std.specs.Option.{option_to_list}
use Rattle.std.proofs.lemmas.List.{append-nil}
use Rattle.std.proofs.lemmas.List.Elements.{All-head, All-tail, filter-append}
use Rattle.line_words.specs.inside.Reading.{HasNoSpace, SeenWords, joined_words, with_end, with_part, words_with}
use Rattle.line_words.specs.Spelling.{HasNoQuote}
use Rattle.line_words.specs.Words.{is_quote, is_space, pieces_of, without_quotes, words_in}
use Rattle.line_words.proofs.Quotes.{NoQuote}

-- ---- bytes

-- a byte is no space
abbrev NoSpace : ℕ → Type 0
NoSpace b = is_space b ≡ false

-- what has begun of a word
abbrev text_of : Option (List ℕ) → List ℕ
text_of word = unwrap_or word []

-- a byte of a piece belongs to the word, unless it is a quotation mark
byte_joined : (b : ℕ) (word : Option (List ℕ)) (pieces : List (List ℕ))
    → joined_words word (onto_first b pieces) ≡ joined_words (Some (text_of word ++ without_quotes (b ∷ []))) pieces
byte_joined b None [] = refl
byte_joined b None (piece ∷ pieces) =
    ap (λ w. w ∷ words_in pieces) (filter-append (λ c. not (is_quote c)) (b ∷ []) piece)
byte_joined b (Some word) [] = refl
byte_joined b (Some word) (piece ∷ pieces) =
    ap (λ w. w ∷ words_in pieces)
    (ap (λ w. word ++ w) (filter-append (λ c. not (is_quote c)) (b ∷ []) piece)
    ∙ sym (append_assoc word (without_quotes (b ∷ [])) (without_quotes piece)))

-- any other byte
other_joined : (b : ℕ) (word : Option (List ℕ)) (pieces : List (List ℕ)) → is_quote b ≡ false
    → joined_words word (onto_first b pieces) ≡ joined_words (Some (text_of word ++ b ∷ [])) pieces
other_joined b word pieces other =
    byte_joined b word pieces
    ∙ ap (λ (x : Bool). joined_words (Some (text_of word ++ cond (not x) (b ∷ []) [])) pieces) other

-- a byte outside of quotation marks, and one within them
plain_byte : (b : ℕ) (bs : List ℕ) (word : Option (List ℕ)) → is_quote b ≡ false → is_space b ≡ false
    → joined_words word (pieces_of false (b ∷ bs)) ≡ joined_words (Some (text_of word ++ b ∷ [])) (pieces_of false bs)
plain_byte b bs word no_quote no_space =
    ap (λ (x : Bool). joined_words word (cond (x && true) ([] ∷ pieces_of false bs) (onto_first b (pieces_of (cond (is_quote b) true false) bs)))) no_space
    ∙ ap (λ (x : Bool). joined_words word (onto_first b (pieces_of (cond x true false) bs))) no_quote
    ∙ other_joined b word (pieces_of false bs) no_quote

quoted_byte : (b : ℕ) (bs : List ℕ) (word : Option (List ℕ)) → is_quote b ≡ false
    → joined_words word (pieces_of true (b ∷ bs)) ≡ joined_words (Some (text_of word ++ b ∷ [])) (pieces_of true bs)
quoted_byte b bs word no_quote =
    ap (λ (x : Bool). joined_words word (cond x ([] ∷ pieces_of true bs) (onto_first b (pieces_of (cond (is_quote b) false true) bs)))) (none (is_space b))
    ∙ ap (λ (x : Bool). joined_words word (onto_first b (pieces_of (cond x false true) bs))) no_quote
    ∙ other_joined b word (pieces_of true bs) no_quote
  where
    none : (x : Bool) → (x && false) ≡ false
    none true = refl
    none false = refl

-- ---- parts

-- a part more of a word, byte by byte
part_more : (word part : List ℕ) (b : ℕ) (pieces : List (List ℕ))
    → joined_words (Some ((word ++ b ∷ []) ++ part)) pieces ≡ joined_words (Some (word ++ b ∷ part)) pieces
part_more word part b pieces = ap (λ w. joined_words (Some w) pieces) (append_assoc word (b ∷ []) part)

plain_part : (word run following : List ℕ) → HasNoQuote run → HasNoSpace run
    → joined_words (Some word) (pieces_of false (run ++ following)) ≡ joined_words (Some (word ++ run)) (pieces_of false following)
plain_part word [] following no_quote no_space =
    ap (λ w. joined_words (Some w) (pieces_of false following)) (sym (append-nil word))
plain_part word (b ∷ bs) following no_quote no_space =
    plain_byte b (bs ++ following) (Some word) (All-head NoQuote b bs no_quote) (All-head NoSpace b bs no_space)
    ∙ plain_part (word ++ b ∷ []) bs following (All-tail NoQuote b bs no_quote) (All-tail NoSpace b bs no_space)
    ∙ part_more word bs b (pieces_of false following)

quoted_part : (word part following : List ℕ) → HasNoQuote part
    → joined_words (Some word) (pieces_of true (part ++ 34 ∷ following)) ≡ joined_words (Some (word ++ part)) (pieces_of false following)
quoted_part word [] following no_quote = byte_joined 34 (Some word) (pieces_of false following)
quoted_part word (b ∷ bs) following no_quote =
    quoted_byte b (bs ++ 34 ∷ following) (Some word) (All-head NoQuote b bs no_quote)
    ∙ quoted_part (word ++ b ∷ []) bs following (All-tail NoQuote b bs no_quote)
    ∙ part_more word bs b (pieces_of false following)

-- what is in quotation marks, whatever has begun
pub in_quotes_joined : (word : Option (List ℕ)) (part following : List ℕ) → HasNoQuote part
    → joined_words word (pieces_of false (34 ∷ (part ++ 34 ∷ following))) ≡ joined_words (Some (text_of word ++ part)) (pieces_of false following)
in_quotes_joined word part following no_quote =
    byte_joined 34 word (pieces_of true (part ++ 34 ∷ following))
    ∙ ap (λ w. joined_words (Some w) (pieces_of true (part ++ 34 ∷ following))) (append-nil (text_of word))
    ∙ quoted_part (text_of word) part following no_quote

-- ---- what is read

pub run_read : (run following : List ℕ) (read : SeenWords) → HasNoQuote run → HasNoSpace run → (length run == 0) ≡ false
    → words_with (with_part run read) following ≡ words_with read (run ++ following)
run_read [] following read no_quote no_space some = absurd (true≢false some)
run_read (b ∷ bs) following read no_quote no_space some =
    ap (λ words. read.ended_words ++ words)
    (sym (plain_byte b (bs ++ following) read.begun_word (All-head NoQuote b bs no_quote) (All-head NoSpace b bs no_space)
    ∙ plain_part (text_of read.begun_word ++ b ∷ []) bs following (All-tail NoQuote b bs no_quote) (All-tail NoSpace b bs no_space)
    ∙ part_more (text_of read.begun_word) bs b (pieces_of false following)))

pub quoted_read : (part following : List ℕ) (read : SeenWords) → HasNoQuote part
    → words_with (with_part part read) following ≡ words_with read (34 ∷ (part ++ 34 ∷ following))
quoted_read part following read no_quote =
    ap (λ words. read.ended_words ++ words) (sym (in_quotes_joined read.begun_word part following no_quote))

-- a space ends a word
pub end_read : (following : List ℕ) (read : SeenWords) → words_with (with_end read) following ≡ words_with read (32 ∷ following)
end_read following read = by read.begun_word
  where
    by : (word : Option (List ℕ)) → (read.ended_words ++ option_to_list word) ++ words_in (pieces_of false following) ≡ read.ended_words ++ joined_words word ([] ∷ pieces_of false following)
    by None = ap (λ words. words ++ words_in (pieces_of false following)) (append-nil read.ended_words)
    by (Some word) = append_assoc read.ended_words (word ∷ []) (words_in (pieces_of false following))
        ∙ ap (λ w. read.ended_words ++ w ∷ words_in (pieces_of false following)) (sym (append-nil word))
