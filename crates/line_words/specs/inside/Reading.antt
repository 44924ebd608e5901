-- What is seen of the words of a line while the line is read.
use Rattle.std.specs.Prelude.{◌≡◌, ℕ, false, List, [], ◌∷◌, ◌++◌, Option, None, Some, All, option_map, unwrap_or, string_bytes}
use Rattle.std.specs.Option.{option_to_list}
use Rattle.line_words.specs.declared.reading.ReadWords.{ReadWords}
use Rattle.line_words.specs.Words.{is_space, pieces_of, without_quotes, words_in}

-- no byte of a text is a space
abbrev pub HasNoSpace : List ℕ → Type 0
HasNoSpace text = All (λ b. is_space b ≡ false) text

-- the words that have ended, and the one that has begun
pub record SeenWords : Type 0 where
  pub ended_words : List (List ℕ)
  pub begun_word : Option (List ℕ)

-- what is seen of them in memory
abbrev pub words_seen : ReadWords → SeenWords
words_seen read = record {
  ended_words = read.ended_words;
  begun_word = option_map string_bytes read.begun_word;
}

-- a part more of the word that has begun, or the first part of one
abbrev pub with_part : List ℕ → SeenWords → SeenWords
with_part part read = record {
  ended_words = read.ended_words;
  begun_word = Some (unwrap_or read.begun_word [] ++ part);
}

-- the word that has begun has ended
abbrev pub with_end : SeenWords → SeenWords
with_end read = record {
  ended_words = read.ended_words ++ option_to_list read.begun_word;
  begun_word = None;
}

-- the words that pieces are, where a word that has begun goes on with the first piece
abbrev pub joined_words : Option (List ℕ) → List (List ℕ) → List (List ℕ)
joined_words None pieces = words_in pieces
joined_words (Some word) [] = word ∷ []
joined_words (Some word) (piece ∷ pieces) = (word ++ without_quotes piece) ∷ words_in pieces

-- the words that were read, and those of what follows outside of quotation marks
abbrev pub words_with : SeenWords → List ℕ → List (List ℕ)
words_with read following =
    read.ended_words ++ joined_words read.begun_word (pieces_of false following)
