-- The words of a typed line: what stands between its spaces, but for those in quotation marks.
use Rattle.std.specs.Prelude.{ℕ, ◌%◌, Bool, true, false, not, ◌&&◌, ◌==◌, if◌then◌else◌, List, [], ◌∷◌, length, map, Option, None, Some, Result, Ok, Err}
use Rattle.std.specs.List.{before_last, count_by, filter, onto_first}

-- A space.
abbrev pub is_space : ℕ → Bool
is_space b = b == 32

-- A quotation mark.
abbrev pub is_quote : ℕ → Bool
is_quote b = b == 34

-- The pieces of a line between its spaces, where the line begins in quotation marks or outside of
-- them. A quotation mark begins or ends what is quoted, and a space that is quoted is part of its
-- piece.
abbrev pub pieces_of : Bool → List ℕ → List (List ℕ)
pieces_of quoted [] = [] ∷ []
pieces_of quoted (b ∷ bs) =
    if is_space b && not quoted then [] ∷ pieces_of quoted bs
    else onto_first b (pieces_of (if is_quote b then not quoted else quoted) bs)

-- A piece is not empty.
abbrev pub is_not_empty : List ℕ → Bool
is_not_empty [] = false
is_not_empty (b ∷ bs) = true

-- A piece without its quotation marks.
abbrev pub without_quotes : List ℕ → List ℕ
without_quotes piece = filter (λ b. not (is_quote b)) piece

-- The words that pieces are: each that is not empty, without its quotation marks.
abbrev pub words_in : List (List ℕ) → List (List ℕ)
words_in pieces = map without_quotes (filter is_not_empty pieces)

-- The offset of the quotation mark that has no closing one. They open and close in turn, so it is
-- the last of an odd number.
abbrev pub open_quote : List ℕ → Option ℕ
open_quote line =
    if count_by is_quote line % 2 == 0 then None
    else Some (length (before_last is_quote line))

-- Words, unless a quotation mark is open.
abbrev pub words_unless : Option ℕ → List (List ℕ) → Result (List (List ℕ)) ℕ
words_unless None words = Ok words
words_unless (Some quote) words = Err quote

-- The words of a line, or the offset of the quotation mark that has no closing one.
abbrev pub line_words : List ℕ → Result (List (List ℕ)) ℕ
line_words line = words_unless (open_quote line) (words_in (pieces_of false line))
