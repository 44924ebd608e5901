-- References as they stand in texts.
use Rattle.std.specs.Prelude.{ℕ, zero, suc, ◌+◌, ◌-◌, Bool, false, ◌||◌, ◌==◌, nat_lt, if◌then◌else◌, List, [], ◌∷◌, length, take, drop, slice_index, codes, Option, None, Some}
use Rattle.std.specs.List.{position}
use Rattle.std.specs.Option.{option_and_then, option_map}
use Rattle.std.specs.Str.{str_eq_ignore_ascii_case}
use Rattle.find_references.specs.declared.parts.Part.{Part}
use Rattle.find_references.specs.declared.parts.Part.TheVariants.{Title, UserName, Password, Url, Notes, Id}
use Rattle.find_references.specs.declared.parts.Place.{Place}
use Rattle.find_references.specs.declared.parts.Place.TheVariants.{In, OtherField}

-- A reference: which part of an entry is wanted, the place at which that entry has which text, and
-- how the whole is written.
pub record Reference : Type 0 where
  pub wanted : Part
  pub place : Place
  pub text : List ℕ
  pub written : List ℕ

-- The part of a letter, in either case.
abbrev pub part_of : ℕ → Option Part
part_of letter =
    if letter == 84 || letter == 116 then Some Title
    else (if letter == 85 || letter == 117 then Some UserName
    else (if letter == 80 || letter == 112 then Some Password
    else (if letter == 65 || letter == 97 then Some Url
    else (if letter == 78 || letter == 110 then Some Notes
    else (if letter == 73 || letter == 105 then Some Id
    else None)))))

-- The place of a letter, in either case.
abbrev pub place_of : ℕ → Option Place
place_of letter =
    if letter == 79 || letter == 111 then Some OtherField
    else option_map In (part_of letter)

-- What is before the text of a reference, `{REF:W@S:`, is there, but for what its letters W and S
-- are. Its length is nine.
abbrev pub is_opened : List ℕ → Bool
is_opened text =
    if nat_lt (length text) 9 then false
    else (if str_eq_ignore_ascii_case (take 5 text) (codes "{REF:")
    then (if slice_index text 6 == 64 then slice_index text 8 == 58 else false)
    else false)

-- A closing brace.
abbrev pub is_close : ℕ → Bool
is_close b = b == 125

-- A reference of these letters to a text of so many bytes, where that is not empty.
abbrev pub closed_reference : List ℕ → Part → Place → ℕ → Option Reference
closed_reference text wanted place n = if n == 0 then None else Some (record {
  wanted = wanted;
  place = place;
  text = take n (drop 9 text);
  written = take (10 + n) text;
})

-- The reference with which a text begins; it ends with the first closing brace.
unfoldable pub reference_at : List ℕ → Option Reference
reference_at text =
    if is_opened text then option_and_then (λ wanted. option_and_then
    (λ place. option_and_then (closed_reference text wanted place)
    (position is_close (drop 9 text)))
    (place_of (slice_index text 7))) (part_of (slice_index text 5))
    else None

-- A piece of a text: a byte, or a reference.
pub data Piece : Type 0 where
  byte : ℕ → Piece
  reference : Reference → Piece

-- The piece at a byte: the reference that begins there, or the byte.
abbrev pub piece_of : ℕ → Option Reference → Piece
piece_of b None = byte b
piece_of b (Some r) = reference r

-- How many bytes more than one a piece has.
abbrev pub more_of : Option Reference → ℕ
more_of None = 0
more_of (Some r) = length r.written - 1

-- The pieces of a text from left to right, of which so many bytes are passed over first.
abbrev pub pieces : ℕ → List ℕ → List Piece
pieces passed [] = []
pieces (suc passed) (b ∷ bs) = pieces passed bs
pieces zero (b ∷ bs) =
    let found = reference_at (b ∷ bs) in
    piece_of b found ∷ pieces (more_of found) bs
