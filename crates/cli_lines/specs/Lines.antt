-- The lines that a call takes from its input.
use Rattle.std.specs.Prelude.{◌≡◌, ◌⊎◌, ◌++◌, map, ℕ, ◌+◌, Bool, true, false, ◌&&◌, ◌==◌, if◌then◌else◌, nat_lt, drop, is_some, IsSome, length, List, [], ◌∷◌, codes, Option, None, Some, Result, Ok, Err}
use Rattle.std.specs.List.{list_all}
use Rattle.std.specs.Str.{is_utf8}
use Rattle.cli_messages.specs.declared.answers.Reason.TheVariants.{LineLimit, LineForm, InputEnded}
use Rattle.cli_messages.specs.declared.answers.Refusal.{Refusal}
use Rattle.cli_needs.specs.declared.command.Access.{Access}
use Rattle.cli_needs.specs.Needs.{Needs, asks_password, asks_passwords_from}
use Rattle.cli_messages.specs.Messages.{refusal_of}
use Rattle.outside_core.specs.Results.{◌>>=◌}
use Rattle.cli_messages.specs.Phases.{StreamAnswer, then_left, with_left}

-- A line that ends here.
abbrev pub whole : List ℕ → StreamAnswer (List ℕ)
whole left = record { answer = Ok []; left = left }

-- A line that is too long.
abbrev pub too_long : List ℕ → StreamAnswer (List ℕ)
too_long left = record { answer = Err (refusal_of LineLimit (codes "input")); left = left }

-- A line with one byte more before it.
abbrev pub with_byte : ℕ → StreamAnswer (List ℕ) → StreamAnswer (List ℕ)
with_byte b taken = record { answer = taken.answer >>= λ line. Ok (b ∷ line); left = taken.left }

-- A line feed comes next.
abbrev pub ends_next : List ℕ → Bool
ends_next [] = false
ends_next (b ∷ bs) = b == 10

-- The rest of a line of which n bytes are read: up to a line feed, or a carriage return and a line
-- feed, or the end. A line has at most 4,096 bytes; what shows that it has more is read too, the
-- byte after a carriage return in the 4,097th place among it.
abbrev pub line_from : ℕ → List ℕ → StreamAnswer (List ℕ)
line_from n [] = whole []
line_from n (b ∷ bs) =
    if b == 10 then whole bs
    else (if b == 13 && ends_next bs then whole (drop 1 bs)
    else (if nat_lt n 4096 then with_byte b (line_from (n + 1) bs)
    else too_long (if b == 13 then drop 1 bs else bs)))

-- A line must be in UTF-8.
abbrev pub as_text : ℕ → List ℕ → Result (List ℕ) Refusal
as_text number line = if is_utf8 line then Ok line else Err
    (refusal_of (LineForm number) (codes "input"))

-- The line of this number, which is due.
abbrev pub line_of : ℕ → List ℕ → StreamAnswer (List ℕ)
line_of number [] = record {
  answer = Err (refusal_of (InputEnded number) (codes "input"));
  left =
      [];
}
line_of number (b ∷ bs) =
    record {
      answer = (line_from 0 (b ∷ bs)).answer >>= as_text number;
      left =
          (line_from 0 (b ∷ bs)).left;
    }

-- A line that was due.
abbrev pub some_line : StreamAnswer (List ℕ) → StreamAnswer (Option (List ℕ))
some_line taken = record { answer = taken.answer >>= λ line. Ok (Some line); left = taken.left }

-- The next line of the input, which has this number, or none at its end. A line feed alone ends a
-- line that is empty.
abbrev pub next_line : ℕ → List ℕ → StreamAnswer (Option (List ℕ))
next_line number [] = with_left (Ok None) []
next_line number (b ∷ bs) = some_line (line_of number (b ∷ bs))

-- Whether the input is at its end. A byte that comes instead is taken.
abbrev pub end_reached : List ℕ → StreamAnswer Bool
end_reached [] = with_left (Ok true) []
end_reached (b ∷ rest) = with_left (Ok false) rest

-- The line of this number, where one is due.
abbrev pub line_if : Bool → ℕ → List ℕ → StreamAnswer (Option (List ℕ))
line_if true number input = some_line (line_of number input)
line_if false number input = with_left (Ok None) input

-- The number of the line after one of this number, which may be due.
abbrev pub number_after : Bool → ℕ → ℕ
number_after due number = if due then number + 1 else number

-- The number of the line after those of sources, of which the first has this number.
abbrev pub number_after_all : Bool → List (List ℕ) → ℕ → ℕ
number_after_all due [] number = number
number_after_all due (name ∷ names) number =
    number_after_all due names (number_after due number)

-- The lines of sources, one after another, each where it is due, after those that were read. The
-- first is of this number.
abbrev pub lines_from : Bool → List (List ℕ) → ℕ → List (Option (List ℕ)) → List ℕ
    → StreamAnswer (List (Option (List ℕ)))
lines_from due [] number read input = with_left (Ok read) input
lines_from due (name ∷ names) number read input =
    then_left (line_if due number input) (λ line left.
    lines_from due names (number_after due number) (read ++ line ∷ []) left)

-- The values of fields of these names, one line after another, after those that were read. The first
-- is of this number.
abbrev pub field_lines : List (List ℕ) → ℕ → List (List ℕ) → List ℕ → StreamAnswer (List (List ℕ))
field_lines [] number read input = with_left (Ok read) input
field_lines (name ∷ names) number read input =
    then_left (line_of number input) (λ line left.
    field_lines names (number + 1) (read ++ line ∷ []) left)

-- The lines after all passwords, each where it is due: the one that the command asks for, the text of
-- a one-time code, and the values of fields.
pub record LastLines : Type 0 where
  pub more : Option (List ℕ)
  pub otp : Option (List ℕ)
  pub fields : List (List ℕ)

-- The lines of a call, each where it is due: the password of the database, those of its sources one
-- after another, the line that the command asks for after them, the text of a one-time code, and the
-- values of fields.
pub record Lines : Type 0 where
  pub password : Option (List ℕ)
  pub sources : List (Option (List ℕ))
  pub more : Option (List ℕ)
  pub otp : Option (List ℕ)
  pub fields : List (List ℕ)

-- The lines of databases, with the lines after them.
abbrev pub lines_with : Option (List ℕ) → List (Option (List ℕ)) → LastLines → Lines
lines_with password sources last = record {
  password = password;
  sources = sources;
  more = last.more;
  otp = last.otp;
  fields = last.fields;
}

-- The number of the line after the password of the database, if there is one.
abbrev pub number_from : Needs → ℕ
number_from needs = number_after (asks_password needs.access) 1

-- The number of the line after all passwords.
abbrev pub number_of_more : Needs → ℕ
number_of_more needs =
    number_after_all (asks_passwords_from needs) needs.sources (number_from needs)

-- The values of fields after these lines, of which the first has this number.
abbrev pub after_otp : ℕ → Needs → (more otp : Option (List ℕ)) → List ℕ → StreamAnswer LastLines
after_otp number needs more otp input =
    then_left (field_lines needs.fields number [] input) (λ fields end.
    with_left (Ok (record { more = more; otp = otp; fields = fields })) end)

-- The text of a one-time code after this line, where it is due, and the values of fields. The first
-- of these lines has this number.
abbrev pub after_more : ℕ → Needs → Option (List ℕ) → List ℕ → StreamAnswer LastLines
after_more number needs more input =
    then_left (line_if needs.has_otp number input)
    (after_otp (number_after needs.has_otp number) needs more)

-- The lines after all passwords, each where it is due. The first has this number.
abbrev pub last_lines : ℕ → Needs → List ℕ → StreamAnswer LastLines
last_lines number needs input =
    then_left (line_if needs.has_line number input)
    (after_more (number_after needs.has_line number) needs)

-- The number of the line after those, of which the first has this number.
abbrev pub number_after_last : Needs → ℕ → ℕ
number_after_last needs number =
    number_after needs.has_otp (number_after needs.has_line number) + length needs.fields

-- The lines after all passwords, and with them all lines.
abbrev pub after_passwords : Needs → Option (List ℕ) → List (Option (List ℕ)) → List ℕ
    → StreamAnswer Lines
after_passwords needs password sources input =
    then_left (last_lines (number_of_more needs) needs input) (λ last end.
    with_left (Ok (lines_with password sources last)) end)

-- The passwords of the sources, and then the lines after them.
abbrev pub after_password : Needs → Option (List ℕ) → List ℕ → StreamAnswer Lines
after_password needs password input =
    then_left (lines_from (asks_passwords_from needs) needs.sources (number_from needs) [] input)
    (after_passwords needs password)

-- The lines that a command asks for, one after another.
abbrev pub lines_of : Needs → List ℕ → StreamAnswer Lines
lines_of needs input =
    then_left (line_if (asks_password needs.access) 1 input) (after_password needs)

-- ---- lines that are there

-- Each line is there exactly where it is due.
pub record HasLines (needs : Needs) (lines : Lines) : Type 0 where
  pub has_password : is_some lines.password ≡ asks_password needs.access
  pub have_passwords : map is_some lines.sources
      ≡ map (λ name. asks_passwords_from needs) needs.sources
  pub has_more : is_some lines.more ≡ needs.has_line
  pub has_otp : is_some lines.otp ≡ needs.has_otp
  pub has_fields : length lines.fields ≡ length needs.fields

-- A line is in UTF-8, if there is one.
abbrev pub IsTextLine : Option (List ℕ) → Type 0
IsTextLine None = Unit {0}
IsTextLine (Some line) = is_utf8 line ≡ true

-- The lines after all passwords are in UTF-8, if they are there.
pub record AreTextLines (line text : Option (List ℕ)) (values : List (List ℕ)) : Type 0 where
  pub more : IsTextLine line
  pub otp : IsTextLine text
  pub fields : list_all is_utf8 values ≡ true

-- A database that is no plain document has a password or a key file.
abbrev pub CanOpen : Access → Option (List ℕ) → Type 0
CanOpen access password = access.plain ≡ false → IsSome password ⊎ IsSome access.key_file
