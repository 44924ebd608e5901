-- What a line of a session asks for, before its command is carried out.
use Rattle.std.specs.Prelude.{ℕ, ◌+◌, Bool, false, ◌||◌, if◌then◌else◌, List, [], ◌∷◌, codes, Option, None, Some, Result, Ok, Err}
use Rattle.std.specs.Str.{bytes_eq}
use Rattle.cli_messages.specs.declared.answers.Reason.TheVariants.{WrongWords}
use Rattle.cli_messages.specs.declared.answers.Refusal.{Refusal}
use Rattle.cli_messages.specs.Messages.{refusal_of}
use Rattle.cli_needs.specs.declared.command.Command.{Command}
use Rattle.cli_needs.specs.Needs.{needs_of}
use Rattle.cli_lines.specs.Lines.{LastLines, last_lines, next_line, number_after_last}
use Rattle.line_words.specs.Words.{line_words}
use Rattle.cli_sessions.specs.SessionLines.{line_command}
use Rattle.cli_sessions.specs.declared.opening.SessionDatabase.{SessionDatabase}

-- What the words of a line say: the session ends, the line is passed over, or a command.
pub data LineWords : Type 0 where
  quits : LineWords
  passes : LineWords
  commands : Command → LineWords

-- `quit` or `exit` alone.
abbrev pub is_quit : List (List ℕ) → Bool
is_quit (word ∷ []) = bytes_eq word (codes "quit") || bytes_eq word (codes "exit")
is_quit words = false

-- A command, if the words are one.
abbrev pub command_said : Result Command Refusal → Result LineWords Refusal
command_said (Ok command) = Ok (commands command)
command_said (Err refusal) = Err refusal

-- What these words of a line say. A line without a word is passed over.
abbrev pub words_said : SessionDatabase → List (List ℕ) → Result LineWords Refusal
words_said database [] = Ok passes
words_said database (word ∷ words) = if is_quit (word ∷ words) then Ok quits
    else command_said (line_command database.access database.file (word ∷ words))

-- What words say that a line is cut into. An unclosed quotation mark makes wrong words.
abbrev pub cut_said : SessionDatabase → Result (List (List ℕ)) ℕ → Result LineWords Refusal
cut_said database (Ok words) = words_said database words
cut_said database (Err offset) = Err (refusal_of WrongWords (codes "words"))

-- What a line of these bytes says.
abbrev pub line_said : SessionDatabase → List ℕ → Result LineWords Refusal
line_said database line = cut_said database (line_words line)

-- What a line asks for: that the session ends, nothing, or a command with the lines after it.
pub data LineRequest : Type 0 where
  ends : LineRequest
  nothing : LineRequest
  asks : Command → LastLines → LineRequest

-- What reading a line gives, or the first refusal; the number of the next line, and what is left of
-- the input.
pub record LineRead : Type 0 where
  pub answer : Result LineRequest Refusal
  pub number : ℕ
  pub left : List ℕ

-- The same, part by part.
abbrev pub read_so : Result LineRequest Refusal → ℕ → List ℕ → LineRead
read_so answer number left = record { answer = answer; number = number; left = left }

-- A command with the lines after it, or their refusal.
abbrev pub read_by_last : Command → ℕ → Result LastLines Refusal → List ℕ → LineRead
read_by_last command number (Ok last) left =
    read_so (Ok (asks command last)) (number_after_last (needs_of command) number) left
read_by_last command number (Err refusal) left = read_so (Err refusal) number left

-- A command with the lines that it asks for, of which the first has this number.
abbrev pub last_read : Command → ℕ → List ℕ → LineRead
last_read command number input = read_by_last command number
    (last_lines number (needs_of command) input).answer
    (last_lines number (needs_of command) input).left

-- What is read after a line that said this.
abbrev pub read_by_said : Result LineWords Refusal → ℕ → List ℕ → LineRead
read_by_said (Ok quits) number left = read_so (Ok ends) number left
read_by_said (Ok passes) number left = read_so (Ok nothing) number left
read_by_said (Ok (commands command)) number left = last_read command number left
read_by_said (Err refusal) number left = read_so (Err refusal) number left

-- What is read after this line, if there is one. A session ends where its input ends.
abbrev pub read_by_line : SessionDatabase → ℕ → Result (Option (List ℕ)) Refusal → List ℕ
    → LineRead
read_by_line database number (Ok (Some line)) left =
    read_by_said (line_said database line) (number + 1) left
read_by_line database number (Ok None) left = read_so (Ok ends) number left
read_by_line database number (Err refusal) left = read_so (Err refusal) number left

-- What the next line of a session asks for, whose number is this.
abbrev pub line_read : SessionDatabase → ℕ → List ℕ → LineRead
line_read database number input =
    read_by_line database number (next_line number input).answer (next_line number input).left
