-- The command that a line of a session asks for is over the session's database.
use Rattle.std.proofs.Common.{◌≡◌, ◌+◌, ℕ, Bool, true, false, List, [], ◌∷◌, Option, Some, None, Result, Ok, Err, refl, ap}
use Rattle.std.specs.Prelude.{if◌then◌else◌}
use Rattle.cli_messages.specs.declared.answers.Refusal.{Refusal}
use Rattle.cli_needs.specs.declared.command.Access.{Access}
use Rattle.cli_needs.specs.declared.command.Command.{Command}
use Rattle.cli_needs.specs.Needs.{needs_of, target_access, target_of}
use Rattle.cli_lines.specs.Lines.{LastLines, last_lines, next_line}
use Rattle.cli_sessions.specs.SessionLines.{in_session, line_command}
use Rattle.cli_sessions.proofs.OfSession.{of_session}
use Rattle.line_words.specs.Words.{line_words}
use Rattle.session_core.specs.Reading as request
use Rattle.session_core.specs.Reading.{LineRequest, LineWords, asks, command_said, commands, cut_said, is_quit, line_read, line_said, nothing, passes, quits, read_by_last, read_by_line, read_by_said, words_said}
use Rattle.cli_sessions.specs.declared.opening.SessionDatabase.{SessionDatabase}

-- A command is one of those of lines, over the database of the session, which it opens as the session did.
pub record IsOver (database : SessionDatabase) (command : Command) : Type 0 where
  pub kind : in_session command ≡ true
  pub file : target_of command ≡ database.file
  pub plain : (target_access command).plain ≡ database.access.plain
  pub key_file : (target_access command).key_file ≡ database.access.key_file

-- So is the command that words say, if they say one.
abbrev SaysOver : SessionDatabase → Result LineWords Refusal → Type 0
SaysOver database (Ok quits) = Unit {0}
SaysOver database (Ok passes) = Unit {0}
SaysOver database (Ok (commands command)) = IsOver database command
SaysOver database (Err refusal) = Unit {0}

-- And the one that a line asks for.
abbrev pub AsksOver : SessionDatabase → Result LineRequest Refusal → Type 0
AsksOver database (Ok request.ends) = Unit {0}
AsksOver database (Ok nothing) = Unit {0}
AsksOver database (Ok (asks command last)) = IsOver database command
AsksOver database (Err refusal) = Unit {0}

module _ (database : SessionDatabase) where
  command_over : (words : List (List ℕ)) (command : Result Command Refusal) → line_command database.access database.file words ≡ command
      → SaysOver database (command_said command)
  command_over words (Ok command) e =
      let is = of_session database.access database.file words command e in
      record {
        kind = is.kind;
        file = is.database;
        plain = ap (λ (a : Access). a.plain) is.opening;
        key_file = ap (λ (a : Access). a.key_file) is.opening;
      }
  command_over words (Err refusal) e = tt

  words_over : (words : List (List ℕ)) → SaysOver database (words_said database words)
  words_over [] = tt
  words_over (word ∷ words) = by (is_quit (word ∷ words))
    where
      by : (quit : Bool) → SaysOver database
          (if quit then Ok quits else command_said (line_command database.access database.file (word ∷ words)))
      by true = tt
      by false = command_over (word ∷ words) (line_command database.access database.file (word ∷ words)) refl

  cut_over : (words : Result (List (List ℕ)) ℕ) → SaysOver database (cut_said database words)
  cut_over (Ok words) = words_over words
  cut_over (Err offset) = tt

  last_over : (command : Command) (number : ℕ) (last : Result LastLines Refusal) (left : List ℕ) → IsOver database command
      → AsksOver database (read_by_last command number last left).answer
  last_over command number (Ok last) left h = h
  last_over command number (Err refusal) left h = tt

  said_over : (said : Result LineWords Refusal) (number : ℕ) (left : List ℕ) → SaysOver database said
      → AsksOver database (read_by_said said number left).answer
  said_over (Ok quits) number left h = tt
  said_over (Ok passes) number left h = tt
  said_over (Ok (commands command)) number left h =
      last_over command number (last_lines number (needs_of command) left).answer (last_lines number (needs_of command) left).left h
  said_over (Err refusal) number left h = tt

  line_over : (number : ℕ) (line : Result (Option (List ℕ)) Refusal) (left : List ℕ)
      → AsksOver database (read_by_line database number line left).answer
  line_over number (Ok (Some line)) left = said_over (line_said database line) (number + 1) left (cut_over (line_words line))
  line_over number (Ok None) left = tt
  line_over number (Err refusal) left = tt

  -- What a line asks for is over the database of the session.
  pub read_over : (number : ℕ) (input : List ℕ) → AsksOver database (line_read database number input).answer
  read_over number input = line_over number (next_line number input).answer (next_line number input).left
