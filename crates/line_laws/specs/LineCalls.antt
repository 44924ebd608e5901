-- That a line of a session is a call in words, each statement by itself.
use Rattle.std.specs.Prelude.{◌≡◌, ◌++◌, ◌∷◌, ℕ, true, false, IfSome, List, Some, Ok}
use Rattle.cli_options.specs.declared.names.CommandName.{CommandName}
use Rattle.cli_options.specs.Options.{command_named}
use Rattle.cli_options.specs.Said.{is_option, with_words}
use Rattle.cli_needs.specs.declared.command.Access.{Access}
use Rattle.cli_needs.specs.declared.command.Command.{Command}
use Rattle.cli_needs.specs.Needs.{needs_of}
use Rattle.cli_parse.specs.Words.{command_of}
use Rattle.cli_lines.specs.Lines.{Lines, lines_of}
use Rattle.cli_sessions.specs.SessionLines.{access_words, at_database, is_line_name, line_command, repeats_access}
use Rattle.keepass_call.specs.Outcome.{World, command_answer}
use Rattle.session_laws.specs.Calls.{call_answer}

-- Words that are a command give what a single call of it gives with the lines that the input has
-- for it, over the same files and dice.
abbrev pub LinesAreSingleCalls : Type 0
LinesAreSingleCalls = (words : List (List ℕ)) (command : Command) (lines : Lines) (time : ℕ)
    (world : World) → command_of words ≡ Ok command
    → (lines_of (needs_of command) world.input).answer ≡ Ok lines
    → command_answer words time world ≡ call_answer command lines time world.files world.dice

-- The words of a line as a call: its name, how its session opened its database, and its file before
-- the other words.
abbrev pub call_words : Access → (file name : List ℕ) → List (List ℕ) → List (List ℕ)
call_words access file name words = name ∷ access_words access ++ file ∷ words

-- So do the words of a line as a call, if its name is no option and it says nothing that its
-- session has settled.
abbrev pub LinesAreCallsInWords : Type 0
LinesAreCallsInWords = (access : Access) (file name : List ℕ) (words : List (List ℕ))
    (called : CommandName) (command : Command) (lines : Lines) (time : ℕ) (world : World)
    → command_named name ≡ Some called → is_line_name called ≡ true → is_option file ≡ false
    → IfSome (with_words called words (at_database file))
    (λ said. repeats_access access said ≡ false)
    → line_command access file (name ∷ words) ≡ Ok command
    → (lines_of (needs_of command) world.input).answer ≡ Ok lines
    → command_answer (call_words access file name words) time world
    ≡ call_answer command lines time world.files world.dice
