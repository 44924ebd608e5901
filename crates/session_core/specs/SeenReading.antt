-- What is seen of what a line of a session asks for, in memory.
use Rattle.std.specs.Prelude.{◌≡◌, ℕ, true, List, Option, Some, Result, Ok, Err, IfSome}
use Rattle.cli_messages.specs.declared.answers.Stop.{Stop}
use Rattle.cli_messages.specs.declared.answers.Stop.TheVariants.{Refused, FileFault, InputFault, NoMemory}
use Rattle.cli_profiles.specs.Profiles.{IsProfile}
use Rattle.cli_needs.specs.declared.command.Command.{Command}
use Rattle.cli_needs.specs.Needs.{generated_by, target_access, target_of}
use Rattle.cli_sessions.specs.SessionLines.{in_session}
use Rattle.cli_sessions.specs.declared.opening.SessionDatabase.{SessionDatabase}
use Rattle.cli_lines.specs.Lines.{AreTextLines}
use Rattle.cli_lines.specs.SeenLines.{last_seen}
use Rattle.session_core.specs.Reading.{LineRead, LineRequest, LineWords, asks, ends, nothing}
use Rattle.session_core.specs.Reading as said
use Rattle.session_core.specs.declared.reading.LineRequest as memory
use Rattle.session_core.specs.declared.reading.LineRequest.TheVariants.{Ends, Nothing, Asks}
use Rattle.session_core.specs.declared.reading.LineWords as words
use Rattle.session_core.specs.declared.reading.LineWords.TheVariants.{Quits, Passes, Commands}

-- What the words of a line say.
abbrev pub words_seen : words.LineWords → LineWords
words_seen Quits = said.quits
words_seen Passes = said.passes
words_seen (Commands command) = said.commands command

-- A command fits a session: it is one of those that a line may have, over the database of the
-- session, and a password that it asks to be generated can be.
pub record FitsSession (database : SessionDatabase) (command : Command) : Type 0 where
  pub kind : in_session command ≡ true
  pub file : target_of command ≡ database.file
  pub plain : (target_access command).plain ≡ database.access.plain
  pub profile : IfSome (generated_by command) IsProfile

-- A command that words say fits the session.
abbrev pub Fits : SessionDatabase → words.LineWords → Type 0
Fits database Quits = Unit {0}
Fits database Passes = Unit {0}
Fits database (Commands command) = FitsSession database command

-- What a line asks for, with the bytes of its lines.
abbrev pub request_seen : memory.LineRequest → LineRequest
request_seen Ends = ends
request_seen Nothing = nothing
request_seen (Asks command last) = asks command (last_seen last)

-- What a line asks for can be carried out in the session: its command fits it, and the lines after it
-- are text.
abbrev pub IsAsked : SessionDatabase → memory.LineRequest → Type 0
IsAsked database Ends = Unit {0}
IsAsked database Nothing = Unit {0}
IsAsked database (Asks command last) = FitsSession database command
    × AreTextLines (last_seen last).more (last_seen last).otp (last_seen last).fields

-- A line was read as is defined, or reading stopped.
abbrev pub Reads : Result memory.LineRequest Stop → ℕ → Option (List ℕ) → LineRead → Type 0
Reads (Ok request) number left defined = (defined.answer ≡ Ok (request_seen request))
    × (number ≡ defined.number) × (left ≡ Some defined.left)
Reads (Err (Refused refusal)) number left defined = (defined.answer ≡ Err refusal)
    × (number ≡ defined.number) × (left ≡ Some defined.left)
Reads (Err (FileFault name)) number left defined = Unit {0}
Reads (Err InputFault) number left defined = Unit {0}
Reads (Err NoMemory) number left defined = Unit {0}
