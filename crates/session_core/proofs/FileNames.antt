-- The file that a line of a session writes is that of its database.
use Rattle.std.proofs.Common.{◌≡◌, ◌+◌, ℕ, Bool, true, false, List, [], ◌∷◌, Option, Some, None, Result, Ok, Err, refl, sym, subst}
use Rattle.std.specs.Prelude.{IfOk, IfSome, if◌then◌else◌, nat_le}
use Rattle.stream_core.specs.InnerStream.{NoKeystream}
use Rattle.vault_model.specs.Tree.{BareDoc}
use Rattle.vault_model.specs.declared.forms.DocForm.TheVariants.{Plain}
use Rattle.cli_writing.specs.DocWrite.Written.{write_outcome}
use Rattle.cli_writing.specs.DocWrite.declared.writing.WriteFail.{WriteFail}
use Rattle.kdbx_frame.specs.declared.sealings.Sealing.{Sealing}
use Rattle.call_run.specs.KdbxSeal.Answers.{size_refusal}
use Rattle.call_run.specs.KdbxSeal.Made.{made_file}
use Rattle.call_run.specs.KdbxSeal.declared.fail.SealFail.{SealFail}
use Rattle.cli_messages.specs.declared.answers.Refusal.{Refusal}
use Rattle.cli_messages.specs.Messages.{status_of}
use Rattle.cli_messages.specs.Phases.{after_left, with_left}
use Rattle.cli_needs.specs.declared.command.Command.{Command}
use Rattle.cli_needs.specs.declared.command.Command.TheVariants.{ExportAttachment}
use Rattle.cli_needs.specs.Needs.{exported_to, needs_of, target_of}
use Rattle.cli_lines.specs.Lines.{LastLines, last_lines, next_line}
use Rattle.call_run.specs.CliFiles.Tasks.{Task}
use Rattle.cli_writing.specs.Writing.{NewFile, file_or_refusal}
use Rattle.call_run.specs.CliSealing.Draws.{draws_of}
use Rattle.call_run.specs.CliSealing.Sealing.{file_by, file_unless, settings_for}
use Rattle.cli_sessions.specs.SessionLines.{in_session, line_command}
use Rattle.cli_sessions.proofs.OfSession.{of_session}
use Rattle.call_run.specs.CliCommands.Commands.{Change}
use Rattle.line_words.specs.Words.{line_words}
use Rattle.call_run.specs.Endings.{Ending, Targets, attachment_file, change_of_task, ended_so, ended_with, ending_with, new_file, targets_of}
use Rattle.session_core.specs.Reading as request
use Rattle.session_core.specs.Reading.{LineRequest, LineWords, asks, command_said, commands, cut_said, is_quit, line_read, line_said, nothing, passes, quits, read_by_last, read_by_line, read_by_said, words_said}
use Rattle.session_core.specs.Sessions.{LineOutcome, SessionState, continues, ended, ends, line_by_change, line_by_file, line_by_request, line_outcome, line_task, refusal_line, refused_line, state_after, task_line}
use Rattle.cli_sessions.specs.declared.opening.SessionDatabase.{SessionDatabase}

-- ---- the command of a line

-- A command is one of those of lines, over this file.
abbrev IsOver : List ℕ → Command → Type 0
IsOver file command = (in_session command ≡ true) × (target_of command ≡ file)

-- So is the command that words say, if they say one.
abbrev SaysOver : List ℕ → Result LineWords Refusal → Type 0
SaysOver file (Ok quits) = Unit {0}
SaysOver file (Ok passes) = Unit {0}
SaysOver file (Ok (commands command)) = IsOver file command
SaysOver file (Err refusal) = Unit {0}

-- And the one that a line asks for.
abbrev AsksOver : List ℕ → Result LineRequest Refusal → Type 0
AsksOver file (Ok request.ends) = Unit {0}
AsksOver file (Ok nothing) = Unit {0}
AsksOver file (Ok (asks command last)) = IsOver file command
AsksOver file (Err refusal) = Unit {0}

module _ (database : SessionDatabase) where
  command_over : (words : List (List ℕ)) (command : Result Command Refusal) → line_command database.access database.file words ≡ command
      → SaysOver database.file (command_said command)
  command_over words (Ok command) e =
      let is = of_session database.access database.file words command e in (is.kind, is.database)
  command_over words (Err refusal) e = tt

  words_over : (words : List (List ℕ)) → SaysOver database.file (words_said database words)
  words_over [] = tt
  words_over (word ∷ words) = by (is_quit (word ∷ words))
    where
      by : (quit : Bool) → SaysOver database.file
          (if quit then Ok quits else command_said (line_command database.access database.file (word ∷ words)))
      by true = tt
      by false = command_over (word ∷ words) (line_command database.access database.file (word ∷ words)) refl

  cut_over : (words : Result (List (List ℕ)) ℕ) → SaysOver database.file (cut_said database words)
  cut_over (Ok words) = words_over words
  cut_over (Err offset) = tt

  last_over : (command : Command) (number : ℕ) (last : Result LastLines Refusal) (left : List ℕ) → IsOver database.file command
      → AsksOver database.file (read_by_last command number last left).answer
  last_over command number (Ok last) left h = h
  last_over command number (Err refusal) left h = tt

  said_over : (said : Result LineWords Refusal) (number : ℕ) (left : List ℕ) → SaysOver database.file said
      → AsksOver database.file (read_by_said said number left).answer
  said_over (Ok quits) number left h = tt
  said_over (Ok passes) number left h = tt
  said_over (Ok (commands command)) number left h =
      last_over command number (last_lines number (needs_of command) left).answer (last_lines number (needs_of command) left).left h
  said_over (Err refusal) number left h = tt

  line_over : (number : ℕ) (line : Result (Option (List ℕ)) Refusal) (left : List ℕ)
      → AsksOver database.file (read_by_line database number line left).answer
  line_over number (Ok (Some line)) left = said_over (line_said database line) (number + 1) left (cut_over (line_words line))
  line_over number (Ok None) left = tt
  line_over number (Err refusal) left = tt

  -- The command that a line asks for is one of those of lines, over the database of the session.
  pub read_over : (number : ℕ) (input : List ℕ) → AsksOver database.file (line_read database number input).answer
  read_over number input = line_over number (next_line number input).answer (next_line number input).left

-- A line takes no attachment out into a file.
pub takes_none_out : (command : Command) → in_session command ≡ true → exported_to command ≡ None
takes_none_out (ExportAttachment access file entry name to) h = cc
takes_none_out command h = refl

-- ---- the file that is written

-- A file of this name.
abbrev pub HasName : List ℕ → NewFile → Type 0
HasName name file = file.name ≡ name

plain_named : (name : List ℕ) (text : Result (List ℕ) WriteFail) → IfOk (file_or_refusal name text) (HasName name)
plain_named name (Ok text) = refl
plain_named name (Err why) = tt

sealed_named : (name : List ℕ) (why : Option SealFail) (bytes : List ℕ) → IfOk (file_unless name why bytes) (HasName name)
sealed_named name None bytes = refl
sealed_named name (Some why) bytes = tt

pub new_named : (name : List ℕ) (sealing : Option Sealing) (doc : BareDoc) (dice : List ℕ) → IfOk (new_file name sealing doc dice).answer (HasName name)
unfolding file_by
new_named name None doc dice = plain_named name (write_outcome Plain NoKeystream None doc)
new_named name (Some sealing) doc dice =
    let settings = settings_for sealing.settings doc in
    sealed_named name (size_refusal settings (draws_of settings dice) doc) (made_file settings (draws_of settings dice) sealing.composite doc)

-- What is written, if a file is, has this name.
abbrev EndsNamed : List ℕ → Result Ending Refusal → Type 0
EndsNamed name ending = IfOk ending (λ ending. IfSome ending.file (HasName name))

then_named : (name text : List ℕ) (answer : Result NewFile Refusal) (left : List ℕ) → IfOk answer (HasName name)
    → EndsNamed name (after_left answer left (λ file left. with_left (Ok (ending_with text file)) left)).answer
then_named name text (Ok file) left h = h
then_named name text (Err refusal) left h = tt

ended_named : (targets : Targets) → targets.attachment ≡ None → (sealing : Option Sealing) (text : List ℕ) (doc : Option BareDoc) (attachment : Option (List ℕ)) (dice : List ℕ)
    → EndsNamed targets.database (ended_so targets sealing text doc attachment dice).answer
ended_named targets none sealing text None attachment dice =
    subst (λ (to : Option (List ℕ)). IfSome (attachment_file to attachment) (HasName targets.database)) (sym none) tt
ended_named targets none sealing text (Some doc) attachment dice =
    let file = new_file targets.database sealing doc dice in
    then_named targets.database text file.answer file.left (new_named targets.database sealing doc dice)

-- ---- a line

-- A line that writes a file writes one of this name.
abbrev WritesNamed : List ℕ → LineOutcome → Type 0
WritesNamed name (ends outcome) = Unit {0}
WritesNamed name (continues text errors file state) = IfSome file (HasName name)

refused_named : (name : List ℕ) (refusal : Refusal) (state : SessionState) → WritesNamed name (refused_line refusal state)
refused_named name refusal state = by (nat_le (status_of refusal.reason) 2)
  where
    by : (low : Bool) → WritesNamed name (if low then continues [] (refusal_line refusal) None state
        else ends (ended (status_of refusal.reason) (refusal_line refusal) state))
    by true = tt
    by false = tt

file_named : (name : List ℕ) (state : SessionState) (change : Change) (written : Result Ending Refusal) (dice : List ℕ) → EndsNamed name written
    → WritesNamed name (line_by_file state change written dice)
file_named name state change (Ok ending) dice h = h
file_named name state change (Err refusal) dice h = refused_named name refusal (record state { dice = dice })

change_named : (state : SessionState) (task : Task) (change : Result Change Refusal) (dice : List ℕ) → exported_to task.command ≡ None
    → WritesNamed (target_of task.command) (line_by_change state task change dice)
change_named state task (Ok change) dice none =
    let written = ended_with (targets_of task.command) task.opened.sealing change dice in
    file_named (target_of task.command) state change written.answer written.left
    (ended_named (targets_of task.command) none task.opened.sealing change.text change.doc change.attachment dice)
change_named state task (Err refusal) dice none = refused_named (target_of task.command) refusal (record state { dice = dice })

request_named : (name : List ℕ) (time : ℕ) (state : SessionState) (request : Result LineRequest Refusal) → AsksOver name request
    → WritesNamed name (line_by_request time state request)
request_named name time state (Ok request.ends) h = tt
request_named name time state (Ok nothing) h = tt
request_named name time state (Ok (asks command last)) h =
    let task = line_task state.opened command last in
    let made = change_of_task time task state.dice in
    subst (λ (name : List ℕ). WritesNamed name (task_line time state task)) h.1
    (change_named state task made.answer made.left (takes_none_out command h.0))
request_named name time state (Err refusal) h = refused_named name refusal state

line_named : (time : ℕ) (database : SessionDatabase) (state : SessionState) → WritesNamed database.file (line_outcome time database state)
line_named time database state =
    let read = line_read database state.number state.input in
    request_named database.file time (state_after state read) read.answer (read_over database state.number state.input)

-- A file that a line writes has the name of the session's database.
pub line_file_name : (time : ℕ) (database : SessionDatabase) (state : SessionState) (text errors : List ℕ) (file : NewFile) (after : SessionState)
    → line_outcome time database state ≡ continues text errors (Some file) after → file.name ≡ database.file
line_file_name time database state text errors file after e = subst (WritesNamed database.file) e (line_named time database state)
