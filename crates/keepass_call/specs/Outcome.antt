-- What a call results in: its phases one after another, and all that is seen of it.
use Rattle.std.specs.Prelude.{◌≡◌, ◌≢◌, ℕ, Bool, true, false, List, [], ◌++◌, Contains, Option, None, Some, ◌⊎◌, Result, Ok, Err, codes, if◌then◌else◌}
use Rattle.outside_core.specs.Counts.{Increased}
use Rattle.outside_core.specs.Files.{FileMap}
use Rattle.outside_core.specs.Streams.{GainsPrefix, LosesPrefix}
use Rattle.cli_messages.specs.declared.answers.Refusal.{Refusal}
use Rattle.cli_messages.specs.Messages.{status_of, reason_text, error_line}
use Rattle.cli_messages.specs.Phases.{IsLeft, StreamAnswer, TellsStream, then_left, with_left}
use Rattle.cli_writing.specs.Writing.{KeepsDraft, KeepsFiles, NewFile, Store, store}
use Rattle.session_run.specs.CliCommands.Commands.{may_store, may_write}
use Rattle.cli_pages.specs.Pages.{page_of}
use Rattle.cli_reporting.specs.Reporting.{Gains}
use Rattle.cli_needs.specs.Needs.{file_written}
use Rattle.cli_parse.specs.Words.{command_of}
use Rattle.cli_profiles.specs.declared.profiles.PasswordProfile.{PasswordProfile}
use Rattle.cli_self_test.specs.SelfTest.{self_test}
use Rattle.cli_standalone.specs.declared.standalone.Standalone.{Standalone}
use Rattle.cli_standalone.specs.declared.standalone.Standalone.TheVariants.{Password, SelfTest}
use Rattle.cli_standalone.specs.Standalone.{standalone_of}
use Rattle.cli_generating.specs.Generated.{generated}
use Rattle.cli_needs.specs.declared.command.Command.{Command}
use Rattle.cli_files.specs.Tasks.{Task, draws_by}
use Rattle.call_input.specs.Reading.{HasSomeFile, asked_by, left_of, task_of}
use Rattle.session_run.specs.CallRun.Endings.{Ending, IsOfDice, IsOfSomeDice, Stores, carried_out, ending_without}

-- ---- what is defined

-- What the outside holds as a call begins: the files, what is left of the input, and the bytes that
-- are to be drawn.
pub record World : Type 0 where
  pub files : FileMap
  pub input : List ℕ
  pub dice : List ℕ

-- What these words give at a moment over a world, as a command: what they ask for, and what that
-- is carried out to over the dice. The first refusal ends the call.
unfoldable pub command_answer : List (List ℕ) → ℕ → World → StreamAnswer Ending
command_answer words time world =
    then_left (with_left (task_of words time world.input world.files) world.dice)
    (carried_out time)

-- What a generated password ends a call with: it is printed on a line.
abbrev pub printed_password : List ℕ → Ending
printed_password password = ending_without (password ++ codes "\n")

-- The password that the dice choose by a profile, as a call ends with it.
unfoldable pub password_answer : PasswordProfile → List ℕ → StreamAnswer Ending
password_answer profile dice =
    then_left (generated profile.alphabet profile.length dice) (λ password left.
    with_left (Ok (printed_password password)) left)

-- A text that is printed, or a refusal.
abbrev pub printed : Result (List ℕ) Refusal → Result Ending Refusal
printed (Ok text) = Ok (ending_without text)
printed (Err refusal) = Err refusal

-- What a test of the program itself ends a call with: its report is printed, and nothing is drawn.
unfoldable pub test_answer : ℕ → List ℕ → StreamAnswer Ending
test_answer count dice = with_left (printed (self_test count)) dice

-- What a command that needs no database ends with, over the dice.
abbrev pub standalone_answer : Standalone → List ℕ → StreamAnswer Ending
standalone_answer (Password profile) dice = password_answer profile dice
standalone_answer (SelfTest count) dice = test_answer count dice

-- What words give that ask for no page: what they give as a command that needs no database, or else
-- as one that has one.
abbrev pub standalone_or_command : Option Standalone → List (List ℕ) → ℕ → World
    → StreamAnswer Ending
standalone_or_command (Some standalone) words time world = standalone_answer standalone world.dice
standalone_or_command None words time world = command_answer words time world

-- What a call gives: the page that its words ask for, or else what they give as a command, with a
-- database or without one.
abbrev pub page_or_answer : Option (List ℕ) → List (List ℕ) → ℕ → World → StreamAnswer Ending
page_or_answer (Some page) words time world = with_left (Ok (ending_without page)) world.dice
page_or_answer None words time world =
    standalone_or_command (standalone_of words) words time world

-- The words ask for no page, and are no command that needs no database: they are to be a command
-- that has one.
pub record AsksCommand (words : List (List ℕ)) : Type 0 where
  pub no_page : page_of words ≡ None
  pub no_standalone : standalone_of words ≡ None

-- Whether a command that needs no database draws: a password does.
abbrev pub draws_alone : Standalone → Bool
draws_alone (Password profile) = true
draws_alone (SelfTest count) = false

-- Whether a command draws, with a database or without one.
abbrev pub draws_with : Option Standalone → Result Command Refusal → Bool
draws_with (Some standalone) command = draws_alone standalone
draws_with None command = draws_by command

-- Whether words draw.
abbrev pub draws_words : List (List ℕ) → Bool
draws_words words = draws_with (standalone_of words) (command_of words)

-- What these words give at a moment over a world.
abbrev pub answer_of : List (List ℕ) → ℕ → World → StreamAnswer Ending
answer_of words time world = page_or_answer (page_of words) words time world

-- What a call results in where nothing of the outside fails: its status, what it prints, its line
-- on standard error, the file that is written, if one is, and what is left of the input and of the
-- dice.
pub record Outcome : Type 0 where
  pub status : ℕ
  pub text : List ℕ
  pub line : List ℕ
  pub file : Option NewFile
  pub left : List ℕ
  pub dice : List ℕ

-- A call that was carried out, or refused.
abbrev pub ended : List ℕ → Result Ending Refusal → List ℕ → Outcome
ended left (Ok ending) dice = record {
  status = 0;
  text = ending.text;
  line = [];
  file = ending.file;
  left = left;
  dice = dice;
}
ended left (Err refusal) dice = record {
  status = status_of refusal.reason;
  text = [];
  line = error_line refusal.subject (reason_text refusal.reason);
  file = None;
  left = left;
  dice = dice;
}

-- What the words result in at a moment over a world.
abbrev pub outcome : List (List ℕ) → ℕ → World → Outcome
outcome words time world = ended (left_of words world.input) (answer_of words time world).answer
    (answer_of words time world).left

-- ---- what is seen

-- Whether every answer so far of the store, of the input and of the dice was that of what they
-- report.
pub record Truth : Type 0 where
  pub files : Bool
  pub input : Bool
  pub dice : Bool

-- What the outside reports at one moment: what was written to standard output and to standard
-- error, the store of files, and what is left of the input and of the dice; and whether each of
-- these was truthful so far.
pub record Seen : Type 0 where
  pub written : Option (List ℕ)
  pub errors : Option (List ℕ)
  pub store : Store
  pub left : Option (List ℕ)
  pub stream : Option (List ℕ)
  pub truth : Truth

-- The counts of faults at one moment, and how often a file was missing.
pub record Counts : Type 0 where
  pub files : ℕ
  pub absences : ℕ
  pub input : ℕ
  pub out : ℕ
  pub err : ℕ
  pub dice : ℕ

-- Whether each object was truthful, in the order of the record.
abbrev pub truth : (files input dice : Bool) → Truth
truth files input dice = record { files = files; input = input; dice = dice }

-- What is reported of each object, in the order of the record.
abbrev pub seen : Option (List ℕ) → Option (List ℕ) → Option FileMap → Option (List ℕ) → List ℕ
    → Option (List ℕ) → Option (List ℕ) → Truth → Seen
seen written errors files draft_name draft_bytes left stream truth = record {
  written = written;
  errors = errors;
  store = store files draft_name draft_bytes;
  left = left;
  stream = stream;
  truth = truth;
}

-- The count of each object, in the order of the record.
abbrev pub counts : (files absences input out err dice : ℕ) → Counts
counts files absences input out err dice =
    record { files = files; absences = absences; input = input; out = out; err = err; dice = dice }

-- No count of faults rose.
pub record NoFaults (before now : Counts) : Type 0 where
  pub files : ¬ (Increased before.files now.files)
  pub input : ¬ (Increased before.input now.input)
  pub out : ¬ (Increased before.out now.out)
  pub err : ¬ (Increased before.err now.err)
  pub dice : ¬ (Increased before.dice now.dice)

-- No count of faults rose: each is as it was.
pub record KeepsFaults (before now : Counts) : Type 0 where
  pub files : now.files ≡ before.files
  pub input : now.input ≡ before.input
  pub out : now.out ≡ before.out
  pub err : now.err ≡ before.err
  pub dice : now.dice ≡ before.dice

-- Every answer so far was that of what was reported.
pub record AreTruthful (truth : Truth) : Type 0 where
  pub files : truth.files ≡ true
  pub input : truth.input ≡ true
  pub dice : truth.dice ≡ true

-- The outside reports this world before a call: the files; what is left of the input, where the
-- words ask for a line; and the dice, where the words draw. And after the call every answer was that
-- of this world.
pub record IsWorldOf (words : List (List ℕ)) (before now : Seen) (world : World) : Type 0 where
  pub truthful : AreTruthful now.truth
  pub files : before.store.files ≡ Some world.files
  pub input : TellsStream (asked_by (command_of words)) before.left world.input
  pub dice : TellsStream (draws_words words) before.stream world.dice

-- This holds of each world that the outside reports and answers like during a call.
abbrev pub ForEachWorld : List (List ℕ) → Seen → Seen → (World → Type 0) → Type 0
ForEachWorld words before now P = (world : World) → IsWorldOf words before now world → P world

-- Whether words are a command that may write its database, or one that it makes.
abbrev pub may_write_by : Result Command Refusal → Bool
may_write_by (Ok command) = may_write command
may_write_by (Err refusal) = false

-- Whether words are a command that may write a file.
abbrev pub may_store_by : Result Command Refusal → Bool
may_store_by (Ok command) = may_store command
may_store_by (Err refusal) = false

-- The file that a command may write: that of the database that it shows or makes, or the new one that
-- it takes an attachment out into, where it may write one.
abbrev pub written_with : Command → Option (List ℕ)
written_with command = if may_store command then Some (file_written command) else None

-- The file that words may write, where they are a command that may write one.
abbrev pub written_by : Result Command Refusal → Option (List ℕ)
written_by (Ok command) = written_with command
written_by (Err refusal) = None

-- ---- what a call keeps

-- All is as the outcome says.
pub record IsAsSaid (said : Outcome) (result : ℕ) (before now : Seen) : Type 0 where
  pub status : result ≡ said.status
  pub text : Gains before.written now.written said.text
  pub line : Gains before.errors now.errors said.line
  pub store : Stores said.file before.store now.store
  pub left : IsLeft before.left now.left said.left
  pub stream : IsLeft before.stream now.stream said.dice

-- The line of a fault: of the store at one of these files, or of the input or the dice.
abbrev pub TellsFault : List (List ℕ) → ℕ → Seen → Seen → Counts → Counts → Type 0
TellsFault names result before now counts counts' =
    ((result ≡ 7) × Increased counts.files counts'.files
    × ((name : List ℕ) × Contains names name
    × Gains before.errors now.errors (error_line name (codes "file fault"))))
    ⊎ ((result ≡ 11) × (Increased counts.input counts'.input ⊎ Increased counts.dice counts'.dice)
    × Gains before.errors now.errors (error_line (codes "input") (codes "fault")))

-- A refusal is the outcome's, or it reports a fault whose count rose.
abbrev pub IsRefused : List (List ℕ) → Outcome → ℕ → Seen → Seen → Counts → Counts → Type 0
IsRefused names said result before now counts counts' =
    result ≢ 0 → result ≢ 9 → result ≢ 10
    → IsAsSaid said result before now ⊎ TellsFault names result before now counts counts'

-- Of a call that ran out of memory or whose output failed: what was printed is a prefix of the
-- outcome's text, and the files are those of before or the outcome's.
pub record IsCut (said : Outcome) (before now : Seen) : Type 0 where
  pub text : GainsPrefix before.written now.written said.text
  pub store : KeepsFiles before.store now.store ⊎ Stores said.file before.store now.store

-- Whatever is reported and answered: statuses 7, 10 and 11 have their causes, a refusal prints
-- nothing and changes no file, a call that was carried out writes nothing on standard error, the
-- draft is the one of before, or there is none, and of the dice a prefix is gone.
pub record IsSafe (result : ℕ) (before now : Seen) (counts counts' : Counts) : Type 0 where
  pub store : result ≡ 7 → Increased counts.absences counts'.absences
      ⊎ Increased counts.files counts'.files
  pub output : result ≡ 10 → Increased counts.out counts'.out ⊎ Increased counts.err counts'.err
  pub input : result ≡ 11 → Increased counts.input counts'.input
      ⊎ Increased counts.dice counts'.dice
  pub text : result ≢ 0 → result ≢ 9 → result ≢ 10 → now.written ≡ before.written
  pub files : result ≢ 0 → result ≢ 9 → result ≢ 10 → KeepsFiles before.store now.store
  pub errors : result ≡ 0 → now.errors ≡ before.errors
  pub draft : KeepsDraft before.store now.store
  pub stream : LosesPrefix before.stream now.stream

-- A call of words that are no command, with a database or without one, and ask for no page: the
-- status is that of wrong words, or memory ran out or the output failed, and nothing but standard
-- error is touched: nothing is printed, read or drawn.
pub record IsUsage (result : ℕ) (before now : Seen) : Type 0 where
  pub status : (result ≡ 1) ⊎ (result ≡ 9) ⊎ (result ≡ 10)
  pub untouched : now ≡ record before { errors = now.errors }

-- ---- what was printed and written

-- This is what the words print over a world, whose dice are these, and the file that was written,
-- if one is, holds the document that they make.
pub record IsOfTask (words : List (List ℕ)) (time : ℕ) (world : World) (printed : List ℕ)
    (before now : Store) : Type 0 where
  pub task : Task
  pub gives : task_of words time world.input world.files ≡ Ok task
  pub of_dice : IsOfDice time task world.dice printed before now

-- This is what the words print on documents that some files hold, with some bytes drawn, and the
-- file that was written, if one is, holds the document that they make of them.
pub record IsOfSomeFile (words : List (List ℕ)) (time : ℕ) (printed : List ℕ) (before now : Store) :
    Type 0 where
  pub task : Task
  pub has_file : HasSomeFile words time task
  pub of_dice : IsOfSomeDice time task printed before now

-- What was printed is so.
abbrev pub PrintsOfSomeFile : List (List ℕ) → ℕ → (before now : Seen) → Type 0
PrintsOfSomeFile words time before now = (printed : List ℕ)
    × (IsOfSomeFile words time printed before.store now.store
    × Gains before.written now.written printed)
