-- What a call asks for, phase after phase.
use Rattle.std.proofs.Common.{◌≡◌, ℕ, List, sym, ◌∙◌, ap, subst, Option, Result, Ok, Err}
use Rattle.std.specs.Prelude.{Contains, IfErr, IfOk, OnOk, is_some, not}
use Rattle.outside_core.specs.Counts.{Increased}
use Rattle.outside_core.specs.Files.{FileMap}
use Rattle.outside_core.specs.Results.{◌>>=◌}
use Rattle.cli_messages.specs.declared.answers.Reason.TheVariants.{NoSuchFile, WrongWords}
use Rattle.cli_messages.specs.declared.answers.Refusal.{Refusal}
use Rattle.cli_messages.specs.declared.answers.Stop.{Stop}
use Rattle.cli_messages.specs.declared.answers.Stop.TheVariants.{Refused, FileFault, InputFault, NoMemory}
use Rattle.cli_messages.specs.Phases.{IsEarlyStop, IsFileStop, IsLeft, IsStreamStop, IsWordsStop, Leaves, RefusesAskedStream, Returns, Stops, TellsStream}
use Rattle.cli_lines.specs.Lines.{AreTextLines, HasLines, Lines, lines_of}
use Rattle.cli_lines.specs.SeenLines.{lines_seen}
use Rattle.cli_lines.proofs.Inputs.{left_alone}
use Rattle.cli_needs.specs.Needs.{HasKeyAfter, Needs, asks_line, files_named, needs_of, target_access}
use Rattle.cli_needs.specs.declared.command.Command.{Command}
use Rattle.cli_resealing.specs.CliFiles.Files.{Databases}
use Rattle.call_input.specs.Opening.{SomeCommandDatabases, databases_for}
use Rattle.cli_resealing.specs.CliFiles.declared.task.Task as memory
use Rattle.cli_parse.specs.Words.{command_of}
use Rattle.cli_resealing.proofs.CliDatabases.Phases.{stops_both}
use Rattle.cli_resealing.specs.CliFiles.SeenTask.{task_seen}
use Rattle.cli_resealing.specs.CliFiles.Tasks.{Task, databases_in, task_with}
use Rattle.call_input.proofs.Opened.{sealed_command}
use Rattle.call_input.specs.Attaching.{SomeAttached, attached_for}
use Rattle.call_input.specs.Reading.{HasSomeFile, asked_by, left_behind, opened_task, task_of}

-- ---- what a command asks for

-- Its databases were opened, and then its file was read.
pub opened_is : (command : Command) (lines : Lines) (time : ℕ) (files : FileMap) (databases : Databases) (attached : Option (List ℕ))
    → databases_for command lines time files ≡ Ok databases → attached_for command files ≡ Ok attached
    → opened_task command lines time files ≡ Ok (task_with command lines databases attached)
opened_is command lines time files databases attached d a =
    ap (λ r. r >>= λ databases. attached_for command files >>= λ attached. Ok (task_with command lines databases attached)) d
    ∙ ap (λ r. r >>= λ attached. Ok (task_with command lines databases attached)) a

-- Its databases were refused.
pub databases_refused : (stop : Stop) (command : Command) (lines : Lines) (time : ℕ) (files : FileMap) → Stops stop (databases_for command lines time files)
    → Stops stop (opened_task command lines time files)
databases_refused stop command lines time files h =
    stops_both stop (databases_for command lines time files)
    (λ databases. attached_for command files >>= λ attached. Ok (task_with command lines databases attached)) h

-- Its databases were opened, and its file was refused.
pub attached_refused : (stop : Stop) (command : Command) (lines : Lines) (time : ℕ) (files : FileMap) (databases : Databases)
    → databases_for command lines time files ≡ Ok databases → Stops stop (attached_for command files)
    → Stops stop (opened_task command lines time files)
attached_refused stop command lines time files databases d h =
    subst (λ (r : Result Databases Refusal). Stops {Y = Task} stop (r >>= λ databases. attached_for command files
    >>= λ attached. Ok (task_with command lines databases attached))) (sym d)
    (stops_both stop (attached_for command files) (λ attached. Ok (task_with command lines databases attached)) h)

-- ---- what words ask for

-- Where the words are a command, and its lines are there, it is what the command asks for with them.
task_opened : (words : List (List ℕ)) (time : ℕ) (input : List ℕ) (files : FileMap) (command : Command) (lines : Lines)
    → command_of words ≡ Ok command → (lines_of (needs_of command) input).answer ≡ Ok lines
    → task_of words time input files ≡ opened_task command lines time files
unfolding task_of
task_opened words time input files command lines c p =
    ap (λ r. r >>= λ command. (lines_of (needs_of command) input).answer >>= λ lines. opened_task command lines time files) c
    ∙ ap (λ r. r >>= λ lines. opened_task command lines time files) p

-- Where each phase gives something, that is the task.
pub task_is : (words : List (List ℕ)) (time : ℕ) (input : List ℕ) (files : FileMap) (command : Command) (lines : Lines) (task : Task)
    → command_of words ≡ Ok command → (lines_of (needs_of command) input).answer ≡ Ok lines → opened_task command lines time files ≡ Ok task
    → task_of words time input files ≡ Ok task
task_is words time input files command lines task c p d = task_opened words time input files command lines c p ∙ d

-- What the command gives or is refused, the words are, where what it asks for has another name.
pub task_by_needs : (words : List (List ℕ)) (time : ℕ) (input : List ℕ) (files : FileMap) (command : Command) (needs : Needs) (lines : Lines)
    (result : Result memory.Task Stop) → command_of words ≡ Ok command → needs ≡ needs_of command → (lines_of needs input).answer ≡ Ok lines
    → Returns task_seen result (opened_task command lines time files) → Returns task_seen result (task_of words time input files)
task_by_needs words time input files command needs lines result c same p h =
    subst (λ (r : Result Task Refusal). Returns task_seen result r)
    (sym (task_opened words time input files command lines c (subst (λ (n : Needs). (lines_of n input).answer ≡ Ok lines) same p))) h

-- The lines that what the command asks for has.
pub lines_by_needs : (command : Command) (needs : Needs) (lines : Lines) → needs ≡ needs_of command → HasLines needs lines → HasLines (needs_of command) lines
lines_by_needs command needs lines same p = subst (λ (n : Needs). HasLines n lines) same p

pub has_file_by_needs : (words : List (List ℕ)) (time : ℕ) (command : Command) (needs : Needs) (lines : Lines) (result : Result memory.Task Stop)
    → command_of words ≡ Ok command → needs ≡ needs_of command → HasLines needs lines
    → IfOk result (λ task. task.command ≡ command) → IfOk result (λ task. lines_seen task.lines ≡ lines)
    → IfOk result (λ task. SomeCommandDatabases command lines time (databases_in (task_seen task)))
    → IfOk result (λ task. SomeAttached command (task_seen task).attached)
    → IfOk result (λ task. HasSomeFile words time (task_seen task))
has_file_by_needs words time command needs lines (Ok task) c same p is lines_are d a = record {
  is_command = c ∙ ap Ok (sym is);
  has_lines =
      subst (λ (k : Command). HasLines (needs_of k) (lines_seen task.lines)) (sym is)
      (subst (λ (ls : Lines). HasLines (needs_of command) ls) (sym lines_are) (lines_by_needs command needs lines same p));
  holds =
      subst (λ (k : Command). SomeCommandDatabases k (lines_seen task.lines) time (databases_in (task_seen task))) (sym is)
      (subst (λ (ls : Lines). SomeCommandDatabases command ls time (databases_in (task_seen task))) (sym lines_are) d);
  attaches = subst (λ (k : Command). SomeAttached k (task_seen task).attached) (sym is) a;
}
has_file_by_needs words time command needs lines (Err stop) c same p is lines_are d a = tt

-- What holds of the command holds of that of the task.
pub of_command : (P : Command → Type 0) (result : Result memory.Task Stop) (command : Command) → P command
    → IfOk result (λ task. task.command ≡ command) → IfOk result (λ task. P task.command)
of_command P (Ok task) command p is = subst P (sym is) p
of_command P (Err stop) command p is = tt

-- And what holds of its lines, of those of the task.
pub text_of_task : (result : Result memory.Task Stop) (lines : Lines) → AreTextLines lines.more lines.otp lines.fields
    → IfOk result (λ task. lines_seen task.lines ≡ lines)
    → IfOk result (λ task. AreTextLines (lines_seen task.lines).more (lines_seen task.lines).otp (lines_seen task.lines).fields)
text_of_task (Ok task) lines p is = subst (λ (ls : Lines). AreTextLines ls.more ls.otp ls.fields) (sym is) p
text_of_task (Err stop) lines p is = tt

-- The database of the task is sealed unless it is a plain document.
pub sealed_task : (result : Result memory.Task Stop) (command : Command) (lines : Lines) (time : ℕ) → HasKeyAfter command
    → IfOk result (λ task. task.command ≡ command)
    → IfOk result (λ task. SomeCommandDatabases command lines time (databases_in (task_seen task)))
    → IfOk result (λ task. is_some task.opened.sealing ≡ not (target_access task.command).plain)
sealed_task (Ok task) command lines time after is d =
    sealed_command command lines time (databases_in (task_seen task)) after d
    ∙ ap (λ (k : Command). not (target_access k).plain) (sym is)
sealed_task (Err stop) command lines time after is d = tt

-- The words were refused.
pub words_refused : (stop : Stop) (words : List (List ℕ)) (time : ℕ) (input : List ℕ) (files : FileMap) → Stops stop (command_of words) → Stops stop (task_of words time input files)
unfolding task_of
words_refused (Refused refusal) words time input files h =
    ap (λ r. r >>= λ command. (lines_of (needs_of command) input).answer >>= λ lines. opened_task command lines time files) h
words_refused (FileFault name) words time input files h = tt
words_refused InputFault words time input files h = tt
words_refused NoMemory words time input files h = tt

-- The lines were refused.
pub lines_refused : (stop : Stop) (words : List (List ℕ)) (time : ℕ) (input : List ℕ) (files : FileMap) (command : Command) (needs : Needs) (before now : Option (List ℕ))
    → command_of words ≡ Ok command → needs ≡ needs_of command → RefusesAskedStream stop before now (lines_of needs input) → Stops stop (task_of words time input files)
unfolding task_of
lines_refused (Refused refusal) words time input files command needs before now c same h =
    ap (λ r. r >>= λ command. (lines_of (needs_of command) input).answer >>= λ lines. opened_task command lines time files) c
    ∙ ap (λ r. r >>= λ lines. opened_task command lines time files)
    (subst (λ (n : Needs). (lines_of n input).answer ≡ Err refusal) same h.0)
lines_refused (FileFault name) words time input files command needs before now c same h = tt
lines_refused InputFault words time input files command needs before now c same h = tt
lines_refused NoMemory words time input files command needs before now c same h = tt

-- ---- what is left of the input

-- The words ask for a line where their command does.
asked_so : (words : Result Command Refusal) (command : Command) (before : Option (List ℕ)) (input : List ℕ) → words ≡ Ok command
    → TellsStream (asked_by words) before input → TellsStream (asks_line (needs_of command)) before input
asked_so words command before input is t = subst (λ (w : Result Command Refusal). TellsStream (asked_by w) before input) is t

pub asked_needs : (words : Result Command Refusal) (command : Command) (needs : Needs) (before : Option (List ℕ)) (input : List ℕ) → words ≡ Ok command
    → needs ≡ needs_of command → TellsStream (asked_by words) before input → TellsStream (asks_line needs) before input
asked_needs words command needs before input is same t =
    subst (λ (n : Needs). TellsStream (asks_line n) before input) (sym same) (asked_so words command before input is t)

-- What a call leaves that stops at its words.
pub words_leave : (stop : Stop) (words : Result Command Refusal) (before : Option (List ℕ)) (input : List ℕ) → IsWordsStop stop → Stops stop words
    → TellsStream (asked_by words) before input → Leaves {X = memory.Task} (Err stop) before before (left_behind words input)
words_leave (Refused refusal) words before input k h t =
    subst (λ (w : Result Command Refusal). IsLeft before before (left_behind w input)) (sym h) (left_alone (asked_by words) before input t)
words_leave (FileFault name) words before input k h t = absurd k
words_leave InputFault words before input k h t = tt
words_leave NoMemory words before input k h t = tt

-- What a call leaves that stops at its lines.
lines_leave : (stop : Stop) (words : Result Command Refusal) (command : Command) (before now : Option (List ℕ)) (input : List ℕ) (f f' : ℕ)
    → IsStreamStop f f' stop → words ≡ Ok command → RefusesAskedStream stop before now (lines_of (needs_of command) input)
    → Leaves {X = memory.Task} (Err stop) before now (left_behind words input)
lines_leave (Refused refusal) words command before now input f f' k is h =
    subst (λ (w : Result Command Refusal). IsLeft before now (left_behind w input)) (sym is) h.1
lines_leave (FileFault name) words command before now input f f' k is h = absurd k
lines_leave InputFault words command before now input f f' k is h = tt
lines_leave NoMemory words command before now input f f' k is h = tt

pub needs_leave : (stop : Stop) (words : Result Command Refusal) (command : Command) (needs : Needs) (before now : Option (List ℕ)) (input : List ℕ) (f f' : ℕ)
    → IsStreamStop f f' stop → words ≡ Ok command → needs ≡ needs_of command → RefusesAskedStream stop before now (lines_of needs input)
    → Leaves {X = memory.Task} (Err stop) before now (left_behind words input)
needs_leave stop words command needs before now input f f' k is same h =
    lines_leave stop words command before now input f f' k is (subst (λ (n : Needs). RefusesAskedStream stop before now (lines_of n input)) same h)

-- What a call leaves that goes on after its lines.
pub needs_left : (words : Result Command Refusal) (command : Command) (needs : Needs) (before now : Option (List ℕ)) (input : List ℕ)
    → words ≡ Ok command → needs ≡ needs_of command → IsLeft before now (lines_of needs input).left → IsLeft before now (left_behind words input)
needs_left words command needs before now input is same h =
    subst (λ (w : Result Command Refusal). IsLeft before now (left_behind w input)) (sym is)
    (subst (λ (n : Needs). IsLeft before now (lines_of n input).left) same h)

-- The same, whatever comes after that.
pub task_leaves : (result : Result memory.Task Stop) (before now : Option (List ℕ)) (left : List ℕ) → IsLeft before now left → Leaves result before now left
task_leaves (Ok task) before now left h = h
task_leaves (Err (Refused refusal)) before now left h = h
task_leaves (Err (FileFault name)) before now left h = h
task_leaves (Err InputFault) before now left h = tt
task_leaves (Err NoMemory) before now left h = tt

-- ---- causes

-- A stop at the words, or at the input, as a stop of the call.
pub words_early : (stop : Stop) (names : List (List ℕ)) (f f' a a' i i' : ℕ) → IsWordsStop stop → IsEarlyStop names f f' a a' i i' stop
words_early (Refused refusal) names f f' a a' i i' h = λ e. let no : WrongWords ≡ NoSuchFile = sym h ∙ e in cc
words_early (FileFault name) names f f' a a' i i' h = absurd h
words_early InputFault names f f' a a' i i' h = absurd h
words_early NoMemory names f f' a a' i i' h = tt

pub input_early : (stop : Stop) (names : List (List ℕ)) (f f' a a' i i' : ℕ) → IsStreamStop i i' stop → IsEarlyStop names f f' a a' i i' stop
input_early (Refused refusal) names f f' a a' i i' h = λ e. absurd (h e)
input_early (FileFault name) names f f' a a' i i' h = absurd h
input_early InputFault names f f' a a' i i' h = h
input_early NoMemory names f f' a a' i i' h = tt

-- A stop at a file of the command that the words are, as a stop of the call.
at_file : (command : Command) (words : Result Command Refusal) (f f' a a' i i' : ℕ) (stop : Stop) → words ≡ Ok command
    → IsFileStop (files_named (Ok command)) f f' a a' stop → IsEarlyStop (files_named words) f f' a a' i i' stop
at_file command words f f' a a' i i' (Refused refusal) is h = h
at_file command words f f' a a' i i' (FileFault name) is h = subst (λ (w : Result Command Refusal). Increased f f' × Contains (files_named w) name) (sym is) h
at_file command words f f' a a' i i' InputFault is h = absurd h
at_file command words f f' a a' i i' NoMemory is h = tt

pub at_words : (command : Command) (words : Result Command Refusal) (f f' a a' i i' : ℕ) (result : Result memory.Task Stop) → words ≡ Ok command
    → IfErr result (IsFileStop (files_named (Ok command)) f f' a a') → IfErr result (IsEarlyStop (files_named words) f f' a a' i i')
at_words command words f f' a a' i i' (Ok task) is h = tt
at_words command words f f' a a' i i' (Err stop) is h = at_file command words f f' a a' i i' stop is h

-- Two counts that are kept.
pub both_kept : (result : Result memory.Task Stop) (f f' i i' : ℕ) → i' ≡ i → OnOk result (f' ≡ f) → OnOk result ((f' ≡ f) × (i' ≡ i))
both_kept (Ok task) f f' i i' same h = (h, same)
both_kept (Err stop) f f' i i' same h = tt
