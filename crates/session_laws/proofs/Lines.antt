-- A line of a session does what it does as a single call.
use Rattle.std.proofs.Common.{◌≡◌, ◌≤◌, ℕ, Bool, true, false, List, [], length, Option, Some, None, Result, Ok, Err, refl, sym, ap, subst, ◌∙◌}
use Rattle.std.specs.Prelude.{◌≢◌, if◌then◌else◌, nat_le}
use Rattle.std.specs.FinMap.{insert}
use Rattle.outside_core.specs.Files.{FileMap}
use Rattle.vault_model.specs.Tree.{BareDoc}
use Rattle.vault_model.specs.declared.forms.DocForm.TheVariants.{Plain}
use Rattle.stream_core.specs.InnerStream.{NoKeystream}
use Rattle.doc_write.specs.Written.{write_outcome}
use Rattle.doc_write.specs.declared.writing.WriteFail.{WriteFail}
use Rattle.kdbx_frame.specs.Fields.{file_limit}
use Rattle.kdbx_frame.specs.declared.sealings.Sealing.{Sealing}
use Rattle.file_limits.specs.KdbxSeal.Answers.{size_refusal}
use Rattle.file_limits.specs.KdbxSeal.Made.{made_file}
use Rattle.file_limits.specs.KdbxSeal.declared.fail.SealFail.{SealFail}
use Rattle.cli_messages.specs.declared.answers.Refusal.{Refusal}
use Rattle.cli_messages.specs.Messages.{status_of}
use Rattle.cli_messages.specs.Phases.{after_left, then_left, with_left}
use Rattle.cli_needs.specs.declared.command.Command.{Command}
use Rattle.cli_needs.specs.Needs.{target_of}
use Rattle.cli_lines.specs.Lines.{LastLines, lines_with}
use Rattle.cli_files.specs.Files.{Opened}
use Rattle.cli_files.specs.Tasks.{Task}
use Rattle.cli_writing.specs.Writing.{NewFile, file_or_refusal}
use Rattle.file_limits.specs.CliSealing.Draws.{draws_of}
use Rattle.file_limits.specs.CliSealing.Sealing.{file_by, file_unless, settings_for}
use Rattle.session_core.specs.CliCommands.Commands.{Change}
use Rattle.file_limits.proofs.Within.{plain_files_are_within, sealed_files_are_within}
use Rattle.session_core.specs.CallRun.Endings.{Ending, HoldsNew, attachment_file, carried_out, change_of_task, ended_so, ended_with, ending_with, new_file, opened_after, targets_of}
use Rattle.session_core.specs.Reading as request
use Rattle.session_core.specs.Reading.{LineRequest, asks, line_read, nothing}
use Rattle.session_core.specs.Sessions.{LineOutcome, SessionState, continues, ended, ends, line_by_change, line_by_file, line_by_request, line_outcome, line_task, refusal_line, refused_line, state_after, task_line}
use Rattle.cli_sessions.specs.declared.opening.SessionDatabase.{SessionDatabase}
use Rattle.session_core.proofs.FileNames.{takes_none_out}
use Rattle.session_laws.proofs.LineCommands.{AsksOver, IsOver, read_over}
use Rattle.session_laws.specs.Calls.{CallOutcome, answered_call, call_answer, call_by, call_by_request, call_outcome, calls_ended, files_after, goes_on, last, refused_call}
use Rattle.session_core.specs.ReadsBack.{LineReadsBack}
use Rattle.session_laws.specs.SessionLaws.{IsOwnFile, calls_at, over_files}
use Rattle.session_laws.proofs.Opening.{Reopened, line_opens}
use Rattle.session_laws.proofs.Salts.{call_is_line}
use Rattle.session_laws.proofs.Written.{written_again}

-- ---- a line over files

-- What a line of a session does over these files.
abbrev pub over_line : FileMap → LineOutcome → CallOutcome
over_line files (ends outcome) = last (over_files files outcome)
over_line files (continues text errors file after) = goes_on text errors (calls_at (files_after files file) after)

same_refusal : (files : FileMap) (refusal : Refusal) (state : SessionState) → over_line files (refused_line refusal state) ≡ refused_call refusal (calls_at files state)
same_refusal files refusal state = by (nat_le (status_of refusal.reason) 2)
  where
    by : (low : Bool) → over_line files (if low then continues [] (refusal_line refusal) None state
        else ends (ended (status_of refusal.reason) (refusal_line refusal) state))
        ≡ (if low then goes_on [] (refusal_line refusal) (calls_at files state)
        else last (calls_ended (status_of refusal.reason) (refusal_line refusal) (calls_at files state)))
    by true = refl
    by false = refl

same_file : (files : FileMap) (state : SessionState) (change : Change) (written : Result Ending Refusal) (dice : List ℕ)
    → over_line files (line_by_file state change written dice) ≡ call_by (calls_at files state) written dice
same_file files state change (Ok ending) dice = refl
same_file files state change (Err refusal) dice = same_refusal files refusal (record state { dice = dice })

same_change : (files : FileMap) (state : SessionState) (task : Task) (change : Result Change Refusal) (dice : List ℕ)
    → over_line files (line_by_change state task change dice)
    ≡ answered_call (calls_at files state) (after_left change dice (λ change left. ended_with (targets_of task.command) task.opened.sealing change left))
same_change files state task (Ok change) dice =
    let written = ended_with (targets_of task.command) task.opened.sealing change dice in
    same_file files state change written.answer written.left
same_change files state task (Err refusal) dice = same_refusal files refusal (record state { dice = dice })

-- A line of a task does what the task is carried out to.
same_task : (time : ℕ) (files : FileMap) (state : SessionState) (task : Task)
    → over_line files (task_line time state task) ≡ answered_call (calls_at files state) (carried_out time task state.dice)
unfolding carried_out
same_task time files state task =
    let made = change_of_task time task state.dice in
    same_change files state task made.answer made.left

-- ---- a file that is written

same_file_as : (one other : NewFile) → ◌≡◌ {A = Result NewFile Refusal} (Ok one) (Ok other) → one ≡ other
same_file_as one other h = cc

plain_named : (name : List ℕ) (text : Result (List ℕ) WriteFail) (file : NewFile) → file_or_refusal name text ≡ Ok file → file.name ≡ name
plain_named name (Ok text) file e = ap (λ (f : NewFile). f.name) (sym (same_file_as (record { name = name; bytes = text }) file e))
plain_named name (Err why) file e = cc

sealed_named : (name : List ℕ) (why : Option SealFail) (bytes : List ℕ) (file : NewFile) → file_unless name why bytes ≡ Ok file → file.name ≡ name
sealed_named name None bytes file e = ap (λ (f : NewFile). f.name) (sym (same_file_as (record { name = name; bytes = bytes }) file e))
sealed_named name (Some why) bytes file e = cc

-- It has the name that is given.
new_named : (name : List ℕ) (sealing : Option Sealing) (doc : BareDoc) (dice : List ℕ) (file : NewFile) → (new_file name sealing doc dice).answer ≡ Ok file
    → file.name ≡ name
unfolding file_by
new_named name None doc dice file e = plain_named name (write_outcome Plain NoKeystream None doc) file e
new_named name (Some sealing) doc dice file e =
    let settings = settings_for sealing.settings doc in
    sealed_named name (size_refusal settings (draws_of settings dice) doc) (made_file settings (draws_of settings dice) sealing.composite doc) file e

-- It is within the limit of files that are read.
new_within : (name : List ℕ) (sealing : Option Sealing) (doc : BareDoc) (dice : List ℕ) (file : NewFile) → (new_file name sealing doc dice).answer ≡ Ok file
    → length file.bytes ≤ file_limit
new_within name None doc dice file e = plain_files_are_within name doc file e
new_within name (Some sealing) doc dice file e = sealed_files_are_within name sealing.settings sealing.composite doc dice file e

-- ---- lines over a database that the files hold

-- After a line the files hold the database that it left, and a file that it wrote is that of the database.
abbrev pub KeepsFiles : SessionDatabase → Option (List ℕ) → FileMap → LineOutcome → Type 0
KeepsFiles database password files (ends outcome) = IsOwnFile database outcome.file × Reopened database password (files_after files outcome.file) outcome.opened
KeepsFiles database password files (continues text errors file after) = IsOwnFile database file × Reopened database password (files_after files file) after.opened

module _ (time : ℕ) (database : SessionDatabase) (password : Option (List ℕ)) (apart : database.access.key_file ≢ Some database.file)
    (files : FileMap) (state : SessionState) (r : Reopened database password files state.opened) where
  -- The call of a line's command is carried out as the line.
  same_call : (command : Command) (lines : LastLines) → IsOver database command
      → call_answer command (lines_with password [] lines) time files state.dice ≡ carried_out time (line_task state.opened command lines) state.dice
  same_call command lines over =
      ap (λ (task : Result Task Refusal). then_left (with_left task state.dice) (carried_out time))
      (line_opens database command over password lines time files r.target r.holds)
      ∙ call_is_line time command password lines over.kind r.target state.opened state.dice r.alike

  same_request : (asked : Result LineRequest Refusal) → AsksOver database asked
      → over_line files (line_by_request time state asked) ≡ call_by_request time password (calls_at files state) asked
  same_request (Ok request.ends) h = refl
  same_request (Ok nothing) h = refl
  same_request (Ok (asks command lines)) h =
      same_task time files state (line_task state.opened command lines)
      ∙ ap (answered_call (calls_at files state)) (sym (same_call command lines h))
  same_request (Err refusal) h = same_refusal files refusal state

  abbrev Keeps : LineOutcome → Type 0
  Keeps line = KeepsFiles database password files line

  keeps_refused : (refusal : Refusal) (now : SessionState) → now.opened ≡ state.opened → Keeps (refused_line refusal now)
  keeps_refused refusal now same = by (nat_le (status_of refusal.reason) 2)
    where
      by : (low : Bool) → Keeps (if low then continues [] (refusal_line refusal) None now
          else ends (ended (status_of refusal.reason) (refusal_line refusal) now))
      by true = (tt, subst (λ (opened : Opened). Reopened database password files opened) (sym same) r)
      by false = (tt, subst (λ (opened : Opened). Reopened database password files opened) (sym same) r)

  module _ (command : Command) (over : IsOver database command) where
    -- A line whose document was written, or refused.
    keeps_new : (change : Change) (doc : BareDoc) (dice : List ℕ) (answer : Result NewFile Refusal) (left : List ℕ) → change.doc ≡ Some doc
        → (new_file (target_of command) state.opened.sealing doc dice).answer ≡ answer
        → LineReadsBack state.opened.sealing (line_by_file state change
        (after_left answer left (λ file left. with_left (Ok (ending_with change.text file)) left)).answer
        (after_left answer left (λ file left. with_left (Ok (ending_with change.text file)) left)).left)
        → Keeps (line_by_file state change
        (after_left answer left (λ file left. with_left (Ok (ending_with change.text file)) left)).answer
        (after_left answer left (λ file left. with_left (Ok (ending_with change.text file)) left)).left)
    keeps_new change doc dice (Ok file) left makes e reads =
        let named : file.name ≡ database.file = new_named (target_of command) state.opened.sealing doc dice file e ∙ over.file in
        let holds : HoldsNew state.opened.sealing doc file.bytes =
        subst (λ (d : Option BareDoc). HoldsNew state.opened.sealing (opened_after state.opened d).doc file.bytes) makes reads in
        let within = new_within (target_of command) state.opened.sealing doc dice file e in (
          named,
          subst (λ (d : Option BareDoc). Reopened database password (insert files file.name file.bytes) (opened_after state.opened d)) (sym makes)
              (subst (λ (name : List ℕ). Reopened database password (insert files name file.bytes) (opened_after state.opened (Some doc))) (sym named)
              (written_again database.access.plain database.access.key_file database.file password files state.opened doc file.bytes apart within r holds)),
        )
    keeps_new change doc dice (Err refusal) left makes e reads = keeps_refused refusal (record state { dice = left }) refl

    keeps_doc : (text : List ℕ) (doc : Option BareDoc) (attachment : Option (List ℕ)) (dice : List ℕ)
        → LineReadsBack state.opened.sealing (line_by_file state (record { text = text; doc = doc; attachment = attachment })
        (ended_so (targets_of command) state.opened.sealing text doc attachment dice).answer
        (ended_so (targets_of command) state.opened.sealing text doc attachment dice).left)
        → Keeps (line_by_file state (record { text = text; doc = doc; attachment = attachment })
        (ended_so (targets_of command) state.opened.sealing text doc attachment dice).answer
        (ended_so (targets_of command) state.opened.sealing text doc attachment dice).left)
    keeps_doc text None attachment dice reads =
        subst (λ (to : Option (List ℕ)). IsOwnFile database (attachment_file to attachment)
        × Reopened database password (files_after files (attachment_file to attachment)) state.opened) (sym (takes_none_out command over.kind)) (tt, r)
    keeps_doc text (Some doc) attachment dice reads =
        let written = new_file (target_of command) state.opened.sealing doc dice in
        keeps_new (record { text = text; doc = Some doc; attachment = attachment }) doc dice written.answer written.left refl refl reads

    keeps_change : (lines : LastLines) (change : Result Change Refusal) (dice : List ℕ)
        → LineReadsBack state.opened.sealing (line_by_change state (line_task state.opened command lines) change dice)
        → Keeps (line_by_change state (line_task state.opened command lines) change dice)
    keeps_change lines (Ok change) dice reads = keeps_doc change.text change.doc change.attachment dice reads
    keeps_change lines (Err refusal) dice reads = keeps_refused refusal (record state { dice = dice }) refl

  keeps_request : (asked : Result LineRequest Refusal) → AsksOver database asked
      → LineReadsBack state.opened.sealing (line_by_request time state asked) → Keeps (line_by_request time state asked)
  keeps_request (Ok request.ends) h reads = (tt, r)
  keeps_request (Ok nothing) h reads = (tt, r)
  keeps_request (Ok (asks command lines)) h reads =
      let made = change_of_task time (line_task state.opened command lines) state.dice in
      keeps_change command h lines made.answer made.left reads
  keeps_request (Err refusal) h reads = keeps_refused refusal state refl

-- ---- the next line

module _ (time : ℕ) (database : SessionDatabase) (password : Option (List ℕ)) (apart : database.access.key_file ≢ Some database.file)
    (files : FileMap) (state : SessionState) (r : Reopened database password files state.opened) where
  pub same_line : over_line files (line_outcome time database state) ≡ call_outcome time database password (calls_at files state)
  same_line =
      let read = line_read database state.number state.input in
      same_request time database password apart files (state_after state read) r read.answer (read_over database state.number state.input)

  pub line_keeps : LineReadsBack state.opened.sealing (line_outcome time database state) → KeepsFiles database password files (line_outcome time database state)
  line_keeps reads =
      let read = line_read database state.number state.input in
      keeps_request time database password apart files (state_after state read) r read.answer (read_over database state.number state.input) reads
