-- How a command ends: what is printed, the file that is written, and what is left of the dice.
use Rattle.std.specs.Prelude.{◌≡◌, ◌≤◌, ℕ, Bool, true, List, Option, None, Some, Result, Ok, Err, option_map}
use Rattle.vault_model.specs.Tree.{BareDoc}
use Rattle.cli_messages.specs.declared.answers.Refusal.{Refusal}
use Rattle.cli_messages.specs.declared.answers.Stop.{Stop}
use Rattle.cli_messages.specs.declared.answers.Stop.TheVariants.{Refused, FileFault, InputFault, NoMemory}
use Rattle.cli_messages.specs.Messages.{status_of}
use Rattle.cli_messages.specs.Phases.{IsLeft, StreamAnswer, then_left, with_left}
use Rattle.cli_needs.specs.declared.command.Command.{Command}
use Rattle.cli_needs.specs.Needs.{exported_to, target_of}
use Rattle.kdbx_frame.specs.declared.settings.Settings.{Settings}
use Rattle.kdbx_frame.specs.declared.sealings.Sealing.{Sealing}
use Rattle.cli_commands.specs.CliWriting.Held.{HoldsPlain, IsWritten}
use Rattle.cli_commands.specs.CliWriting.Writing.{HasFile, IsSame, NewFile, RefusesFile, Store, WritesFile, plain_file}
use Rattle.cli_sealing.specs.Held.{HoldsSealed}
use Rattle.cli_sealing.specs.Sealing.{sealed_file, settings_for}
use Rattle.cli_commands.specs.declared.output.Output.{Output}
use Rattle.cli_commands.specs.Commands.{Change, Inputs, change_of}
use Rattle.cli_commands.specs.SeenChange.{output_text}
use Rattle.cli_files.specs.Files.{Opened}
use Rattle.cli_files.specs.Tasks.{Task}

-- ---- what is defined

-- What a command was carried out to: what is printed, and the file that is written, if one is.
pub record Ending : Type 0 where
  pub text : List ℕ
  pub file : Option NewFile

-- A text is printed and a file written.
abbrev pub ending_with : List ℕ → NewFile → Ending
ending_with text file = record { text = text; file = Some file }

-- A text is printed and no file written.
abbrev pub ending_without : List ℕ → Ending
ending_without text = record { text = text; file = None }

-- The file of a database that has this document now, over the dice: a plain document, or sealed as
-- it was.
abbrev pub new_file : List ℕ → Option Sealing → BareDoc → List ℕ → StreamAnswer NewFile
new_file name None doc dice = with_left (plain_file name doc) dice
new_file name (Some sealing) doc dice =
    sealed_file name sealing.settings sealing.composite doc dice

-- The new file that an attachment is taken out into, if it is.
abbrev pub attachment_file : Option (List ℕ) → Option (List ℕ) → Option NewFile
attachment_file (Some name) (Some bytes) = Some (record { name = name; bytes = bytes })
attachment_file name bytes = None

-- The files of a command: that of its database, and the one that it makes of an attachment, where it
-- names one.
pub record Targets : Type 0 where
  pub database : List ℕ
  pub attachment : Option (List ℕ)

-- The files of a command.
abbrev pub targets_of : Command → Targets
targets_of command = record {
  database = target_of command;
  attachment = exported_to command;
}

-- What a command ends with that prints this text and has this document after it, if another one; or
-- these bytes of an attachment, if some.
abbrev pub ended_so : Targets → Option Sealing → (text : List ℕ) → Option BareDoc
    → (attachment : Option (List ℕ)) → List ℕ → StreamAnswer Ending
ended_so targets sealing text None attachment dice = with_left
    (Ok (record { text = text; file = attachment_file targets.attachment attachment })) dice
ended_so targets sealing text (Some doc) attachment dice =
    then_left (new_file targets.database sealing doc dice)
    (λ file left. with_left (Ok (ending_with text file)) left)

-- What a command ends with that makes this change of its document.
abbrev pub ended_with : Targets → Option Sealing → Change → List ℕ → StreamAnswer Ending
ended_with targets sealing change =
    ended_so targets sealing change.text change.doc change.attachment

-- The settings of a database's file, which a plain document lacks.
abbrev pub settings_in : Option Sealing → Option Settings
settings_in sealing = option_map (λ s. s.settings) sealing

-- What the command of a task works with beside its document.
abbrev pub inputs_of : Task → Inputs
inputs_of task = record {
  line = task.lines.more;
  otp = task.lines.otp;
  fields = task.lines.fields;
  attached = task.attached;
  sources = task.sources;
  settings = settings_in task.opened.sealing;
  passed_over = task.opened.passed_over;
}

-- What the command of a task makes of its document, over the dice.
abbrev pub change_of_task : ℕ → Task → List ℕ → StreamAnswer Change
change_of_task time task dice =
    change_of time task.command (inputs_of task) task.opened.doc dice

-- What a task is carried out to at a moment: what the command makes of its document, over the dice,
-- and then the file. What is left of the dice is defined after a refusal too.
unfoldable pub carried_out : ℕ → Task → List ℕ → StreamAnswer Ending
carried_out time task dice =
    then_left (change_of_task time task dice) (λ change left.
    ended_with (targets_of task.command) task.opened.sealing change left)

-- ---- what is left of a database that stays open

-- What a file is sealed with once it holds this document: settings of the version that it is written
-- in, and the same composite key.
abbrev pub resealed : BareDoc → Sealing → Sealing
resealed doc sealing = record sealing { settings = settings_for sealing.settings doc }

-- A database after a change of its document, or after none.
abbrev pub opened_after : Opened → Option BareDoc → Opened
opened_after opened None = opened
opened_after opened (Some doc) = record opened {
  doc = doc;
  sealing = option_map (resealed doc) opened.sealing;
}

-- A database that stays open was left as the command says, provided that a command that makes no
-- document only reads it.
abbrev pub LeavesDatabase : Bool → Result Change Refusal → (before now : Opened) → Type 0
LeavesDatabase reads (Ok change) before now = (change.doc ≡ None → reads ≡ true)
    → now ≡ opened_after before change.doc
LeavesDatabase reads (Err refusal) before now = ⊥

-- A refusal of status 1 or 2, after which a database that stays open is as it was.
abbrev pub IsRecoverable : Stop → Type 0
IsRecoverable (Refused refusal) = status_of refusal.reason ≤ 2
IsRecoverable (FileFault name) = ⊥
IsRecoverable InputFault = ⊥
IsRecoverable NoMemory = ⊥

-- ---- what a written file holds

-- Bytes hold a document as a database holds it: by itself, or sealed as it was.
abbrev pub HoldsNew : Option Sealing → BareDoc → List ℕ → Type 0
HoldsNew None doc bytes = HoldsPlain doc bytes
HoldsNew (Some sealing) doc bytes =
    HoldsSealed (settings_for sealing.settings doc) sealing.composite doc bytes

-- The store after a command that wrote this file, with these very bytes, or none: every other file
-- is as before.
abbrev pub Stores : Option NewFile → Store → Store → Type 0
Stores None before now = IsSame before now
Stores (Some file) before now = HasFile file before now

-- The database's file holds the document that is written, if one is, or a new file has the bytes of
-- the attachment that is taken out, if one is; and every other file is as before. Otherwise nothing
-- changed.
abbrev pub ReadsBackSo : Targets → Option Sealing → Option BareDoc
    → (attachment : Option (List ℕ)) → Store → Store → Type 0
ReadsBackSo targets sealing None attachment before now =
    Stores (attachment_file targets.attachment attachment) before now
ReadsBackSo targets sealing (Some doc) attachment before now =
    IsWritten (HoldsNew sealing doc) targets.database before now

-- The same of what a command makes of its document.
abbrev pub ReadsBack : Targets → Option Sealing → Change → Store → Store → Type 0
ReadsBack targets sealing change before now =
    ReadsBackSo targets sealing change.doc change.attachment before now

-- ---- how the code relates to it

-- A stop is no refusal: a file or the input failed, or memory ran out.
abbrev pub IsUnrefused : Stop → Type 0
IsUnrefused (Refused refusal) = ⊥
IsUnrefused (FileFault name) = Unit {0}
IsUnrefused InputFault = Unit {0}
IsUnrefused NoMemory = Unit {0}

-- A command that prints this text ended as is defined.
pub record EndsSo (printed : List ℕ) (defined : Result Ending Refusal) (before now : Store) : Type 0
  where
    pub ending : Ending
    pub is : defined ≡ Ok ending
    pub text : printed ≡ ending.text
    pub store : Stores ending.file before now

-- A command was refused as is defined, and the store is as it was.
pub record EndsRefused (refusal : Refusal) (defined : Result Ending Refusal) (before now : Store) :
    Type 0 where
  pub is : defined ≡ Err refusal
  pub same : IsSame before now

-- The defined file was written, and of the dice is left what is defined; or writing stopped.
abbrev pub WritesNew : Result (Unit {0}) Stop → StreamAnswer NewFile → (before now : Store)
    → (dice dice' : Option (List ℕ)) → Type 0
WritesNew (Ok _) defined before now dice dice' =
    WritesFile defined.answer before now × IsLeft dice dice' defined.left
WritesNew (Err (Refused refusal)) defined before now dice dice' =
    RefusesFile refusal defined.answer before now × IsLeft dice dice' defined.left
WritesNew (Err (FileFault name)) defined before now dice dice' = Unit {0}
WritesNew (Err InputFault) defined before now dice dice' = Unit {0}
WritesNew (Err NoMemory) defined before now dice dice' = Unit {0}

-- A command that prints this text wrote its file as is defined, if it writes one, and left of the
-- dice what is defined; or it stopped.
abbrev pub EndsWith : List ℕ → Result (Unit {0}) Stop → StreamAnswer Ending → (before now : Store)
    → (dice dice' : Option (List ℕ)) → Type 0
EndsWith printed (Ok _) defined before now dice dice' =
    EndsSo printed defined.answer before now × IsLeft dice dice' defined.left
EndsWith printed (Err (Refused refusal)) defined before now dice dice' =
    EndsRefused refusal defined.answer before now × IsLeft dice dice' defined.left
EndsWith printed (Err (FileFault name)) defined before now dice dice' = Unit {0}
EndsWith printed (Err InputFault) defined before now dice dice' = Unit {0}
EndsWith printed (Err NoMemory) defined before now dice dice' = Unit {0}

-- A command was carried out as is defined, and left of the dice what is defined, or stopped.
abbrev pub Ends : Result Output Stop → StreamAnswer Ending → (before now : Store)
    → (dice dice' : Option (List ℕ)) → Type 0
Ends (Ok output) defined before now dice dice' =
    EndsSo (output_text output) defined.answer before now × IsLeft dice dice' defined.left
Ends (Err (Refused refusal)) defined before now dice dice' =
    EndsRefused refusal defined.answer before now × IsLeft dice dice' defined.left
Ends (Err (FileFault name)) defined before now dice dice' = Unit {0}
Ends (Err InputFault) defined before now dice dice' = Unit {0}
Ends (Err NoMemory) defined before now dice dice' = Unit {0}

-- What was printed is what the command of a task makes of its document with these dice, and the
-- document that it makes is in the file that was written, if one is written, or the attachment that
-- it takes out.
pub record IsOfDice (time : ℕ) (task : Task) (dice printed : List ℕ) (before now : Store) : Type 0
  where
    pub change : Change
    pub makes : (change_of_task time task dice).answer ≡ Ok change
    pub text : printed ≡ change.text
    pub reads_back : ReadsBack (targets_of task.command) task.opened.sealing change before now

-- The same with some dice, whatever they report.
abbrev pub IsOfSomeDice : ℕ → Task → List ℕ → Store → Store → Type 0
IsOfSomeDice time task printed before now =
    (dice : List ℕ) × IsOfDice time task dice printed before now
