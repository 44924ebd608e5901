-- What a command does does not depend on the seed or salt that its database was opened with.
use Rattle.std.proofs.Common.{◌≡◌, ℕ, true, List, [], ◌++◌, codes, Option, Some, None, Ok, refl, sym, ap, ◌∙◌}
use Rattle.std.specs.Prelude.{option_map}
use Rattle.key_core.specs.declared.kdf.Kdf.{Kdf}
use Rattle.key_core.specs.declared.kdf.Kdf.TheVariants as kdf
use Rattle.vault_model.specs.Db.{NodeId}
use Rattle.vault_model.specs.Tree.{BareDoc}
use Rattle.kdbx_frame.specs.declared.sealings.Sealing.{Sealing}
use Rattle.kdbx_frame.specs.declared.settings.Settings.{Settings}
use Rattle.file_limits.specs.KdbxWriting.Kdf.{with_salt}
use Rattle.cli_messages.specs.Phases.{StreamAnswer, then_left, with_left}
use Rattle.cli_needs.specs.declared.command.Command.{Command}
use Rattle.cli_needs.specs.declared.command.Command.TheVariants.{Ls, Show, History, Search, Add, Edit, Restore, ExportAttachment, ImportAttachment, RemoveAttachment, Move, Remove, MakeGroup, RemoveGroup, Merge, Import, Create, Export, EditFile, Info}
use Rattle.cli_needs.specs.Needs.{generated_by}
use Rattle.cli_lines.specs.Lines.{LastLines, lines_with}
use Rattle.session_core.specs.CliPrinting.Info.{cipher_name, content_lines, file_lines, kdf_text, line, name_lines, settings_lines, version_name}
use Rattle.cli_sessions.specs.SessionLines.{in_session}
use Rattle.cli_files.specs.Files.{Opened}
use Rattle.cli_files.specs.Tasks.{Task, task_with}
use Rattle.cli_writing.specs.Writing.{NewFile}
use Rattle.session_core.specs.CliCommands.Commands.{Inputs, change_with, drawn_id, makes_node, password_of, printed_text, with_password}
use Rattle.resealing_laws.specs.Salts.{unsalted}
use Rattle.resealing_laws.proofs.Salts.{same_sealed}
use Rattle.call_input.specs.Opening.{one_database}
use Rattle.session_core.specs.CallRun.Endings.{Targets, carried_out, change_of_task, ended_so, ending_with, inputs_of, new_file, settings_in, targets_of}
use Rattle.session_core.specs.Sessions.{line_task}
use Rattle.session_laws.specs.SessionLaws.{AreAlike, unsalted_sealing, without_salt}

-- ---- what is printed of settings

kdf_said : (k : Kdf) (salt : List ℕ) → kdf_text (with_salt k salt) ≡ kdf_text k
kdf_said (kdf.Aes rounds seed) salt = refl
kdf_said (kdf.Argon kind passes bytes lanes own) salt = refl

settings_said : (s : Settings) → settings_lines (unsalted s) ≡ settings_lines s
settings_said s =
    ap (λ (text : List ℕ). line (codes "Version: ") (version_name s.version) ++ line (codes "Cipher: ") (cipher_name s.cipher) ++ line (codes "KDF: ") text)
    (kdf_said s.kdf [])

file_said : (sealing : Option Sealing) → file_lines (settings_in (option_map unsalted_sealing sealing)) ≡ file_lines (settings_in sealing)
file_said None = refl
file_said (Some sealing) = settings_said sealing.settings

-- ---- what a command makes

-- A command of lines makes the same of a document with settings of which the same is printed.
with_same : (time : ℕ) (command : Command) (input : Inputs) (one other : Option Settings) (id : NodeId) (doc : BareDoc) → in_session command ≡ true
    → file_lines one ≡ file_lines other
    → change_with time command (record input { settings = one }) id doc ≡ change_with time command (record input { settings = other }) id doc
with_same time (Ls access file group recursive flat ids) input one other id doc s e = refl
with_same time (Show access file entry clear all attachments names totp at) input one other id doc s e = refl
with_same time (History access file entry) input one other id doc s e = cc
with_same time (Search access file term) input one other id doc s e = refl
with_same time (Add access file entry asked) input one other id doc s e = refl
with_same time (Edit access file entry asked further) input one other id doc s e = refl
with_same time (Restore access file entry version) input one other id doc s e = refl
with_same time (ExportAttachment access file entry name to) input one other id doc s e = cc
with_same time (ImportAttachment access file entry name source replaces) input one other id doc s e = cc
with_same time (RemoveAttachment access file entry name) input one other id doc s e = cc
with_same time (Move access file node group) input one other id doc s e = refl
with_same time (Remove access file entry) input one other id doc s e = refl
with_same time (MakeGroup access file group) input one other id doc s e = refl
with_same time (RemoveGroup access file group) input one other id doc s e = refl
with_same time (Merge access file names from asked dry details) input one other id doc s e = cc
with_same time (Import access format source from file) input one other id doc s e = cc
with_same time (Create access file name cipher kdf) input one other id doc s e = cc
with_same time (Export access format file) input one other id doc s e = cc
with_same time (EditFile access file change) input one other id doc s e = cc
with_same time (Info access file) input one other id doc s e =
    ap (λ (lines : List ℕ). printed_text (Ok (name_lines doc ++ lines ++ content_lines doc))) e

-- A task whose database was opened without the seed or salt.
abbrev unsalted_task : Task → Task
unsalted_task task = record task { opened = without_salt task.opened }

same_change : (time : ℕ) (task : Task) (dice : List ℕ) → in_session task.command ≡ true
    → change_of_task time (unsalted_task task) dice ≡ change_of_task time task dice
same_change time task dice s =
    let input : Inputs = inputs_of task in
    let without : Option Settings = settings_in (option_map unsalted_sealing task.opened.sealing) in
    let given : Option Settings = settings_in task.opened.sealing in
    λ i. then_left (drawn_id (makes_node task.command task.opened.doc) dice) (λ id left.
    then_left (password_of (generated_by task.command) input.line left) (λ password left'.
    with_left (with_same time task.command (with_password password input) without given id task.opened.doc s (file_said task.opened.sealing) i) left'))

-- ---- what is written

same_new : (name : List ℕ) (sealing : Option Sealing) (doc : BareDoc) (dice : List ℕ)
    → new_file name (option_map unsalted_sealing sealing) doc dice ≡ new_file name sealing doc dice
same_new name None doc dice = refl
same_new name (Some sealing) doc dice = same_sealed name sealing.settings sealing.composite doc dice

same_ended : (targets : Targets) (sealing : Option Sealing) (text : List ℕ) (doc : Option BareDoc) (attachment : Option (List ℕ)) (dice : List ℕ)
    → ended_so targets (option_map unsalted_sealing sealing) text doc attachment dice ≡ ended_so targets sealing text doc attachment dice
same_ended targets sealing text None attachment dice = refl
same_ended targets sealing text (Some doc) attachment dice =
    ap (λ (made : StreamAnswer NewFile). then_left made (λ file left. with_left (Ok (ending_with text file)) left)) (same_new targets.database sealing doc dice)

same_carried : (time : ℕ) (task : Task) (dice : List ℕ) → in_session task.command ≡ true
    → carried_out time (unsalted_task task) dice ≡ carried_out time task dice
unfolding carried_out
same_carried time task dice s = λ i.
    then_left (same_change time task dice s i) (λ change left.
    same_ended (targets_of task.command) task.opened.sealing change.text change.doc change.attachment left i)

-- ---- a line, and a call

module _ (time : ℕ) (command : Command) (password : Option (List ℕ)) (lines : LastLines) (fits : in_session command ≡ true) where
  -- The task of a call on this database.
  abbrev call_task : Opened → Task
  call_task opened = task_with command (lines_with password [] lines) (one_database opened) None

  same_over : (one other : Opened) (dice : List ℕ) → AreAlike one other
      → carried_out time (call_task one) dice ≡ carried_out time (call_task other) dice
  same_over one other dice alike =
      sym (same_carried time (call_task one) dice fits)
      ∙ ap (λ (opened : Opened). carried_out time (call_task opened) dice) alike
      ∙ same_carried time (call_task other) dice fits

  -- The password is not used again.
  same_lines : (opened : Opened) (dice : List ℕ) → carried_out time (call_task opened) dice ≡ carried_out time (line_task opened command lines) dice
  unfolding carried_out
  same_lines opened dice = refl

  -- A call on a database that is alike is carried out as the line.
  pub call_is_line : (one other : Opened) (dice : List ℕ) → AreAlike one other
      → carried_out time (call_task one) dice ≡ carried_out time (line_task other command lines) dice
  call_is_line one other dice alike = same_over one other dice alike ∙ same_lines other dice
