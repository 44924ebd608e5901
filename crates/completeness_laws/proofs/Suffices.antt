-- The conditions of a call suffice.
use Rattle.std.proofs.Common.{◌≡◌, ◌≤◌, ℕ, Bool, true, false, inl, nat_lt, not, List, ◌∷◌, Option, None, Some, Result, Ok, Err, is_some, refl, ap, ◌∙◌, arith}
use Rattle.std.proofs.lemmas.Bool.{ltb-true}
use Rattle.std.specs.Option.{ok_or, unwrap_or}
use Rattle.std.specs.Prelude.{[], if◌then◌else◌}
use Rattle.outside_core.specs.Results.{◌>>=◌}
use Rattle.time_core.specs.Times.{last_stamp}
use Rattle.vault_model.specs.Bare.{BareAttachment}
use Rattle.vault_model.specs.Db.{NodeId}
use Rattle.vault_model.specs.Shape.{EntryRecord}
use Rattle.vault_model.specs.Tree.{BareDoc, IsDoc, Tree}
use Rattle.vault_model.proofs.Tests.{is_false}
use Rattle.tree_core.specs.declared.fails.TreeFail.{TreeFail}
use Rattle.tree_core.specs.declared.fails.TreeFail.TheVariants.{NoAttachment, StampLimit}
use Rattle.tree_core.specs.Attachments.{attachment_named}
use Rattle.tree_core.specs.After.{Holding, after_add, after_attach, after_detach, after_edit, after_make_group, after_move_entry, after_move_group, after_remove_entry, after_remove_group, after_restore, attachment_in, needs_bin}
use Rattle.frame_laws.proofs.FoundAgain.{held_entry}
use Rattle.condition_laws.proofs.Succeeds.{add_succeeds, attach_succeeds, detach_succeeds, edit_succeeds, make_group_succeeds, move_entry_succeeds, move_group_succeeds, remove_entry_succeeds, remove_group_succeeds, restore_succeeds}
use Rattle.generation_laws.proofs.Choosing.{passwords_are_chosen}
use Rattle.agreed_laws.specs.Merges.{AreDocs}
use Rattle.content_condition_laws.proofs.Merging.{merge_succeeds}
use Rattle.content_condition_laws.proofs.Printing.{export_succeeds, history_succeeds, search_succeeds, show_code_succeeds, show_succeeds}
use Rattle.document_merge.specs.Merging.{merge_result}
use Rattle.merge_changes.specs.Equality.{same_doc}
use Rattle.kdbx_frame.specs.declared.sealings.Sealing.{Sealing}
use Rattle.kdbx_seal.specs.Made.{made_file}
use Rattle.cli_messages.specs.Messages.{refusal_of}
use Rattle.cli_messages.specs.declared.answers.Reason.TheVariants.{IdTaken}
use Rattle.cli_messages.specs.declared.answers.Refusal.{Refusal}
use Rattle.cli_messages.specs.Phases.{StreamAnswer, after_left, then_left, with_left}
use Rattle.cli_codes.specs.Codes.{code_refusal}
use Rattle.cli_showing.specs.Showing.{code_shown, entry_shown}
use Rattle.cli_profiles.specs.declared.profiles.PasswordProfile.{PasswordProfile}
use Rattle.cli_needs.specs.declared.command.Command.{Command}
use Rattle.cli_needs.specs.declared.command.Command.TheVariants.{Ls, Show, History, Search, Add, Edit, Restore, ExportAttachment, ImportAttachment, RemoveAttachment, Move, Remove, MakeGroup, RemoveGroup, Merge, Import, Create, Export, EditFile, Info}
use Rattle.cli_needs.specs.Needs as from
use Rattle.cli_needs.specs.Needs.{Origin, generated_by, needs_of, origin_of}
use Rattle.cli_printing.specs.Listing.{tree_listed}
use Rattle.cli_writing.specs.Writing.{file_or_refusal}
use Rattle.cli_sealing.specs.Draws.{after_draws, draws_of}
use Rattle.cli_sealing.specs.Sealing.{file_by, file_unless, settings_for}
use Rattle.cli_changes.specs.Attachments.{after_attach_command, after_detach_command, attachment_bytes, with_attached_at, with_detached_at}
use Rattle.cli_changes.specs.Entries.{AfterCommand, after_add_command, after_edit_command, further_of, time_of, values_of, with_edited_at, with_entry_at}
use Rattle.cli_changes.specs.Fails.{change_or_refusal, named_or_refusal}
use Rattle.cli_changes.specs.Versions.{after_restore_command, with_restored_at}
use Rattle.cli_changes.specs.Nodes.{after_entry_move, after_group_move, after_mkdir, after_rm, after_rmdir, names_group, with_entry_moved_at, with_group_at, with_group_moved_at, without_entry_at, without_group_at}
use Rattle.tree_core.specs.Changes.{is_free}
use Rattle.cli_commands.specs.Commands.{Change, Inputs, bin_id, change_by, change_with, created_change, created_or_refusal, drawn_id, exported_file, exported_so, listing_of, makes_node, merged_change, new_document, password_of, printed_text, with_password, writing}
use Rattle.cli_merging.specs.Merging.{after_merge, after_merged, changes_between, merged_or_refusal}
use Rattle.call_run.specs.Endings.{Targets, carried_out, change_of_task, ended_so, ended_with, ending_with, inputs_of, targets_of}
use Rattle.cli_files.specs.Tasks.{Task, databases_in}
use Rattle.call_input.specs.Opening.{HoldByOrigin}
use Rattle.keepass_call.specs.Held.{IsTask}
use Rattle.keepass_call.specs.Outcome.{World}
use Rattle.keepass_call.proofs.TaskDocs.{database_docs}
use Rattle.call_conditions.specs.Conditions.{Answers, CanChange, CanGenerate, CanMove, CanShowEntry, CanTakeOut, FitsFile, dice_after_id, id_for}
use Rattle.call_conditions.specs.Copies.{is_opened}
use Rattle.completeness_laws.specs.Laws.{CommandsSucceed, ConditionsSuffice}

-- ---- commands that change the tree

-- Some answer is not refused.
abbrev Gives : {A E : Type 0} → Result A E → Type 0
Gives {A} {E} r = (x : A) × (r ≡ Ok x)

sure : {A E : Type 0} (x : A) → Gives {A = A} {E = E} (Ok x)
sure x = (x, refl)

-- what is the same gives the same
gives_so : {A E : Type 0} (r s : Result A E) → r ≡ s → Gives s → Gives r
gives_so r s e g = (g.0, e ∙ g.1)

-- a first step that gives something, after which the next does
after_one : {A B E : Type 0} (r : Result A E) (next : A → Result B E) → Gives r → ((x : A) → Gives (next x)) → Gives (r >>= next)
after_one r next one rest = let two = rest one.0 in (two.0, ap (λ t. t >>= next) one.1 ∙ two.1)

-- a moment of the calendar
within_calendar : (now : ℕ) → now ≤ last_stamp → time_of now ≡ Ok now
within_calendar now within =
    ap (λ b. if b then Err (StampLimit now) else Ok now) (is_false (nat_lt last_stamp now) (λ p. let less = ltb-true last_stamp now p in omega (arith, less, within)))

-- a change at such a moment
at_moment : {A : Type 0} (file : List ℕ) (now : ℕ) (made : ℕ → Result A TreeFail) → now ≤ last_stamp → Gives (made now) → Gives (change_or_refusal file (time_of now >>= made))
at_moment file now made within gives =
    (gives.0, ap (λ t. change_or_refusal file (t >>= made)) (within_calendar now within) ∙ ap (change_or_refusal file) gives.1)

-- the same where the command names fields and an attachment
named_at_moment : {A : Type 0} (file : List ℕ) (unset : List (List ℕ)) (attachment : List ℕ) (now : ℕ) (made : ℕ → Result A TreeFail) → now ≤ last_stamp → Gives (made now)
    → Gives (named_or_refusal file unset attachment (time_of now >>= made))
named_at_moment file unset attachment now made within gives =
    (gives.0, ap (λ t. named_or_refusal file unset attachment (t >>= made)) (within_calendar now within) ∙ ap (named_or_refusal file unset attachment) gives.1)

-- what a change of a document prints and leaves
reported : {A : Type 0} (r : Result A Refusal) (next : A → Result AfterCommand Refusal) → Gives r → ((x : A) → Gives (next x)) → Gives (new_document (r >>= next))
reported r next one rest = let two = after_one r next one rest in (writing two.0.text two.0.doc, ap new_document two.1)

module _ (time : ℕ) (within : time ≤ last_stamp) (file : List ℕ) (quiet : Bool) (id : NodeId) (d : BareDoc) (isd : IsDoc d) where
  move_gives : (b : Bool) (node group : List ℕ) → CanMove b node group time d → Gives (new_document (if b then after_group_move file quiet node group time d else after_entry_move file quiet node group time d))
  unfolding after_group_move after_entry_move
  move_gives true node group can = reported (change_or_refusal file (with_group_moved_at node group time d)) _
      (at_moment file time (λ t. after_move_group node group t d) within (move_group_succeeds node group time d can)) (λ new. sure _)
  move_gives false node group can = reported (change_or_refusal file (with_entry_moved_at node group time d)) _
      (at_moment file time (λ t. after_move_entry node group t d) within (move_entry_succeeds node group time d isd can)) (λ new. sure _)

  -- a bin is given exactly where one has to be made
  bin_given : (b : Bool) → is_some (if b then Some id else None) ≡ b
  bin_given true = refl
  bin_given false = refl

  listing_gives : (recursive flat ids : Bool) (o : Option Tree) (tree : Tree) → o ≡ Some tree → Gives (listing_of file recursive flat ids o)
  listing_gives recursive flat ids None tree is = cc is
  listing_gives recursive flat ids (Some t) tree is = sure _

gives_answers : (time : ℕ) (command : Command) (input : Inputs) (id : NodeId) (d : BareDoc) → Gives (change_with time command input id d)
    → Answers time command input id d
gives_answers time command input id d gives = record { change = gives.0; is = gives.1 }

-- what a command prints that writes nothing
prints : (r : Result (List ℕ) Refusal) → Gives r → Gives (printed_text r)
prints r gives = gives_so _ _ (ap printed_text gives.1) (sure _)

-- ---- an attachment that is taken out

-- the entry that a path names has it
taken_out : (path name : List ℕ) (d : BareDoc) → IsDoc d → (can : CanTakeOut path name d) → attachment_in path name d ≡ Ok can.attachment
taken_out path name d isd can =
    let n = can.entry in
    let h = held_entry path d isd n.entry n.group n.before n.named n.held n.is in
    ap (λ r. r >>= λ (held : Holding). attachment_named name held.entry.1.current.mark.content) h.is
    ∙ ap (λ (x : EntryRecord). attachment_named name x.current.mark.content) h.record_is
    ∙ ap (λ (o : Option BareAttachment). ok_or o NoAttachment) can.there

bytes_give : (file path name : List ℕ) (d : BareDoc) → IsDoc d → CanTakeOut path name d → Gives (attachment_bytes file path name d)
bytes_give file path name d isd can =
    gives_so _ _ (ap (λ r. named_or_refusal file [] name r >>= λ (attachment : BareAttachment). Ok attachment.bytes) (taken_out path name d isd can)) (sure _)

-- its bytes are printed, or put into a new file
export_gives : (quiet : Bool) (path name : List ℕ) (to : Option (List ℕ)) (bytes : Result (List ℕ) Refusal) → Gives bytes → Gives (exported_so quiet path name to bytes)
export_gives quiet path name None bytes gives = prints bytes gives
export_gives quiet path name (Some to) bytes gives = gives_so _ _ (ap (exported_file quiet path name to) gives.1) (sure _)

-- ---- other commands

-- what a merge makes
merges : (file : List ℕ) (quiet dry details : Bool) (names : List (List ℕ)) (d : BareDoc) (sources : List BareDoc) → Gives (merge_result d sources) → Gives (merged_change (after_merge file quiet dry details names d sources))
unfolding after_merge
merges file quiet dry details names d sources gives =
    gives_so _ _ (ap (λ r. merged_change (merged_or_refusal file r >>= λ new. Ok (after_merged file quiet dry details names d sources (not (same_doc d new)) new (changes_between d sources new)))) gives.1) (sure _)

-- what `show` prints
entry_gives : (file : List ℕ) (attachments totp : Bool) (path : List ℕ) (clear all : Bool) (names : List (List ℕ)) (at now : ℕ) (d : BareDoc) → CanShowEntry totp path clear all names at now d
    → Gives (if totp then code_shown file names at path now d else entry_shown file clear all attachments names at path d)
entry_gives file attachments true path clear all names at now d can = show_code_succeeds file path names at now d can
entry_gives file attachments false path clear all names at now d can = show_succeeds file path clear all attachments names at d can

-- what is not refused before it is looked for
checked : (r : Result (Unit {0}) Refusal) (next : Result AfterCommand Refusal) → r ≡ Ok tt → Gives (new_document next) → Gives (new_document (r >>= λ _. next))
checked r next is gives = (gives.0, ap (λ r. new_document (r >>= λ _. next)) is ∙ gives.1)

-- an empty database whose root's id is free
created_gives : (file : List ℕ) (quiet : Bool) (id : NodeId) (d : BareDoc) → is_free id d ≡ true → Gives (created_or_refusal file quiet id d)
created_gives file quiet id d free =
    gives_so _ _ (ap (λ b. if b then Ok (created_change quiet id d) else Err (refusal_of (IdTaken id) file)) free) (sure _)

pub commands_succeed : CommandsSucceed
unfolding after_add_command after_edit_command after_restore_command after_attach_command after_detach_command after_mkdir after_rm after_rmdir
commands_succeed time (Ls access file group recursive flat ids) input id d within docs can =
    gives_answers time (Ls access file group recursive flat ids) input id d (listing_gives time within file access.quiet id d (docs d (inl refl)) recursive flat ids (tree_listed group d) can.0 can.1)
commands_succeed time (Show access file entry clear all attachments names totp at) input id d within docs can =
    gives_answers time (Show access file entry clear all attachments names totp at) input id d (prints _ (entry_gives file attachments totp entry clear all names at time d can))
commands_succeed time (History access file entry) input id d within docs can =
    gives_answers time (History access file entry) input id d (prints _ (history_succeeds file entry d can))
commands_succeed time (Search access file term) input id d within docs can =
    gives_answers time (Search access file term) input id d (prints _ (search_succeeds file term d can))
commands_succeed time (Add access file entry asked) input id d within docs can =
    gives_answers time (Add access file entry asked) input id d (reported (change_or_refusal file (with_entry_at entry id (values_of asked input.line None) time d)) _
    (at_moment file time (λ t. after_add entry id (values_of asked input.line None) t d) within (add_succeeds entry id (values_of asked input.line None) time d can)) (λ new. sure _))
commands_succeed time (Edit access file entry asked further) input id d within docs can =
    let values = values_of asked input.line input.otp in
    let more = further_of further input.fields in
    gives_answers time (Edit access file entry asked further) input id d (checked (code_refusal file input.otp) _ can.code
    (reported (named_or_refusal file more.unset [] (with_edited_at entry values more time d)) _
    (named_at_moment file more.unset [] time (λ t. after_edit entry values more t d) within (edit_succeeds entry values more time d (docs d (inl refl)) can.entry)) (λ new. sure _)))
commands_succeed time (Restore access file entry version) input id d within docs can =
    gives_answers time (Restore access file entry version) input id d (reported (change_or_refusal file (with_restored_at entry version time d)) _
    (at_moment file time (λ t. after_restore entry version t d) within (restore_succeeds entry version time d (docs d (inl refl)) can)) (λ new. sure _))
commands_succeed time (ExportAttachment access file entry name to) input id d within docs can =
    gives_answers time (ExportAttachment access file entry name to) input id d
    (export_gives access.quiet entry name to (attachment_bytes file entry name d) (bytes_give file entry name d (docs d (inl refl)) can))
commands_succeed time (ImportAttachment access file entry name source replaces) input id d within docs can =
    let bytes = unwrap_or input.attached [] in
    gives_answers time (ImportAttachment access file entry name source replaces) input id d
    (reported (named_or_refusal file [] name (with_attached_at entry name bytes replaces time d)) _
    (named_at_moment file [] name time (λ t. after_attach entry name bytes replaces t d) within (attach_succeeds entry name bytes replaces time d (docs d (inl refl)) can)) (λ new. sure _))
commands_succeed time (RemoveAttachment access file entry name) input id d within docs can =
    gives_answers time (RemoveAttachment access file entry name) input id d
    (reported (named_or_refusal file [] name (with_detached_at entry name time d)) _
    (named_at_moment file [] name time (λ t. after_detach entry name t d) within (detach_succeeds entry name time d (docs d (inl refl)) can)) (λ new. sure _))
commands_succeed time (Move access file node group) input id d within docs can =
    gives_answers time (Move access file node group) input id d (move_gives time within file access.quiet id d (docs d (inl refl)) (names_group node) node group can)
commands_succeed time (Remove access file entry) input id d within docs can =
    gives_answers time (Remove access file entry) input id d (reported (change_or_refusal file (without_entry_at entry (bin_id id d) time d)) _
    (at_moment file time (λ t. after_remove_entry entry (bin_id id d) t d) within (remove_entry_succeeds entry (bin_id id d) time d (docs d (inl refl)) can)) (λ after. sure _))
commands_succeed time (MakeGroup access file group) input id d within docs can =
    gives_answers time (MakeGroup access file group) input id d (reported (change_or_refusal file (with_group_at group id time d)) _
    (at_moment file time (λ t. after_make_group group id t d) within (make_group_succeeds group id time d can)) (λ new. sure _))
commands_succeed time (RemoveGroup access file group) input id d within docs can =
    gives_answers time (RemoveGroup access file group) input id d (reported (change_or_refusal file (without_group_at group (bin_id id d) time d)) _
    (at_moment file time (λ t. after_remove_group group (bin_id id d) t d) within
    (remove_group_succeeds group (bin_id id d) time d (bin_given time within file access.quiet id d (docs d (inl refl)) (needs_bin d)) can)) (λ after. sure _))
commands_succeed time (Merge access file names from same dry details) input id d within docs can =
    gives_answers time (Merge access file names from same dry details) input id d (merges file access.quiet dry details names d input.sources (merge_succeeds d input.sources docs can))
commands_succeed time (Import access format source from file) input id d within docs can =
    gives_answers time (Import access format source from file) input id d (sure _)
commands_succeed time (Create access file name cipher kdf) input id d within docs can =
    gives_answers time (Create access file name cipher kdf) input id d (created_gives file access.quiet id d can)
commands_succeed time (Export access format file) input id d within docs can =
    gives_answers time (Export access format file) input id d (prints _ (export_succeeds file format d can))
commands_succeed time (EditFile access file change) input id d within docs can =
    gives_answers time (EditFile access file change) input id d (sure _)
commands_succeed time (Info access file) input id d within docs can =
    gives_answers time (Info access file) input id d (sure _)

-- ---- calls

id_drawn : {A : Type 0} (b : Bool) (next : NodeId → List ℕ → StreamAnswer A) (dice : List ℕ) → then_left (drawn_id b dice) next ≡ next (id_for b dice) (drawn_id b dice).left
id_drawn true next dice = refl
id_drawn false next dice = refl

-- what is written where a document fits its file
written_gives : (targets : Targets) (text : List ℕ) (sealing : Option Sealing) (d : BareDoc) (attachment : Option (List ℕ)) (dice : List ℕ) → FitsFile sealing d dice
    → Gives (ended_so targets sealing text (Some d) attachment dice).answer
unfolding file_by
written_gives targets text None d attachment dice fits =
    gives_so _ _ (ap (λ r. (then_left (with_left (file_or_refusal targets.database r) dice) (λ file left. with_left (Ok (ending_with text file)) left)).answer) fits.1) (sure _)
written_gives targets text (Some sealing) d attachment dice fits =
    let s = settings_for sealing.settings d in
    gives_so _ _
    (ap (λ why. (then_left (with_left (file_unless targets.database why (made_file s (draws_of s dice) sealing.composite d)) (after_draws s dice)) (λ file left. with_left (Ok (ending_with text file)) left)).answer) fits)
    (sure _)

ended_gives : (targets : Targets) (text : List ℕ) (sealing : Option Sealing) (doc : Option BareDoc) (attachment : Option (List ℕ)) (dice : List ℕ)
    → ((d : BareDoc) → doc ≡ Some d → FitsFile sealing d dice) → Gives (ended_so targets sealing text doc attachment dice).answer
ended_gives targets text sealing None attachment dice fits = sure _
ended_gives targets text sealing (Some d) attachment dice fits = written_gives targets text sealing d attachment dice (fits d refl)

-- the commands that open their database have a document; those that make one do not ask for it; and no
-- condition speaks of the password
answers : (time : ℕ) (command : Command) (input : Inputs) (password : Option (List ℕ)) (id : NodeId) (d : BareDoc) → time ≤ last_stamp
    → (is_opened (origin_of command) ≡ true → AreDocs (d ∷ input.sources)) → CanChange time command input id d → Answers time command (with_password password input) id d
answers time (Import access format source from file) input password id d within isd can =
    gives_answers time (Import access format source from file) (with_password password input) id d (sure _)
answers time (Create access file name cipher kdf) input password id d within isd can =
    gives_answers time (Create access file name cipher kdf) (with_password password input) id d (created_gives file access.quiet id d can)
answers time (EditFile access file change) input password id d within isd can =
    gives_answers time (EditFile access file change) (with_password password input) id d (sure _)
answers time (ExportAttachment access file entry name None) input password id d within isd can =
    commands_succeed time (ExportAttachment access file entry name None) (with_password password input) id d within (isd refl) can
answers time (ExportAttachment access file entry name (Some to)) input password id d within isd can =
    commands_succeed time (ExportAttachment access file entry name (Some to)) (with_password password input) id d within (isd refl) can
answers time (Ls access file group recursive flat ids) input password id d within isd can =
    commands_succeed time (Ls access file group recursive flat ids) (with_password password input) id d within (isd refl) can
answers time (Show access file entry clear all attachments names totp at) input password id d within isd can =
    commands_succeed time (Show access file entry clear all attachments names totp at) (with_password password input) id d within (isd refl) can
answers time (History access file entry) input password id d within isd can =
    commands_succeed time (History access file entry) (with_password password input) id d within (isd refl) can
answers time (Search access file term) input password id d within isd can =
    commands_succeed time (Search access file term) (with_password password input) id d within (isd refl) can
answers time (Add access file entry asked) input password id d within isd can =
    commands_succeed time (Add access file entry asked) (with_password password input) id d within (isd refl) can
answers time (Edit access file entry asked further) input password id d within isd can =
    commands_succeed time (Edit access file entry asked further) (with_password password input) id d within (isd refl) can
answers time (Restore access file entry version) input password id d within isd can =
    commands_succeed time (Restore access file entry version) (with_password password input) id d within (isd refl) can
answers time (ImportAttachment access file entry name source replaces) input password id d within isd can =
    commands_succeed time (ImportAttachment access file entry name source replaces) (with_password password input) id d within (isd refl) can
answers time (RemoveAttachment access file entry name) input password id d within isd can =
    commands_succeed time (RemoveAttachment access file entry name) (with_password password input) id d within (isd refl) can
answers time (Move access file node group) input password id d within isd can =
    commands_succeed time (Move access file node group) (with_password password input) id d within (isd refl) can
answers time (Remove access file entry) input password id d within isd can =
    commands_succeed time (Remove access file entry) (with_password password input) id d within (isd refl) can
answers time (MakeGroup access file group) input password id d within isd can =
    commands_succeed time (MakeGroup access file group) (with_password password input) id d within (isd refl) can
answers time (RemoveGroup access file group) input password id d within isd can =
    commands_succeed time (RemoveGroup access file group) (with_password password input) id d within (isd refl) can
answers time (Merge access file names from same dry details) input password id d within isd can =
    commands_succeed time (Merge access file names from same dry details) (with_password password input) id d within (isd refl) can
answers time (Export access format file) input password id d within isd can =
    commands_succeed time (Export access format file) (with_password password input) id d within (isd refl) can
answers time (Info access file) input password id d within isd can =
    commands_succeed time (Info access file) (with_password password input) id d within (isd refl) can

-- dice that can choose a password do
password_given : (o : Option PasswordProfile) (line : Option (List ℕ)) (dice : List ℕ) → CanGenerate o dice → Gives (password_of o line dice).answer
password_given None line dice can = sure line
password_given (Some profile) line dice can =
    let chosen = passwords_are_chosen profile.alphabet profile.length dice can in
    (Some chosen.0, ap (λ r. r >>= λ (password : List ℕ). Ok (Some password)) chosen.1)

id_left : (b : Bool) (dice : List ℕ) → (drawn_id b dice).left ≡ dice_after_id b dice
id_left true dice = refl
id_left false dice = refl

-- the documents of a task whose database is opened
opened_docs : (words : List (List ℕ)) (time : ℕ) (world : World) (task : Task) → IsTask words time world task → is_opened (origin_of task.command) ≡ true → AreDocs (task.opened.doc ∷ task.sources)
opened_docs words time world task is opened = of (origin_of task.command) opened is.holds
  where
    of : (o : Origin) → is_opened o ≡ true → HoldByOrigin o (needs_of task.command) task.lines time world.files (databases_in task) → AreDocs (task.opened.doc ∷ task.sources)
    of from.Opened e holds = database_docs (needs_of task.command) task.lines world.files (databases_in task) holds
    of (from.Exported to) e holds = database_docs (needs_of task.command) task.lines world.files (databases_in task) holds.1
    of (from.Attached source) e holds = database_docs (needs_of task.command) task.lines world.files (databases_in task) holds
    of (from.Imported import) e holds = cc e
    of (from.Created create) e holds = cc e
    of (from.Changed change) e holds = cc e

pub conditions_suffice : ConditionsSuffice
unfolding carried_out
conditions_suffice words time world can =
    let task = can.task in
    let input = inputs_of task in
    let made = makes_node task.command task.opened.doc in
    let id = id_for made world.dice in
    let chosen = password_given (generated_by task.command) input.line (dice_after_id made world.dice) can.can_generate in
    let password_is : (password_of (generated_by task.command) input.line (drawn_id made world.dice).left).answer ≡ Ok chosen.0 =
    ap (λ dice. (password_of (generated_by task.command) input.line dice).answer) (id_left made world.dice) ∙ chosen.1 in
    let a = answers time task.command input chosen.0 id task.opened.doc can.in_calendar (λ opened. opened_docs words time world task can.is_task opened) can.can in
    let is : (change_of_task time task world.dice).answer ≡ Ok a.change =
    ap (λ (t : StreamAnswer Change). t.answer) (id_drawn made (λ id. change_by time task.command input id task.opened.doc) world.dice)
    ∙ ap (λ r. (after_left r (password_of (generated_by task.command) input.line (drawn_id made world.dice).left).left (λ password left.
    with_left (change_with time task.command (with_password password input) id task.opened.doc) left)).answer) password_is ∙ a.is in
    let left = (change_of_task time task world.dice).left in
    let targets = targets_of task.command in
    let e = ended_gives targets a.change.text task.opened.sealing a.change.doc a.change.attachment left (λ d writes. can.fits a.change d is writes) in
    record {
      ending = e.0;
      is = record {
        task = task;
        is_task = can.is_task;
        gives = ap (λ r. (after_left r left (λ change rest. ended_with targets task.opened.sealing change rest)).answer) is ∙ e.1;
      };
    }
