-- What a change that was not refused leaves.
use Rattle.std.proofs.Common.{◌≡◌, ℕ, Bool, true, false, not, ◌&&◌, ◌⊎◌, inl, inr, List, [], Option, Some, None, Result, Ok, Err, codes, drop, is_some, nat_lt, refl, sym, ap, ◌∙◌, true≢false}
use Rattle.std.specs.Prelude.{if◌then◌else◌}
use Rattle.std.specs.Option.{unwrap_or}
use Rattle.outside_core.specs.Results.{◌>>=◌}
use Rattle.time_core.specs.Times.{last_stamp}
use Rattle.vault_model.specs.Db.{NodeId, nil_id}
use Rattle.vault_model.specs.Tree.{BareDoc, IsDoc}
use Rattle.merge_changes.specs.Equality.{same_doc}
use Rattle.merge_changes.proofs.SameValues.{doc_decides}
use Rattle.cli_commands.specs.DocumentMerge.Merging.{MergeResult, merge_result}
use Rattle.tree_core.specs.After.{AfterRemoval, after_add, after_attach, after_detach, after_edit, after_make_group, after_move_entry, after_move_group, after_remove_entry, after_remove_group, after_restore, needs_bin}
use Rattle.tree_core.specs.declared.fails.TreeFail.{TreeFail}
use Rattle.tree_core.specs.declared.fails.TreeFail.TheVariants.{StampLimit}
use Rattle.growth_laws.specs.Growth.{GrowsTo}
use Rattle.growth_laws.proofs.Commands.{add_grows, move_entry_grows, remove_entry_grows}
use Rattle.growth_laws.proofs.GroupCommands.{make_group_grows, move_group_grows, remove_group_grows}
use Rattle.history_laws.specs.Current.{current_view}
use Rattle.command_laws.proofs.Edits.{attach_grows_in_current, detach_grows_in_current, edit_grows_in_current, restore_grows_in_current}
use Rattle.cli_messages.specs.declared.answers.Refusal.{Refusal}
use Rattle.cli_messages.specs.Phases.{StreamAnswer, then_left, with_left}
use Rattle.cli_codes.specs.Codes.{code_refusal}
use Rattle.cli_generating.specs.Generated.{generated}
use Rattle.cli_profiles.specs.declared.profiles.PasswordProfile.{PasswordProfile}
use Rattle.cli_needs.specs.declared.command.Command.{Command}
use Rattle.cli_needs.specs.declared.command.Command.TheVariants.{Ls, Show, History, Search, Add, Edit, Restore, ExportAttachment, ImportAttachment, RemoveAttachment, Move, Remove, MakeGroup, RemoveGroup, Merge, Import, Create, Export, EditFile, Info}
use Rattle.cli_needs.specs.Needs.{generated_by}
use Rattle.cli_writing.specs.Drawing.{next_bytes}
use Rattle.cli_changes.specs.Attachments.{after_attach_command, after_detach_command}
use Rattle.cli_changes.specs.Entries.{AfterCommand, after_add_command, after_edit_command, entry_title, further_of, time_of, values_of}
use Rattle.cli_changes.specs.Fails.{change_or_refusal, named_or_refusal}
use Rattle.cli_changes.specs.Ids.{new_id}
use Rattle.cli_changes.specs.Nodes.{after_entry_move, after_group_move, after_mkdir, after_rm, after_rmdir, group_name, names_group}
use Rattle.cli_changes.specs.Reports.{report}
use Rattle.cli_changes.specs.Versions.{after_restore_command}
use Rattle.cli_commands.specs.CliMerging.Merging.{AfterMerge, after_merge, after_merged, changes_between, merged_or_refusal}
use Rattle.cli_commands.specs.Commands.{Change, Inputs, bin_id, change_by, change_with, drawn_id, makes_node, merged_change, new_document, password_of, some_password, with_password}
use Rattle.change_laws.specs.Changes.{CommandsGrow, LeavesGrown, LeavesMerged, MergesMerge, edits}

-- ---- results that are no refusals

same_answer : {A : Type 0} (x y : A) → ◌≡◌ {A = Result A Refusal} (Ok x) (Ok y) → x ≡ y
same_answer x y h = cc h

-- one result, and then the next
answered : {A B : Type 0} (r : Result A Refusal) (next : A → Result B Refusal) (y : B) → (r >>= next) ≡ Ok y → (x : A) × ((r ≡ Ok x) × (next x ≡ Ok y))
answered (Ok x) next y h = (x, (refl, h))
answered (Err refusal) next y h = cc h

unrefused : {A : Type 0} (file : List ℕ) (r : Result A TreeFail) (x : A) → change_or_refusal file r ≡ Ok x → r ≡ Ok x
unrefused file (Ok y) x h = ap Ok (same_answer y x h)
unrefused file (Err why) x h = cc h

unrefused_by_name : {A : Type 0} (file : List ℕ) (unset : List (List ℕ)) (attachment : List ℕ) (r : Result A TreeFail) (x : A)
    → named_or_refusal file unset attachment r ≡ Ok x → r ≡ Ok x
unrefused_by_name file unset attachment (Ok y) x h = ap Ok (same_answer y x h)
unrefused_by_name file unset attachment (Err why) x h = cc h

-- What was made of a document at a moment, and is in the change.
pub record IsMade {A : Type 0} (made : Result A TreeFail) (doc_of : A → BareDoc) (change : Change) : Type 0 where
  pub after : A
  pub is : made ≡ Ok after
  pub doc : change.doc ≡ Some (doc_of after)

left_by : (r : Result AfterCommand Refusal) (change : Change) → new_document r ≡ Ok change → (a : AfterCommand) × ((r ≡ Ok a) × (change.doc ≡ Some a.doc))
left_by (Ok a) change h = (a, (refl, ap (λ (c : Change). c.doc) (sym (same_answer _ change h))))
left_by (Err refusal) change h = cc h

-- An answer about what was made of a document, which is a refusal wherever nothing was made.
module _ {A : Type 0} (answer : Result A TreeFail → Result A Refusal) (made_of : (r : Result A TreeFail) (x : A) → answer r ≡ Ok x → r ≡ Ok x) where
  timed : (now : ℕ) (made : ℕ → Result A TreeFail) (x : A) (late : Bool)
      → answer ((if late then Err (StampLimit now) else Ok now) >>= made) ≡ Ok x → made now ≡ Ok x
  timed now made x true h = cc (made_of (Err (StampLimit now)) x h)
  timed now made x false h = made_of (made now) x h

  made_by : (now : ℕ) (made : ℕ → Result A TreeFail) (doc_of : A → BareDoc) (text : A → List ℕ) (change : Change)
      → new_document (answer (time_of now >>= made) >>= λ x. Ok (record { text = text x; doc = doc_of x })) ≡ Ok change
      → IsMade (made now) doc_of change
  made_by now made doc_of text change h =
      let a = left_by (answer (time_of now >>= made) >>= λ x. Ok (record { text = text x; doc = doc_of x })) change h in
      let x = answered (answer (time_of now >>= made)) (λ x. Ok (record { text = text x; doc = doc_of x })) a.0 a.1.0 in
      record {
        after = x.0;
        is = timed now made x.0 (nat_lt last_stamp now) x.1.0;
        doc = a.1.1 ∙ ap (λ (c : AfterCommand). Some c.doc) (sym (same_answer _ a.0 x.1.1));
      }

pub made_so : {A : Type 0} (file : List ℕ) (now : ℕ) (made : ℕ → Result A TreeFail) (doc_of : A → BareDoc) (text : A → List ℕ) (change : Change)
    → new_document (change_or_refusal file (time_of now >>= made) >>= λ x. Ok (record { text = text x; doc = doc_of x })) ≡ Ok change
    → IsMade (made now) doc_of change
made_so file = made_by (change_or_refusal file) (unrefused file)

-- The same where the command names the fields that are taken away, and an attachment.
pub made_by_name : {A : Type 0} (file : List ℕ) (unset : List (List ℕ)) (attachment : List ℕ) (now : ℕ) (made : ℕ → Result A TreeFail) (doc_of : A → BareDoc) (text : A → List ℕ)
    (change : Change) → new_document (named_or_refusal file unset attachment (time_of now >>= made) >>= λ x. Ok (record { text = text x; doc = doc_of x })) ≡ Ok change
    → IsMade (made now) doc_of change
made_by_name file unset attachment = made_by (named_or_refusal file unset attachment) (unrefused_by_name file unset attachment)

-- what is not refused before it is looked for
pub unchecked : (checked : Result (Unit {0}) Refusal) (r : Result AfterCommand Refusal) (change : Change) → new_document (checked >>= λ _. r) ≡ Ok change → new_document r ≡ Ok change
unchecked (Ok done) r change h = h
unchecked (Err refusal) r change h = cc h

-- ---- commands

pub bin_given : (id : NodeId) (b : Bool) → is_some (if b then Some id else None) ≡ b
bin_given id true = refl
bin_given id false = refl

grown : (d : BareDoc) (change : Change) (e : BareDoc) → change.doc ≡ Some e → (IsDoc e → GrowsTo d e) → LeavesGrown d change
grown d change e is grows = record { doc = e; is = is; grows = λ ise. ap current_view (grows ise) }

module _ (time : ℕ) (file : List ℕ) (quiet : Bool) (id : NodeId) (d : BareDoc) (isd : IsDoc d) (change : Change) where
  moved : (b : Bool) (node group : List ℕ) → new_document (if b then after_group_move file quiet node group time d else after_entry_move file quiet node group time d) ≡ Ok change → LeavesGrown d change
  unfolding after_group_move after_entry_move
  moved true node group h =
      let m = made_so file time (λ t. after_move_group node group t d) (λ e. e) (λ _. report quiet (codes "moved group ") (group_name node d) (Some group)) change h in
      grown d change m.after m.doc (λ ise. move_group_grows node group time d m.after isd ise m.is)
  moved false node group h =
      let m = made_so file time (λ t. after_move_entry node group t d) (λ e. e) (λ _. report quiet (codes "moved entry ") (entry_title node d) (Some group)) change h in
      grown d change m.after m.doc (λ ise. move_entry_grows node group time d m.after isd ise m.is)

leaves_grown : (time : ℕ) (command : Command) (input : Inputs) (id : NodeId) (d : BareDoc) (change : Change) → IsDoc d
    → edits command ≡ true → change_with time command input id d ≡ Ok change → LeavesGrown d change
unfolding after_add_command after_attach_command after_detach_command after_edit_command after_restore_command after_mkdir after_rm after_rmdir
leaves_grown time (Ls access file group recursive flat ids) input id d change isd e h = absurd (true≢false (sym e))
leaves_grown time (Show access file entry clear all attachments names totp at) input id d change isd e h = absurd (true≢false (sym e))
leaves_grown time (History access file entry) input id d change isd e h = absurd (true≢false (sym e))
leaves_grown time (Search access file term) input id d change isd e h = absurd (true≢false (sym e))
leaves_grown time (Add access file entry asked) input id d change isd e h =
    let m = made_so file time (λ t. after_add entry id (values_of asked input.line None) t d) (λ x. x) _ change h in
    grown d change m.after m.doc (λ ise. add_grows entry id (values_of asked input.line None) time d m.after isd ise m.is)
leaves_grown time (Edit access file entry asked further) input id d change isd e h =
    let values = values_of asked input.line input.otp in
    let more = further_of further input.fields in
    let m = made_by_name file further.unset [] time (λ t. after_edit entry values more t d) (λ x. x) _ change (unchecked (code_refusal file input.otp) _ change h) in
    record { doc = m.after; is = m.doc; grows = λ ise. edit_grows_in_current entry values more time d m.after isd ise m.is }
leaves_grown time (Restore access file entry version) input id d change isd e h =
    let m = made_so file time (λ t. after_restore entry version t d) (λ x. x) _ change h in
    record { doc = m.after; is = m.doc; grows = λ ise. restore_grows_in_current entry version time d m.after isd ise m.is }
leaves_grown time (ExportAttachment access file entry name to) input id d change isd e h = absurd (true≢false (sym e))
leaves_grown time (ImportAttachment access file entry name source replaces) input id d change isd e h =
    let bytes = unwrap_or input.attached [] in
    let m = made_by_name file [] name time (λ t. after_attach entry name bytes replaces t d) (λ x. x) _ change h in
    record { doc = m.after; is = m.doc; grows = λ ise. attach_grows_in_current entry name bytes replaces time d m.after isd ise m.is }
leaves_grown time (RemoveAttachment access file entry name) input id d change isd e h =
    let m = made_by_name file [] name time (λ t. after_detach entry name t d) (λ x. x) _ change h in
    record { doc = m.after; is = m.doc; grows = λ ise. detach_grows_in_current entry name time d m.after isd ise m.is }
leaves_grown time (Move access file node group) input id d change isd e h = moved time file access.quiet id d isd change (names_group node) node group h
leaves_grown time (Remove access file entry) input id d change isd e h =
    let m = made_so file time (λ t. after_remove_entry entry (bin_id id d) t d) (λ (x : AfterRemoval). x.doc) _ change h in
    grown d change m.after.doc m.doc (λ ise. remove_entry_grows entry (bin_id id d) time d m.after isd ise (bin_given id (needs_bin d)) m.is)
leaves_grown time (MakeGroup access file group) input id d change isd e h =
    let m = made_so file time (λ t. after_make_group group id t d) (λ x. x) _ change h in
    grown d change m.after m.doc (λ ise. make_group_grows group id time d m.after isd ise m.is)
leaves_grown time (RemoveGroup access file group) input id d change isd e h =
    let m = made_so file time (λ t. after_remove_group group (bin_id id d) t d) (λ (x : AfterRemoval). x.doc) _ change h in
    grown d change m.after.doc m.doc (λ ise. remove_group_grows group (bin_id id d) time d m.after isd ise (bin_given id (needs_bin d)) m.is)
leaves_grown time (Merge access file names from same dry details) input id d change isd e h = absurd (true≢false (sym e))
leaves_grown time (Import access format source from file) input id d change isd e h = absurd (true≢false (sym e))
leaves_grown time (Create access file name cipher kdf) input id d change isd e h = absurd (true≢false (sym e))
leaves_grown time (Export access format file) input id d change isd e h = absurd (true≢false (sym e))
leaves_grown time (EditFile access file asked) input id d change isd e h = absurd (true≢false (sym e))
leaves_grown time (Info access file) input id d change isd e h = absurd (true≢false (sym e))

-- what is drawn for the id
with_some_id : {A : Type 0} (b : Bool) (next : NodeId → List ℕ → StreamAnswer A) (dice : List ℕ) (x : A) → (then_left (drawn_id b dice) next).answer ≡ Ok x
    → (id : NodeId) × ((left : List ℕ) × ((next id left).answer ≡ Ok x))
with_some_id true next dice x h = (new_id (next_bytes 16 dice), (drop 16 dice, h))
with_some_id false next dice x h = (nil_id, (dice, h))

-- the password, which may be drawn
pub with_some_password : {A : Type 0} (profile : Option PasswordProfile) (line : Option (List ℕ)) (made : Option (List ℕ) → Result A Refusal) (dice : List ℕ) (x : A)
    → (then_left (password_of profile line dice) (λ password left. with_left (made password) left)).answer ≡ Ok x → (password : Option (List ℕ)) × (made password ≡ Ok x)
with_some_password None line made dice x h = (line, h)
with_some_password (Some profile) line made dice x h =
    let taken = generated profile.alphabet profile.length dice in
    of taken.answer taken.left h
  where
    of : (answer : Result (List ℕ) Refusal) (left : List ℕ) → (then_left (some_password (with_left answer left)) (λ password left. with_left (made password) left)).answer ≡ Ok x
        → (password : Option (List ℕ)) × (made password ≡ Ok x)
    of (Ok password) left h = (Some password, h)
    of (Err refusal) left h = cc h

pub commands_grow : CommandsGrow
commands_grow time command input d dice change isd e h =
    let w = with_some_id (makes_node command d) (λ id. change_by time command input id d) dice change h in
    let p = with_some_password (generated_by command) input.line (λ password. change_with time command (with_password password input) w.0 d) w.1.0 change w.1.1 in
    leaves_grown time command (with_password p.0 input) w.0 d change isd e p.1

-- ---- merges

module _ (file : List ℕ) (quiet details : Bool) (names : List (List ℕ)) (t : BareDoc) (ss : List BareDoc) where
  -- what comes of a merge's result
  abbrev after : MergeResult → Result AfterMerge Refusal
  after r = merged_or_refusal file r >>= λ new. Ok (after_merged file quiet false details names t ss (not (same_doc t new)) new (changes_between t ss new))

  after_is : after_merge file quiet false details names t ss ≡ after (merge_result t ss)
  unfolding after_merge
  after_is = refl

  written : (new : BareDoc) (same : Bool) (doc : Option BareDoc) → same_doc t new ≡ same → (if not same && true then Some new else None) ≡ doc → (doc ≡ Some new) ⊎ ((doc ≡ None) × (t ≡ new))
  written new true doc e h = inr (sym h, doc_decides.says t new e)
  written new false doc e h = inl (sym h)

  merged_by : (change : Change) (r : MergeResult) → merge_result t ss ≡ r → merged_change (after r) ≡ Ok change → LeavesMerged t ss change
  merged_by change (Ok new) e h =
      let is = same_answer _ change h in
      record { doc = new; merged = e; is = written new (same_doc t new) change.doc refl (ap (λ (c : Change). c.doc) is) }
  merged_by change (Err why) e h = cc h

pub merges_merge : MergesMerge
merges_merge time access file names from same details input d dice change h =
    merged_by file access.quiet details names d input.sources change (merge_result d input.sources) refl (ap merged_change (sym (after_is file access.quiet details names d input.sources)) ∙ h)
