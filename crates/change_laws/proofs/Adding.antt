-- Commands that only add leave what they had.
use Rattle.std.proofs.Common.{◌≡◌, ℕ, Bool, true, false, if◌then◌else◌, List, [], Option, None, Some, Ok, codes, drop, refl, subst}
use Rattle.std.specs.Option.{unwrap_or}
use Rattle.vault_model.specs.Db.{NodeId, nil_id}
use Rattle.vault_model.specs.Tree.{BareDoc, IsDoc}
use Rattle.tree_core.specs.After.{AfterRemoval, after_add, after_attach, after_detach, after_edit, after_make_group, after_move_entry, after_remove_entry, after_restore, needs_bin}
use Rattle.command_laws.proofs.Commands.{add_adds, attach_adds, detach_adds, edit_adds, make_group_adds, move_entry_adds, recycling_adds, restore_adds}
use Rattle.cli_messages.specs.Phases.{StreamAnswer, then_left}
use Rattle.cli_codes.specs.Codes.{code_refusal}
use Rattle.cli_needs.specs.declared.command.Command.{Command}
use Rattle.cli_needs.specs.declared.command.Command.TheVariants.{Ls, Show, History, Search, Add, Edit, Restore, ExportAttachment, ImportAttachment, RemoveAttachment, Move, Remove, MakeGroup, RemoveGroup, Merge, Import, Create, Export, EditFile, Info}
use Rattle.cli_needs.specs.Needs.{generated_by}
use Rattle.cli_writing.specs.Drawing.{next_bytes}
use Rattle.cli_changes.specs.Attachments.{after_attach_command, after_detach_command}
use Rattle.cli_changes.specs.Entries.{after_add_command, after_edit_command, entry_title, further_of, values_of}
use Rattle.cli_changes.specs.Ids.{new_id}
use Rattle.cli_changes.specs.Nodes.{after_entry_move, after_group_move, after_mkdir, after_rm, names_group}
use Rattle.cli_changes.specs.Reports.{report}
use Rattle.cli_changes.specs.Versions.{after_restore_command}
use Rattle.cli_commands.specs.Commands.{Change, Inputs, bin_id, change_by, change_with, drawn_id, makes_node, new_document, with_password}
use Rattle.change_laws.specs.Adding.{CommandsAdd, LeavesAdded, OnlyAddsBy, PutsIntoBin, made_id}
use Rattle.change_laws.proofs.Changed.{bin_given, made_by_name, made_so, unchecked, with_some_password}

-- the id that is drawn where a node is made, and the nil id elsewhere
abbrev id_if : Bool → List ℕ → NodeId
id_if true dice = new_id (next_bytes 16 dice)
id_if false dice = nil_id

with_id : {A : Type 0} (b : Bool) (next : NodeId → List ℕ → StreamAnswer A) (dice : List ℕ) (x : A) → (then_left (drawn_id b dice) next).answer ≡ Ok x → (left : List ℕ) × ((next (id_if b dice) left).answer ≡ Ok x)
with_id true next dice x h = (drop 16 dice, h)
with_id false next dice x h = (dice, h)

same_bin : (b : Bool) (dice : List ℕ) → ◌≡◌ {A = Option NodeId} (if b then Some (id_if b dice) else None) (if b then Some (new_id (next_bytes 16 dice)) else None)
same_bin true dice = refl
same_bin false dice = refl

module _ (time : ℕ) (input : Inputs) (d : BareDoc) (dice : List ℕ) (change : Change) (isd : IsDoc d) where
  moved : (file : List ℕ) (quiet : Bool) (node group : List ℕ) → names_group node ≡ false
      → new_document (if names_group node then after_group_move file quiet node group time d else after_entry_move file quiet node group time d) ≡ Ok change → LeavesAdded None d change
  unfolding after_entry_move
  moved file quiet node group e h =
      let m = made_so file time (λ t. after_move_entry node group t d) (λ x. x) (λ _. report quiet (codes "moved entry ") (entry_title node d) (Some group)) change
      (subst (λ b. new_document (if b then after_group_move file quiet node group time d else after_entry_move file quiet node group time d) ≡ Ok change) e h) in
      record { doc = m.after; is = m.doc; adds = λ ise. move_entry_adds node group time d m.after isd ise m.is }

  removed : (file : List ℕ) (quiet : Bool) (entry : List ℕ) → PutsIntoBin entry (bin_id (new_id (next_bytes 16 dice)) d) time d
      → new_document (after_rm file quiet entry (bin_id (id_if (needs_bin d) dice) d) time d) ≡ Ok change → LeavesAdded (bin_id (new_id (next_bytes 16 dice)) d) d change
  unfolding after_rm
  removed file quiet entry puts h =
      let bin = bin_id (new_id (next_bytes 16 dice)) d in
      let m = made_so file time (λ t. after_remove_entry entry bin t d) (λ (a : AfterRemoval). a.doc) _ change
      (subst (λ (o : Option NodeId). new_document (after_rm file quiet entry o time d) ≡ Ok change) (same_bin (needs_bin d) dice) h) in
      record { doc = m.after.doc; is = m.doc; adds = λ ise. recycling_adds entry bin time d m.after isd ise (bin_given (new_id (next_bytes 16 dice)) (needs_bin d)) m.is (puts m.after m.is) }

  -- with the password that was drawn or typed
  added : (command : Command) → OnlyAddsBy time command dice d → change_with time command input (id_if (makes_node command d) dice) d ≡ Ok change → LeavesAdded (made_id command d dice) d change
  unfolding after_add_command after_attach_command after_detach_command after_edit_command after_restore_command after_mkdir
  added (Add access file entry asked) can h =
      let id = new_id (next_bytes 16 dice) in
      let m = made_so file time (λ t. after_add entry id (values_of asked input.line None) t d) (λ x. x) _ change h in
      record { doc = m.after; is = m.doc; adds = λ ise. add_adds entry id (values_of asked input.line None) time d m.after isd ise m.is }
  added (Edit access file entry asked further) can h =
      let values = values_of asked input.line input.otp in
      let more = further_of further input.fields in
      let m = made_by_name file further.unset [] time (λ t. after_edit entry values more t d) (λ x. x) _ change (unchecked (code_refusal file input.otp) _ change h) in
      record { doc = m.after; is = m.doc; adds = λ ise. edit_adds entry values more time d m.after isd ise m.is }
  added (Restore access file entry version) can h =
      let m = made_so file time (λ t. after_restore entry version t d) (λ x. x) _ change h in
      record { doc = m.after; is = m.doc; adds = λ ise. restore_adds entry version time d m.after isd ise m.is }
  added (ImportAttachment access file entry name source replaces) can h =
      let bytes = unwrap_or input.attached [] in
      let m = made_by_name file [] name time (λ t. after_attach entry name bytes replaces t d) (λ x. x) _ change h in
      record { doc = m.after; is = m.doc; adds = λ ise. attach_adds entry name bytes replaces time d m.after isd ise m.is }
  added (RemoveAttachment access file entry name) can h =
      let m = made_by_name file [] name time (λ t. after_detach entry name t d) (λ x. x) _ change h in
      record { doc = m.after; is = m.doc; adds = λ ise. detach_adds entry name time d m.after isd ise m.is }
  added (MakeGroup access file group) can h =
      let id = new_id (next_bytes 16 dice) in
      let m = made_so file time (λ t. after_make_group group id t d) (λ x. x) _ change h in
      record { doc = m.after; is = m.doc; adds = λ ise. make_group_adds group id time d m.after isd ise m.is }
  added (Move access file node group) can h = moved file access.quiet node group can h
  added (Remove access file entry) can h = removed file access.quiet entry can h
  added (Ls access file group recursive flat ids) can h = absurd can
  added (Show access file entry clear all attachments names totp at) can h = absurd can
  added (History access file entry) can h = absurd can
  added (Search access file term) can h = absurd can
  added (ExportAttachment access file entry name to) can h = absurd can
  added (RemoveGroup access file group) can h = absurd can
  added (Merge access file names from same dry details) can h = absurd can
  added (Import access format source from file) can h = absurd can
  added (Create access file name cipher kdf) can h = absurd can
  added (Export access format file) can h = absurd can
  added (EditFile access file change) can h = absurd can
  added (Info access file) can h = absurd can

pub commands_add : CommandsAdd
commands_add time command input d dice change isd can h =
    let w = with_id (makes_node command d) (λ id. change_by time command input id d) dice change h in
    let p = with_some_password (generated_by command) input.line (λ password. change_with time command (with_password password input) (id_if (makes_node command d) dice) d) w.0 change w.1 in
    added time (with_password p.0 input) d dice change isd command can p.1
