-- The commands on a small database: the entries Bank and Mail and the group Work in the root. What is tried is what each
-- command prints, on standard output or as the line of a refusal, and what it changes.
use Rattle.std.proofs.Common.{◌≡◌, ℕ, List, [], ◌∷◌, ◌++◌, Option, None, Some, refl}
use Rattle.std.specs.Prelude.{◌+◌, Err, Ok, Result, codes, false, option_map, replicate, true}
use Rattle.std.specs.List.{slice_get}
use Rattle.std.specs.Option.{option_and_then}
use Rattle.time_core.specs.Times.{last_stamp}
use Rattle.vault_model.specs.Bare.{BareField}
use Rattle.vault_model.specs.Db.{NodeId}
use Rattle.vault_model.specs.Empty.{empty_bare, new_group, new_protection}
use Rattle.vault_model.specs.Shape.{EntryRecord}
use Rattle.vault_model.specs.Tree.{BareDoc, beside, node, none}
use Rattle.tree_core.specs.Finding.{entry_found, group_at_path, group_found, has_group_path}
use Rattle.tree_core.specs.Changes.{entry_at}
use Rattle.tree_core.specs.FurtherChanges.{no_further_change}
use Rattle.tree_core.specs.NewNodes.{GivenValues, field, new_entry, new_fields}
use Rattle.cli_messages.specs.Messages.{error_line, reason_text, refusal_of}
use Rattle.cli_messages.specs.declared.answers.Reason.TheVariants.{IdTaken, IntoItself, OtpForm}
use Rattle.cli_messages.specs.declared.answers.Refusal.{Refusal}
use Rattle.otp_core.specs.Reading.{base32, bytes32, equals_after, otp_of_label, otp_of_uri, parts_between, with_parameter, with_parameters, with_value, within_limits}
use Rattle.cli_codes.specs.Codes.{code_refusal}
use Rattle.cli_changes.specs.Attachments.{AttachedFile, after_attach_command, after_detach_command, attachment_bytes, export_report}
use Rattle.cli_changes.specs.Entries.{AfterCommand, after_edit_command}
use Rattle.cli_changes.specs.Nodes.{after_entry_move, after_group_move, after_mkdir, after_mv, after_rm, after_rmdir}

abbrev id : ℕ → NodeId
id n = replicate 16 n

abbrev no_values : GivenValues
no_values = record {
  title = None;
  user = None;
  password = None;
  url = None;
  notes = None;
  otp = None;
}

abbrev doc : BareDoc
doc = record (empty_bare (id 1) 0) {
  tree =
      node (id 1) (new_group (codes "Root") 0)
      ((id 2, new_entry (new_fields new_protection (codes "Bank") no_values) 0)
      ∷ (id 3, new_entry (new_fields new_protection (codes "Mail") no_values) 0) ∷ [])
      (beside (node (id 4) (new_group (codes "Work") 0) [] none) none);
}

-- What a command prints, of either kind.
abbrev printed_text : Result AfterCommand Refusal → List ℕ
printed_text (Ok after) = after.text
printed_text (Err refusal) = error_line refusal.subject (reason_text refusal.reason)

-- The document after a command, which a refusal does not change.
abbrev document_after : Result AfterCommand Refusal → BareDoc → BareDoc
document_after (Ok after) d = after.doc
document_after (Err refusal) d = d

-- ---- a group is made, and an entry is put into a new bin and deleted from it

abbrev with_sub : BareDoc
with_sub = document_after (after_mkdir (codes "P") false (codes "Work/Sub") (id 16) 5 doc) doc

group_made : printed_text (after_mkdir (codes "P") false (codes "Work/Sub") (id 16) 5 doc)
    ≡ codes "Successfully added group Sub.\n"
unfolding after_mkdir group_at_path group_found has_group_path
group_made = refl

name_taken : printed_text (after_mkdir (codes "P") false (codes "Work") (id 17) 5 with_sub)
    ≡ codes "keepass: P: already there\n"
unfolding after_mkdir group_at_path group_found has_group_path
name_taken = refl

group_into_itself : after_mv (codes "P") false (codes "Work/") (codes "Work/Sub") 5 with_sub
    ≡ Err (refusal_of (IntoItself (id 4)) (codes "P"))
unfolding after_mkdir after_group_move group_at_path group_found has_group_path
group_into_itself = refl

abbrev with_bin : BareDoc
with_bin = document_after (after_rm (codes "P") false (codes "Mail") (Some (id 18)) 5 with_sub) with_sub

entry_recycled : printed_text (after_rm (codes "P") false (codes "Mail") (Some (id 18)) 5 with_sub)
    ≡ codes "Successfully recycled entry Mail.\n"
unfolding after_mkdir after_rm entry_found group_at_path group_found has_group_path
entry_recycled = refl

bin_made : with_bin.meta.bin
    ≡ record { changed = 5; value = record { enabled = true; id = id 18 } }
unfolding after_mkdir after_rm entry_found group_at_path group_found has_group_path
bin_made = refl

entry_deleted : printed_text (after_rm (codes "P") false (codes "Recycle Bin/Mail") None 5 with_bin)
    ≡ codes "Successfully deleted entry Mail.\n"
unfolding after_mkdir after_rm entry_found group_at_path group_found has_group_path
entry_deleted = refl

tombstone_made : (document_after
    (after_rm (codes "P") false (codes "Recycle Bin/Mail") None 5 with_bin) with_bin).tombs
    ≡ record { id = id 3; deleted = 5 } ∷ []
unfolding after_mkdir after_rm entry_found group_at_path group_found has_group_path
tombstone_made = refl

-- ---- an entry is moved twice, the second time to the group that it is in

abbrev with_mail_moved : BareDoc
with_mail_moved = document_after (after_mv (codes "P") false (codes "Mail") (codes "Work") 5 doc) doc

entry_moved : printed_text (after_mv (codes "P") false (codes "Mail") (codes "Work") 5 doc)
    ≡ codes "Successfully moved entry Mail to group Work.\n"
unfolding after_entry_move entry_found group_at_path group_found
entry_moved = refl

-- Since when an entry is in its group, and the group that it was in before.
abbrev place_of : NodeId × EntryRecord → ℕ × NodeId
place_of e = (e.1.placed, e.1.previous)

entry_placed : option_map place_of (entry_at (id 4) (id 3) with_mail_moved.tree) ≡ Some (5, id 1)
unfolding after_entry_move entry_found group_at_path group_found
entry_placed = refl

already_in_group :
    printed_text (after_mv (codes "P") false (codes "Work/Mail") (codes "Work") 5 with_mail_moved)
    ≡ codes "keepass: P: already in that group\n"
unfolding after_entry_move entry_found group_at_path group_found
already_in_group = refl

-- ---- groups are moved and removed

-- The word that names the other group is reported as it was given, and the group's name without slashes.
group_moved : printed_text (after_mv (codes "P") false (codes "/Work/Sub/") (codes "/") 5 with_sub)
    ≡ codes "Successfully moved group Sub to group /.\n"
unfolding after_mkdir after_group_move group_at_path group_found has_group_path
group_moved = refl

group_recycled : printed_text (after_rmdir (codes "P") false (codes "Work") (Some (id 18)) 5 doc)
    ≡ codes "Successfully recycled group Work.\n"
unfolding after_rmdir group_at_path group_found
group_recycled = refl

quiet_removal : printed_text (after_rmdir (codes "P") true (codes "Work") (Some (id 18)) 5 doc) ≡ []
unfolding after_rmdir group_at_path group_found
quiet_removal = refl

bin_deleted : printed_text (after_rmdir (codes "P") false (codes "Recycle Bin") None 5 with_bin)
    ≡ codes "Successfully deleted group Recycle Bin.\n"
unfolding after_mkdir after_rm after_rmdir entry_found group_at_path group_found has_group_path
bin_deleted = refl

-- ---- other refusals

root_fixed : printed_text (after_rmdir (codes "P") false (codes "/") (Some (id 18)) 5 doc)
    ≡ codes "keepass: P: the root stays\n"
unfolding after_rmdir group_at_path group_found
root_fixed = refl

no_such_group : printed_text (after_mkdir (codes "P") false (codes "None/New") (id 16) 5 doc)
    ≡ codes "keepass: P: not found\n"
unfolding after_mkdir group_at_path group_found
no_such_group = refl

id_taken : after_mkdir (codes "P") false (codes "New") (id 3) 5 doc
    ≡ Err (refusal_of (IdTaken (id 3)) (codes "P"))
unfolding after_mkdir group_at_path group_found has_group_path
id_taken = refl

-- A moment past the calendar is refused first.
past_calendar : printed_text (after_mv (codes "P") false (codes "None") (codes "Work") (last_stamp + 1) doc)
    ≡ codes "keepass: P: limit passed\n"
unfolding after_entry_move
past_calendar = refl

-- ---- what an entry's one-time codes are made from: it is refused before the entry is looked for, hidden whatever it was, and taken away

abbrev with_code : List ℕ → GivenValues
with_code text = record no_values { otp = Some text }

abbrev uri : List ℕ
uri = codes "otpauth://totp/x?secret=GE"

-- The entry Mail with a field `otp` that is shown.
abbrev doc_shown : BareDoc
doc_shown = record doc {
  tree =
      node (id 1) (new_group (codes "Root") 0)
      ((id 3, new_entry (new_fields new_protection (codes "Mail") no_values ++ field (codes "otp") (codes "old") false ∷ []) 0) ∷ [])
      none;
}

-- The document after an edit of what codes are made from.
abbrev coded : List ℕ → BareDoc
coded text = document_after (after_edit_command (codes "P") false (codes "Mail") (with_code text) no_further_change 5 doc_shown) doc

-- The last field of the entry Mail, after the five that every entry has.
abbrev last_field : BareDoc → Option BareField
last_field d = option_and_then (λ e. slice_get e.1.current.mark.content.fields 5) (entry_at (id 1) (id 3) d.tree)

code_refused : after_edit_command (codes "P") false (codes "Nothing") (with_code (codes "GE")) no_further_change 5 doc
    ≡ Err (refusal_of (OtpForm 0) (codes "P"))
unfolding after_edit_command code_refusal otp_of_uri
code_refused = refl

code_hidden : last_field (coded uri) ≡ Some (field (codes "otp") uri true)
unfolding after_edit_command code_refusal otp_of_uri otp_of_label parts_between with_parameters with_parameter with_value base32 bytes32 within_limits equals_after entry_found
code_hidden = refl

code_taken_away : last_field (coded []) ≡ None
unfolding after_edit_command code_refusal entry_found
code_taken_away = refl

-- ---- a field that is to be taken away and is not there is refused by its name

field_missing :
    printed_text (after_edit_command (codes "P") false (codes "Mail") no_values (record no_further_change { unset = codes "PIN" ∷ [] }) 5 doc)
    ≡ codes "keepass: P: no attribute PIN\n"
unfolding after_edit_command code_refusal entry_found
field_missing = refl

-- ---- something is attached, taken out and taken away

abbrev key_file : AttachedFile
key_file = record { name = codes "key"; source = codes "key.bin"; bytes = codes "K"; replaces = false }

abbrev with_key : BareDoc
with_key = document_after (after_attach_command (codes "P") false (codes "Mail") key_file 5 doc) doc

file_attached : printed_text (after_attach_command (codes "P") false (codes "Mail") key_file 5 doc)
    ≡ codes "Successfully imported attachment key.bin as key to entry Mail.\n"
unfolding after_attach_command entry_found
file_attached = refl

attached_before : printed_text (after_attach_command (codes "P") false (codes "Mail") key_file 6 with_key)
    ≡ codes "keepass: P: already there\n"
unfolding after_attach_command entry_found
attached_before = refl

attachment_found : attachment_bytes (codes "P") (codes "Mail") (codes "key") with_key ≡ Ok (codes "K")
unfolding after_attach_command entry_found
attachment_found = refl

attachment_exported : export_report false (codes "Mail") (codes "key") (codes "K")
    ≡ codes "Successfully exported attachment key of entry Mail to K.\n"
attachment_exported = refl

attachment_missing : printed_text (after_detach_command (codes "P") false (codes "Mail") (codes "key") 6 doc)
    ≡ codes "keepass: P: no attachment key\n"
unfolding after_detach_command entry_found
attachment_missing = refl
