-- What each command makes of its database.
use Rattle.std.specs.Prelude.{ℕ, Bool, true, false, not, ◌||◌, if◌then◌else◌, is_some, List, [], ◌∷◌, ◌++◌, codes, Option, None, Some, Result, Ok, Err}
use Rattle.std.specs.Option.{unwrap_or}
use Rattle.cli_lines.specs.KdbxFrame.declared.settings.Settings.{Settings}
use Rattle.vault_model.specs.Db.{NodeId, nil_id}
use Rattle.vault_model.specs.Tree as tree
use Rattle.vault_model.specs.Tree.{BareDoc, Tree}
use Rattle.tree_core.specs.Changes.{is_free}
use Rattle.tree_core.specs.After.{needs_bin}
use Rattle.cli_messages.specs.declared.answers.Reason.TheVariants.{IdTaken, NoSuchPath}
use Rattle.cli_messages.specs.declared.answers.Refusal.{Refusal}
use Rattle.cli_messages.specs.Messages.{refusal_of}
use Rattle.cli_messages.specs.Phases.{StreamAnswer, then_left, with_left}
use Rattle.cli_lines.specs.CliNeeds.declared.command.Command.{Command}
use Rattle.cli_lines.specs.CliNeeds.declared.command.Command.TheVariants.{Ls, Show, History, Search, Add, Edit, Restore, ExportAttachment, ImportAttachment, RemoveAttachment, Move, Remove, MakeGroup, RemoveGroup, Merge, Import, Create, Export, EditFile, Info}
use Rattle.outside_core.specs.Results.{◌>>=◌}
use Rattle.cli_profiles.specs.declared.profiles.PasswordProfile.{PasswordProfile}
use Rattle.cli_generating.specs.Generated.{generated}
use Rattle.cli_lines.specs.CliNeeds.Needs.{exported_to, generated_by}
use Rattle.cli_printing.specs.Listing.{group_lines, tree_listed}
use Rattle.cli_showing.specs.History.{history_shown}
use Rattle.cli_showing.specs.Showing.{code_shown, entries_shown, entry_shown}
use Rattle.cli_printing.specs.Exporting.{exported}
use Rattle.cli_printing.specs.Info.{info_shown}
use Rattle.cli_changes.specs.Attachments.{AttachedFile, after_attach_command, after_detach_command, attachment_bytes, export_report}
use Rattle.cli_changes.specs.Entries.{AfterCommand, after_add_command, after_edit_command, further_of, values_of}
use Rattle.cli_changes.specs.Ids.{new_id}
use Rattle.cli_changes.specs.Versions.{after_restore_command}
use Rattle.cli_changes.specs.Nodes.{after_mkdir, after_mv, after_rm, after_rmdir}
use Rattle.cli_merging.specs.Merging.{AfterMerge, after_merge}
use Rattle.cli_printing.specs.CliWriting.Drawing.{draw_of}

-- What a command makes of its database: what it prints, the document that is written, if one is, and
-- the bytes of the new file that an attachment is taken out into, if one is.
pub record Change : Type 0 where
  pub text : List ℕ
  pub doc : Option BareDoc
  pub attachment : Option (List ℕ)

-- A text is printed and nothing is written.
abbrev pub printing : List ℕ → Change
printing text = record { text = text; doc = None; attachment = None }

-- A text is printed and a document is written.
abbrev pub writing : List ℕ → BareDoc → Change
writing text doc = record { text = text; doc = Some doc; attachment = None }

-- What a command works with beside its document: the line that it asked for, or the password that
-- was generated; the text of a one-time code and the values of fields that it asked for; the bytes
-- of the file that it puts into its database; the documents of its sources; the settings of its
-- database's file, which a plain document lacks; and the columns that were passed over, where its
-- database is made of a table.
pub record Inputs : Type 0 where
  pub line : Option (List ℕ)
  pub otp : Option (List ℕ)
  pub fields : List (List ℕ)
  pub attached : Option (List ℕ)
  pub sources : List BareDoc
  pub settings : Option Settings
  pub passed_over : List (List ℕ)

-- A command may write its database, or one that it makes. A merge does where its document is another
-- after it, and the others wherever they are carried out.
abbrev pub may_write : Command → Bool
may_write (Ls access file group recursive flat ids) = false
may_write (Show access file entry clear all attachments names totp at) = false
may_write (History access file entry) = false
may_write (Search access file term) = false
may_write (Add access file entry asked) = true
may_write (Edit access file entry asked further) = true
may_write (Restore access file entry version) = true
may_write (ExportAttachment access file entry name to) = false
may_write (ImportAttachment access file entry name source replaces) = true
may_write (RemoveAttachment access file entry name) = true
may_write (Move access file node group) = true
may_write (Remove access file entry) = true
may_write (MakeGroup access file group) = true
may_write (RemoveGroup access file group) = true
may_write (Merge access file names from same dry details) = not dry
may_write (Import access format source from file) = true
may_write (Create access file name cipher kdf) = true
may_write (Export access format file) = false
may_write (EditFile access file change) = true
may_write (Info access file) = false

-- A command only reads its document: every one that never writes it. A dry run of a merge tries the
-- merge in memory.
abbrev pub only_reads : Command → Bool
only_reads (Ls access file group recursive flat ids) = true
only_reads (Show access file entry clear all attachments names totp at) = true
only_reads (History access file entry) = true
only_reads (Search access file term) = true
only_reads (Add access file entry asked) = false
only_reads (Edit access file entry asked further) = false
only_reads (Restore access file entry version) = false
only_reads (ExportAttachment access file entry name to) = true
only_reads (ImportAttachment access file entry name source replaces) = false
only_reads (RemoveAttachment access file entry name) = false
only_reads (Move access file node group) = false
only_reads (Remove access file entry) = false
only_reads (MakeGroup access file group) = false
only_reads (RemoveGroup access file group) = false
only_reads (Merge access file names from same dry details) = false
only_reads (Import access format source from file) = false
only_reads (Create access file name cipher kdf) = false
only_reads (Export access format file) = true
only_reads (EditFile access file change) = false
only_reads (Info access file) = true

-- A command may write a file: its database, or one that it takes an attachment out into.
abbrev pub may_store : Command → Bool
may_store command = may_write command || is_some (exported_to command)

-- A command may make a node, whose id is drawn: an entry, a group, the root of an empty database, or
-- the bin of a removal.
abbrev pub draws_id : Command → Bool
draws_id (Ls access file group recursive flat ids) = false
draws_id (Show access file entry clear all attachments names totp at) = false
draws_id (History access file entry) = false
draws_id (Search access file term) = false
draws_id (Add access file entry asked) = true
draws_id (Edit access file entry asked further) = false
draws_id (Restore access file entry version) = false
draws_id (ExportAttachment access file entry name to) = false
draws_id (ImportAttachment access file entry name source replaces) = false
draws_id (RemoveAttachment access file entry name) = false
draws_id (Move access file node group) = false
draws_id (Remove access file entry) = true
draws_id (MakeGroup access file group) = true
draws_id (RemoveGroup access file group) = true
draws_id (Merge access file names from same dry details) = false
draws_id (Import access format source from file) = false
draws_id (Create access file name cipher kdf) = true
draws_id (Export access format file) = false
draws_id (EditFile access file change) = false
draws_id (Info access file) = false

-- A command makes a node in this document; a removal does where it needs a bin.
abbrev pub makes_node : Command → BareDoc → Bool
makes_node (Ls access file group recursive flat ids) doc = false
makes_node (Show access file entry clear all attachments names totp at) doc = false
makes_node (History access file entry) doc = false
makes_node (Search access file term) doc = false
makes_node (Add access file entry asked) doc = true
makes_node (Edit access file entry asked further) doc = false
makes_node (Restore access file entry version) doc = false
makes_node (ExportAttachment access file entry name to) doc = false
makes_node (ImportAttachment access file entry name source replaces) doc = false
makes_node (RemoveAttachment access file entry name) doc = false
makes_node (Move access file node group) doc = false
makes_node (Remove access file entry) doc = needs_bin doc
makes_node (MakeGroup access file group) doc = true
makes_node (RemoveGroup access file group) doc = needs_bin doc
makes_node (Merge access file names from same dry details) doc = false
makes_node (Import access format source from file) doc = false
makes_node (Create access file name cipher kdf) doc = true
makes_node (Export access format file) doc = false
makes_node (EditFile access file change) doc = false
makes_node (Info access file) doc = false

-- The lines of the group that is listed, or that the path names none of the file's groups.
abbrev pub listing_of : List ℕ → (recursive flat ids : Bool) → Option Tree → Result Change Refusal
listing_of file recursive flat ids None = Err (refusal_of NoSuchPath file)
listing_of file recursive flat ids (Some tree) =
    Ok (printing (group_lines recursive flat ids [] tree))

-- What a command prints that writes nothing, or its refusal.
abbrev pub printed_text : Result (List ℕ) Refusal → Result Change Refusal
printed_text (Ok text) = Ok (printing text)
printed_text (Err refusal) = Err refusal

-- What a command makes that takes an attachment out into a new file: it reports that.
abbrev pub exported_file : Bool → (path name to : List ℕ) → Result (List ℕ) Refusal
    → Result Change Refusal
exported_file quiet path name to (Ok bytes) = Ok (record {
  text = export_report quiet path name to;
  doc = None;
  attachment = Some bytes;
})
exported_file quiet path name to (Err refusal) = Err refusal

-- What a command makes that takes an attachment out: into a new file, or its bytes are printed.
abbrev pub exported_so : Bool → (path name : List ℕ) → Option (List ℕ)
    → Result (List ℕ) Refusal → Result Change Refusal
exported_so quiet path name None bytes = printed_text bytes
exported_so quiet path name (Some to) bytes = exported_file quiet path name to bytes

-- The file that a command puts to an entry.
abbrev pub file_attached : (name source : List ℕ) → Bool → Option (List ℕ) → AttachedFile
file_attached name source replaces bytes = record {
  name = name;
  source = source;
  bytes = unwrap_or bytes [];
  replaces = replaces;
}

-- The change of a command that leaves another document, or its refusal.
abbrev pub new_document : Result AfterCommand Refusal → Result Change Refusal
new_document (Ok after) = Ok (writing after.text after.doc)
new_document (Err refusal) = Err refusal

-- What a merge makes.
abbrev pub merged_change : Result AfterMerge Refusal → Result Change Refusal
merged_change (Ok after) =
    Ok (record { text = after.text; doc = after.doc; attachment = None })
merged_change (Err refusal) = Err refusal

-- A report, which is not printed where a command is quiet.
abbrev pub text_unless : Bool → List ℕ → List ℕ
text_unless true text = []
text_unless false text = text

-- A line for each column that was passed over.
abbrev pub passed_lines : List (List ℕ) → List ℕ
passed_lines [] = []
passed_lines (name ∷ names) =
    codes "Column passed over: " ++ name ++ codes "\n" ++ passed_lines names

-- What an import prints: a line for each column that was passed over, and that it was carried out.
abbrev pub imported_text : Bool → List (List ℕ) → List ℕ
imported_text quiet passed =
    text_unless quiet (passed_lines passed ++ codes "Successfully imported database.\n")

-- What is printed of an empty database that was made.
abbrev pub created_text : Bool → List ℕ
created_text quiet = text_unless quiet (codes "Successfully created new database.\n")

-- What is printed of a database's file that was changed.
abbrev pub changed_text : Bool → List ℕ
changed_text quiet = text_unless quiet (codes "Successfully edited the database.\n")

-- A tree whose root has this id.
abbrev pub rooted_at : NodeId → Tree → Tree
rooted_at id (tree.node root group entries groups) = tree.node id group entries groups

-- A document whose root has this id.
abbrev pub with_root_id : NodeId → BareDoc → BareDoc
with_root_id id doc = record doc { tree = rooted_at id doc.tree }

-- What making an empty database leaves: its document, whose root has this id.
abbrev pub created_change : Bool → NodeId → BareDoc → Change
created_change quiet id doc = writing (created_text quiet) (with_root_id id doc)

-- The same, or the refusal about its file where the id is taken.
abbrev pub created_or_refusal : List ℕ → Bool → NodeId → BareDoc → Result Change Refusal
created_or_refusal file quiet id doc =
    if is_free id doc then Ok (created_change quiet id doc)
    else Err (refusal_of (IdTaken id) file)

-- The id of the bin that a removal makes, where it needs one.
abbrev pub bin_id : NodeId → BareDoc → Option NodeId
bin_id id doc = if needs_bin doc then Some id else None

-- What each command makes of its document at a moment, with what it works with beside it; a node that
-- it makes has this id.
abbrev pub change_with : ℕ → Command → Inputs → NodeId → BareDoc → Result Change Refusal
change_with time (Ls access file group recursive flat ids) input id doc =
    listing_of file recursive flat ids (tree_listed group doc)
change_with time (Show access file entry clear all attachments names totp at) input id doc =
    printed_text (if totp then code_shown file names at entry time doc
    else entry_shown file clear all attachments names at entry doc)
change_with time (History access file entry) input id doc =
    printed_text (history_shown file entry doc)
change_with time (Search access file term) input id doc =
    printed_text (entries_shown file term doc)
change_with time (Add access file entry asked) input id doc =
    new_document (after_add_command file access.quiet entry id (values_of asked input.line None)
    time doc)
change_with time (Edit access file entry asked further) input id doc =
    new_document (after_edit_command file access.quiet entry
    (values_of asked input.line input.otp) (further_of further input.fields) time doc)
change_with time (Restore access file entry version) input id doc =
    new_document (after_restore_command file access.quiet entry version time doc)
change_with time (ExportAttachment access file entry name to) input id doc =
    exported_so access.quiet entry name to (attachment_bytes file entry name doc)
change_with time (ImportAttachment access file entry name source replaces) input id doc =
    new_document (after_attach_command file access.quiet entry
    (file_attached name source replaces input.attached) time doc)
change_with time (RemoveAttachment access file entry name) input id doc =
    new_document (after_detach_command file access.quiet entry name time doc)
change_with time (Move access file node group) input id doc =
    new_document (after_mv file access.quiet node group time doc)
change_with time (Remove access file entry) input id doc =
    new_document (after_rm file access.quiet entry (bin_id id doc) time doc)
change_with time (MakeGroup access file group) input id doc =
    new_document (after_mkdir file access.quiet group id time doc)
change_with time (RemoveGroup access file group) input id doc =
    new_document (after_rmdir file access.quiet group (bin_id id doc) time doc)
change_with time (Merge access file names from same dry details) input id doc =
    merged_change (after_merge file access.quiet dry details names doc input.sources)
change_with time (Import access format source from file) input id doc =
    Ok (writing (imported_text access.quiet input.passed_over) doc)
change_with time (Create access file name cipher kdf) input id doc =
    created_or_refusal file access.quiet id doc
change_with time (Export access format file) input id doc =
    printed_text (exported file format doc)
change_with time (EditFile access file change) input id doc =
    Ok (writing (changed_text access.quiet) doc)
change_with time (Info access file) input id doc =
    printed_text (Ok (info_shown input.settings doc))

-- The id of a node that is made: 16 bytes are drawn, which make it. Where none is made, nothing is
-- drawn.
abbrev pub drawn_id : Bool → List ℕ → StreamAnswer NodeId
drawn_id true dice =
    then_left (draw_of 16 dice) (λ drawn left. with_left (Ok (new_id drawn)) left)
drawn_id false dice = with_left (Ok nil_id) dice

-- A password that was generated.
abbrev pub some_password : StreamAnswer (List ℕ) → StreamAnswer (Option (List ℕ))
some_password taken = record {
  answer = taken.answer >>= λ password. Ok (Some password);
  left = taken.left;
}

-- The password of an entry: the one that the dice choose, where it is to be generated, and else the
-- line that was asked for.
abbrev pub password_of : Option PasswordProfile → Option (List ℕ) → List ℕ
    → StreamAnswer (Option (List ℕ))
password_of (Some profile) line dice =
    some_password (generated profile.alphabet profile.length dice)
password_of None line dice = with_left (Ok line) dice

-- The same with this password in the place of the line that was asked for.
abbrev pub with_password : Option (List ℕ) → Inputs → Inputs
with_password password input = record input { line = password }

-- What a command makes of its document once the id of its node is drawn: the password is generated
-- next, where it is to be.
abbrev pub change_by : ℕ → Command → Inputs → NodeId → BareDoc → List ℕ → StreamAnswer Change
change_by time command input id doc dice =
    then_left (password_of (generated_by command) input.line dice) (λ password left.
    with_left (change_with time command (with_password password input) id doc) left)

-- What each command makes of its document at a moment, with what it works with beside it, over the
-- dice.
abbrev pub change_of : ℕ → Command → Inputs → BareDoc → List ℕ → StreamAnswer Change
change_of time command input doc dice =
    then_left (drawn_id (makes_node command doc) dice)
    (λ id. change_by time command input id doc)

-- A command draws before its file is written: an id, or a password.
abbrev pub draws_change : Command → Bool
draws_change command = draws_id command || is_some (generated_by command)
