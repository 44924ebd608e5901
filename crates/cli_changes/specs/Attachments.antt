-- What the commands of attachments make of a document.
use Rattle.std.specs.Prelude.{ℕ, Bool, true, false, List, [], ◌++◌, codes, Result, Ok, Err}
use Rattle.outside_core.specs.Results.{◌>>=◌}
use Rattle.vault_model.specs.Tree.{BareDoc}
use Rattle.tree_core.specs.After.{after_attach, after_detach, attachment_in}
use Rattle.tree_core.specs.declared.fails.TreeFail.{TreeFail}
use Rattle.cli_messages.specs.declared.answers.Refusal.{Refusal}
use Rattle.cli_changes.specs.Entries.{AfterCommand, time_of}
use Rattle.cli_changes.specs.Fails.{named_or_refusal}

-- ---- attachment-export

-- The bytes of the attachment of a name that the entry that a path names has.
abbrev pub attachment_bytes : (file path name : List ℕ) → BareDoc → Result (List ℕ) Refusal
attachment_bytes file path name d =
    named_or_refusal file [] name (attachment_in path name d) >>= λ attachment.
    Ok attachment.bytes

-- The line that reports that an attachment was taken out into a file.
abbrev pub export_report : Bool → (path name to : List ℕ) → List ℕ
export_report true path name to = []
export_report false path name to =
    codes "Successfully exported attachment " ++ name ++ codes " of entry " ++ path
    ++ codes " to " ++ to ++ codes ".\n"

-- ---- attachment-import

-- The line that reports that a file was put to an entry.
abbrev pub import_report : Bool → (path name source : List ℕ) → List ℕ
import_report true path name source = []
import_report false path name source =
    codes "Successfully imported attachment " ++ source ++ codes " as " ++ name
    ++ codes " to entry " ++ path ++ codes ".\n"

-- A document with these bytes attached to an entry, at a moment.
abbrev pub with_attached_at : (path name bytes : List ℕ) → Bool → ℕ → BareDoc
    → Result BareDoc TreeFail
with_attached_at path name bytes replaces now d =
    time_of now >>= λ time. after_attach path name bytes replaces time d

-- What is put to an entry: the name that it gets, the file that it is, whose name is reported, its
-- bytes, and whether an attachment of that name is replaced.
pub record AttachedFile : Type 0 where
  pub name : List ℕ
  pub source : List ℕ
  pub bytes : List ℕ
  pub replaces : Bool

-- What `attachment-import` makes of the document of a file: an entry with an attachment more, or with
-- another one of this name.
unfoldable pub after_attach_command : List ℕ → Bool → (path : List ℕ) → AttachedFile → ℕ
    → BareDoc → Result AfterCommand Refusal
after_attach_command file quiet path given now d = do
  new ← named_or_refusal file [] given.name
      (with_attached_at path given.name given.bytes given.replaces now d)
  Ok (record { text = import_report quiet path given.name given.source; doc = new })

-- ---- attachment-rm

-- The line that reports that an attachment was taken away.
abbrev pub removal_report : Bool → (path name : List ℕ) → List ℕ
removal_report true path name = []
removal_report false path name =
    codes "Successfully removed attachment " ++ name ++ codes " from entry " ++ path ++ codes ".\n"

-- A document without an attachment of an entry, at a moment.
abbrev pub with_detached_at : (path name : List ℕ) → ℕ → BareDoc → Result BareDoc TreeFail
with_detached_at path name now d = time_of now >>= λ time. after_detach path name time d

-- What `attachment-rm` makes of the document of a file: an entry with an attachment less.
unfoldable pub after_detach_command : List ℕ → Bool → (path name : List ℕ) → ℕ → BareDoc
    → Result AfterCommand Refusal
after_detach_command file quiet path name now d = do
  new ← named_or_refusal file [] name (with_detached_at path name now d)
  Ok (record { text = removal_report quiet path name; doc = new })
