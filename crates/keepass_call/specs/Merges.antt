-- What is promised of merges of copies of one database: of parts of an agreed set.
use Rattle.std.specs.Prelude.{◌≡◌, ◌≢◌, ℕ, Bool, true, false, not, List, [], ◌∷◌, Option, None, Some, Ok, codes, map}
use Rattle.std.specs.FinMap.{get}
use Rattle.outside_core.specs.Files.{FileMap}
use Rattle.vault_model.specs.Db.{Db}
use Rattle.vault_model.specs.Join.{join, Agreed}
use Rattle.vault_model.specs.Tree.{BareDoc, LEVELS, IsSettled, db_in}
use Rattle.merge_core.specs.JoinLaws.{AreParts, end_to_end}
use Rattle.merge_core.specs.Refusals.{members}
use Rattle.cli_self_test.specs.AgreedLaws.Merges.{IsSettledAs}
use Rattle.doc_forms.specs.Documents.{DocumentAndHash}
use Rattle.session_opening.specs.KdbxOpen.Opening.{FileContents}
use Rattle.session_opening.specs.KdbxOpen.Sealed.{Sealed}
use Rattle.kdbx_frame.specs.declared.sealings.Sealing.{Sealing}
use Rattle.cli_needs.specs.declared.command.Command.{Command}
use Rattle.cli_needs.specs.declared.command.Command.TheVariants.{Ls, Show, History, Search, Add, Edit, Restore, ExportAttachment, ImportAttachment, RemoveAttachment, Move, Remove, MakeGroup, RemoveGroup, Merge, Import, Create, Export, EditFile, Info}
use Rattle.cli_needs.specs.Needs.{needs_of}
use Rattle.cli_files.specs.Files.{plain_document}
use Rattle.cli_writing.specs.Writing.{IsSame, Store}
use Rattle.keepass_call.specs.Held.{IsTask}
use Rattle.cli_reporting.specs.Reporting.{Gains}
use Rattle.keepass_call.specs.Outcome.{Seen, World}
use Rattle.cli_files.specs.Tasks.{Task}

-- A command is a merge, and no dry run.
abbrev pub merges : Command → Bool
merges (Ls access file group recursive flat ids) = false
merges (Show access file entry clear all attachments names totp at) = false
merges (History access file entry) = false
merges (Search access file term) = false
merges (Add access file entry asked) = false
merges (Edit access file entry asked further) = false
merges (Restore access file entry version) = false
merges (ExportAttachment access file entry name to) = false
merges (ImportAttachment access file entry name source replaces) = false
merges (RemoveAttachment access file entry name) = false
merges (Move access file node group) = false
merges (Remove access file entry) = false
merges (MakeGroup access file group) = false
merges (RemoveGroup access file group) = false
merges (Merge access file names from same dry details) = not dry
merges (Import access format source from file) = false
merges (Create access file name cipher kdf) = false
merges (Export access format file) = false
merges (EditFile access file change) = false
merges (Info access file) = false

-- ---- parts of an agreed set

-- The words are a merge, and the files hold its documents, whose databases are the joins of these
-- parts of an agreed set: the target's of the first, and each source's of the next.
pub record IsAgreedMerge (words : List (List ℕ)) (time : ℕ) (world : World)
    (parts : List (List Db)) : Type 0 where
  pub task : Task
  pub is_task : IsTask words time world task
  pub is_merge : merges task.command ≡ true
  pub set : List Db
  pub agreed : Agreed set
  pub are_parts : AreParts parts set
  pub joins : map db_in (task.opened.doc ∷ task.sources) ≡ map join parts

-- Bytes hold a document as a database holds it: by itself, or sealed under its composite key.
abbrev pub HoldsUnder : Option Sealing → BareDoc → List ℕ → Type 0
HoldsUnder None doc bytes =
    (read : DocumentAndHash) × ((plain_document bytes ≡ Ok read) × (read.0 ≡ doc))
HoldsUnder (Some sealing) doc bytes =
    (vault : FileContents) × (Sealed bytes sealing.composite vault × (vault.doc ≡ doc))

-- The file of this name holds a document under the key of the database, and each file of another
-- name is as before.
pub record TargetHolds (name : List ℕ) (sealing : Option Sealing) (doc : BareDoc)
    (before : FileMap) (now : Store) : Type 0 where
  pub files : FileMap
  pub are : now.files ≡ Some files
  pub bytes : List ℕ
  pub found : get files name ≡ Some bytes
  pub holds : HoldsUnder sealing doc bytes
  pub others : (other : List ℕ) → other ≢ name → get files other ≡ get before other

-- The target of a task holds a settled document of this database.
pub record HoldsDatabase (task : Task) (database : Db) (world : World) (now : Seen) : Type 0 where
  pub doc : BareDoc
  pub is : IsSettledAs database doc
  pub target : TargetHolds (needs_of task.command).file task.opened.sealing doc world.files
      now.store

-- Parts of an agreed set are never refused with status 6; and at status 0 the target holds the join
-- of all of them.
pub record MergesParts (task : Task) (parts : List (List Db)) (world : World) (result : ℕ)
    (now : Seen) : Type 0 where
  pub not_refused : result ≢ 6
  pub merged : result ≡ 0 → HoldsDatabase task (join (end_to_end parts)) world now

-- So it is with each call whose words merge parts of an agreed set.
abbrev pub MergesAgreed : List (List ℕ) → ℕ → World → ℕ → Seen → Type 0
MergesAgreed words time world result now =
    (parts : List (List Db)) (merge : IsAgreedMerge words time world parts)
    → MergesParts merge.task parts world result now

-- ---- merging again

-- The words merge sources into a target that is settled, and whose database is the join of itself and
-- theirs.
pub record IsMergeAgain (words : List (List ℕ)) (time : ℕ) (world : World) : Type 0 where
  pub task : Task
  pub is_task : IsTask words time world task
  pub is_merge : merges task.command ≡ true
  pub settled : IsSettled LEVELS task.opened.doc
  pub joined : join (members task.opened.doc task.sources) ≡ db_in task.opened.doc

-- What such a merge prints; nothing where it is quiet.
abbrev pub unmodified_text : Bool → List ℕ
unmodified_text true = []
unmodified_text false = codes "Database was not modified by merge operation.\n"

-- It prints this, and no file, no draft and nothing of the dice is touched.
pub record IsUntouched (task : Task) (before now : Seen) : Type 0 where
  pub text : Gains before.written now.written (unmodified_text (needs_of task.command).access.quiet)
  pub store : IsSame before.store now.store
  pub dice : now.stream ≡ before.stream

-- That is what each call does at status 0 whose words are such a merge.
abbrev pub MergesNothing : List (List ℕ) → ℕ → World → ℕ → Seen → Seen → Type 0
MergesNothing words time world result before now =
    (again : IsMergeAgain words time world) → result ≡ 0 → IsUntouched again.task before now
