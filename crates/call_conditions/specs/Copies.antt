-- Copies of a database in files on several disks, and what is seen of a call that is made there.
use Rattle.std.specs.Prelude.{◌≡◌, ◌<◌, ℕ, Bool, true, false, List, [], ◌∷◌, Option, None, Some, Ok}
use Rattle.std.specs.FinMap.{get}
use Rattle.outside_core.specs.Files.{FileMap}
use Rattle.key_core.specs.Keys.{composite_key}
use Rattle.vault_model.specs.Tree.{BareDoc}
use Rattle.doc_forms.specs.Documents.{DocumentAndHash}
use Rattle.keepass_call.specs.KdbxOpen.Opening.{FileContents}
use Rattle.keepass_call.specs.KdbxOpen.Sealed.{Sealed}
use Rattle.cli_needs.specs.declared.command.Access.{Access}
use Rattle.cli_needs.specs.Needs as from
use Rattle.cli_needs.specs.Needs.{Origin, needs_of, origin_of}
use Rattle.keepass_call.specs.CliFiles.Files.{plain_document}
use Rattle.keepass_call.specs.CliFiles.Held.{GivesKey}
use Rattle.keepass_call.specs.CliFiles.Tasks.{Task}
use Rattle.keepass_call.specs.CliDatabases.Databases.{password_from}
use Rattle.keepass_call.specs.Outcome.{Counts, Seen, World}

-- ---- copies

-- A copy: the disk that its file is on, the file's name, and the composite key that it is sealed
-- under; a plain document has none.
pub record Copy : Type 0 where
  pub disk : ℕ
  pub name : List ℕ
  pub key : Option (List ℕ)

-- So many copies, by their numbers from 0 on.
pub record Copies : Type 0 where
  pub count : ℕ
  pub copy : ℕ → Copy

-- Each is in a file of its own.
abbrev pub AreApart : Copies → Type 0
AreApart copies = (i j : ℕ) → i < copies.count → j < copies.count
    → (copies.copy i).disk ≡ (copies.copy j).disk → (copies.copy i).name ≡ (copies.copy j).name
    → i ≡ j

-- The files of all disks, by their numbers.
abbrev pub Disks : Type 0
Disks = ℕ → FileMap

-- Bytes hold a document sealed under a key, or by itself.
abbrev pub HoldsDoc : Option (List ℕ) → BareDoc → List ℕ → Type 0
HoldsDoc None doc bytes =
    (read : DocumentAndHash) × ((plain_document bytes ≡ Ok read) × (read.0 ≡ doc))
HoldsDoc (Some composite) doc bytes =
    (vault : FileContents) × (Sealed bytes composite vault × (vault.doc ≡ doc))

-- The file of a copy holds a document under the copy's key.
pub record CopyHolds (disks : Disks) (copy : Copy) (doc : BareDoc) : Type 0 where
  pub bytes : List ℕ
  pub found : get (disks copy.disk) copy.name ≡ Some bytes
  pub holds : HoldsDoc copy.key doc bytes

-- ---- calls

-- What is seen of a call: its words, moment and status, what the outside reports before and after
-- it with the counts, and the world that this is; the disk that it is made on; and the numbers of
-- the copies that its words name, the target and the sources.
pub record CallSeen : Type 0 where
  pub words : List (List ℕ)
  pub time : ℕ
  pub result : ℕ
  pub before : Seen
  pub now : Seen
  pub counts : Counts
  pub counts' : Counts
  pub world : World
  pub disk : ℕ
  pub target : ℕ
  pub sources : List ℕ

-- A database that is opened so, plain or not, with a key file and a password, has this key.
abbrev pub IsKeyOf : Bool → (key_file password : Option (List ℕ)) → FileMap → Option (List ℕ)
    → Type 0
IsKeyOf true key_file password files key = key ≡ None
IsKeyOf false key_file password files key = (given : Option (List ℕ))
    → GivesKey key_file files given → key ≡ Some (composite_key password given)

-- A copy is the file of this name on the disk of a call, and is opened by its key.
pub record IsOpened (copies : Copies) (c : CallSeen) (access : Access)
    (password : Option (List ℕ)) (name : List ℕ) (i : ℕ) : Type 0 where
  pub there : i < copies.count
  pub disk : (copies.copy i).disk ≡ c.disk
  pub named : (copies.copy i).name ≡ name
  pub key : IsKeyOf access.plain access.key_file password c.world.files (copies.copy i).key

-- So are several copies, each under the target's password or its own line.
abbrev pub AreOpened : Copies → CallSeen → Access → Bool → Option (List ℕ) → List (List ℕ)
    → List (Option (List ℕ)) → List ℕ → Type 0
AreOpened copies c from same target [] lines [] = Unit {0}
AreOpened copies c from same target [] lines (i ∷ is) = ⊥
AreOpened copies c from same target (name ∷ names) [] is = ⊥
AreOpened copies c from same target (name ∷ names) (line ∷ lines) [] = ⊥
AreOpened copies c from same target (name ∷ names) (line ∷ lines) (i ∷ is) =
    IsOpened copies c from (password_from same target line) name i
    × AreOpened copies c from same target names lines is

-- A database is opened, and stays under its key: it is not made, and its file is not to be sealed
-- otherwise.
abbrev pub is_opened : Origin → Bool
is_opened from.Opened = true
is_opened (from.Exported to) = true
is_opened (from.Attached source) = true
is_opened (from.Imported import) = false
is_opened (from.Created create) = false
is_opened (from.Changed change) = false

-- A task makes no database and changes no key, and opens the copies that the call names.
pub record OpensCopies (copies : Copies) (c : CallSeen) (task : Task) : Type 0 where
  pub opens : is_opened (origin_of task.command) ≡ true
  pub target : IsOpened copies c (needs_of task.command).access task.lines.password
      (needs_of task.command).file c.target
  pub sources : AreOpened copies c (needs_of task.command).from (needs_of task.command).same
      task.lines.password (needs_of task.command).sources task.lines.sources c.sources
