-- The databases of a command, by where they come from.
use Rattle.std.proofs.Common.{◌≡◌, ◌≤◌, ℕ, List, [], ◌∷◌, refl, sym, ◌∙◌, ap, subst, arith, Option, None, Some, Result, Ok, Err}
use Rattle.std.specs.Prelude.{IfErr, false, is_some, not}
use Rattle.std.specs.FinMap as map
use Rattle.outside_core.specs.Results.{◌>>=◌}
use Rattle.outside_core.specs.Files.{FileMap}
use Rattle.vault_model.specs.Tree.{BareDoc}
use Rattle.cli_messages.specs.declared.answers.Refusal.{Refusal}
use Rattle.cli_needs.specs.Needs as from
use Rattle.cli_needs.specs.Needs.{HasKeyAfter, Needs, Origin, files_by, files_named, files_of, needs_of, origin_of, target_access}
use Rattle.cli_needs.specs.declared.command.Access.{Access}
use Rattle.cli_needs.specs.declared.command.Command.{Command}
use Rattle.cli_needs.specs.declared.command.Command.TheVariants.{Ls, Show, History, Search, Add, Edit, Restore, ExportAttachment, ImportAttachment, RemoveAttachment, Move, Remove, MakeGroup, RemoveGroup, Merge, Import, Create, Export, EditFile, Info}
use Rattle.cli_lines.specs.Lines.{HasLines, Lines}
use Rattle.cli_resealing.specs.CliFiles.Files.{Databases, Opened}
use Rattle.cli_resealing.proofs.CliDatabases.HeldFiles.{databases_given, databases_held}
use Rattle.cli_resealing.proofs.CliDatabases.SomeOpened.{sealed_unless_plain}
use Rattle.cli_resealing.proofs.CliImporting.HeldImports.{import_given, import_held}
use Rattle.cli_resealing.proofs.CliImporting.Sealings.{sealed_anew}
use Rattle.cli_resealing.specs.CliDatabases.Databases.{databases_of}
use Rattle.cli_resealing.specs.CliImporting.Imports.{imported_of, refuse_file}
use Rattle.cli_resealing.specs.Created.{created_of}
use Rattle.cli_resealing.specs.Edited.{edited_of}
use Rattle.cli_resealing.proofs.Helds.{created_given, created_held, edited_given, edited_held}
use Rattle.cli_resealing.proofs.Sealed.{sealed_created, sealed_edited}
use Rattle.cli_resealing.specs.CliDatabases.SeenOpened.{databases_seen}
use Rattle.cli_resealing.specs.CliDatabases.declared.databases.Databases as memory
use Rattle.cli_resealing.proofs.CliDatabases.Phases.{stops_both}
use Rattle.cli_resealing.proofs.CliFiles.FileStops.{first_at_files, later_at_files}
use Rattle.cli_messages.specs.Phases.{IsFileStop, Returns, Stops}
use Rattle.cli_messages.specs.declared.answers.Stop.{Stop}
use Rattle.call_input.specs.Attaching.{attached_by, attached_for, bytes_in}
use Rattle.call_input.specs.Opening.{HoldByOrigin, HoldCommandDatabases, SomeByOrigin, SomeCommandDatabases, alone, databases_beside, databases_by, databases_for, one_database}

-- ---- what is sealed

-- How the database of each origin is opened afterwards; a file that is changed is sealed.
abbrev IsAccess : Origin → Needs → Access → Type 0
IsAccess from.Opened needs access = needs.access ≡ access
IsAccess (from.Exported to) needs access = needs.access ≡ access
IsAccess (from.Attached source) needs access = needs.access ≡ access
IsAccess (from.Imported import) needs access = import.access ≡ access
IsAccess (from.Created create) needs access = create.access ≡ access
IsAccess (from.Changed change) needs access = access.plain ≡ false

access_is : (command : Command) → HasKeyAfter command → IsAccess (origin_of command) (needs_of command) (target_access command)
access_is (Ls access file group recursive flat ids) after = refl
access_is (Show access file entry clear all attachments names totp at) after = refl
access_is (History access file entry) after = refl
access_is (Search access file term) after = refl
access_is (Add access file entry asked) after = refl
access_is (Edit access file entry asked further) after = refl
access_is (Restore access file entry version) after = refl
access_is (ExportAttachment access file entry name None) after = refl
access_is (ExportAttachment access file entry name (Some to)) after = refl
access_is (ImportAttachment access file entry name source replaces) after = refl
access_is (RemoveAttachment access file entry name) after = refl
access_is (Move access file node group) after = refl
access_is (Remove access file entry) after = refl
access_is (MakeGroup access file group) after = refl
access_is (RemoveGroup access file group) after = refl
access_is (Merge access file names from same dry details) after = refl
access_is (Import access format source from file) after = refl
access_is (Create access file name cipher kdf) after = refl
access_is (Export access format file) after = refl
access_is (EditFile access file change) after = after.sealed
access_is (Info access file) after = refl

-- The database is sealed unless it is a plain document.
sealed_by : (origin : Origin) (needs : Needs) (lines : Lines) (time : ℕ) (access : Access) (databases : Databases) → IsAccess origin needs access
    → SomeByOrigin origin needs lines time databases → is_some databases.target.sealing ≡ not access.plain
sealed_by from.Opened needs lines time access databases is h =
    sealed_unless_plain needs.access.plain needs.access.key_file lines.password databases.target h.target ∙ ap (λ (a : Access). not a.plain) is
sealed_by (from.Exported to) needs lines time access databases is h =
    sealed_unless_plain needs.access.plain needs.access.key_file lines.password databases.target h.target ∙ ap (λ (a : Access). not a.plain) is
sealed_by (from.Attached source) needs lines time access databases is h =
    sealed_unless_plain needs.access.plain needs.access.key_file lines.password databases.target h.target ∙ ap (λ (a : Access). not a.plain) is
sealed_by (from.Imported import) needs lines time access databases is h =
    sealed_anew import.access.plain import.access.key_file lines.more databases.target.sealing h.0.sealing ∙ ap (λ (a : Access). not a.plain) is
sealed_by (from.Created create) needs lines time access databases is h =
    sealed_created create lines time databases.target h.0 ∙ ap (λ (a : Access). not a.plain) is
sealed_by (from.Changed change) needs lines time access databases is h =
    sealed_edited needs change lines databases.target h.0 ∙ sym (ap not is)

pub sealed_command : (command : Command) (lines : Lines) (time : ℕ) (databases : Databases) → HasKeyAfter command
    → SomeCommandDatabases command lines time databases → is_some databases.target.sealing ≡ not (target_access command).plain
sealed_command command lines time databases after h =
    sealed_by (origin_of command) (needs_of command) lines time (target_access command) databases (access_is command after) h

-- ---- what the files hold

one_database_is : (r : Result Opened Refusal) (databases : Databases) → alone r ≡ Ok databases → (r ≡ Ok databases.target) × (databases.sources ≡ [])
one_database_is (Ok opened) databases h =
    let is : one_database opened ≡ databases = cc h in
    (ap (λ (d : Databases). Ok d.target) is, ap (λ (d : Databases). d.sources) (sym is))
one_database_is (Err refusal) databases h = cc

is_one : (r : Result Opened Refusal) (databases : Databases) → r ≡ Ok databases.target → databases.sources ≡ [] → alone r ≡ Ok databases
is_one r databases h none = ap alone h ∙ ap (λ (s : List BareDoc). Ok (record { target = databases.target; sources = s })) (sym none)

-- Where databases are opened beside a new file no file has its name.
absent_first : (to : List ℕ) (found : Option (List ℕ)) (r : Result Databases Refusal) (databases : Databases)
    → (refuse_file to found >>= λ absent. r) ≡ Ok databases → (found ≡ None) × (r ≡ Ok databases)
absent_first to None r databases h = (refl, h)
absent_first to (Some bytes) r databases h = cc h

held_by : (origin : Origin) (needs : Needs) (lines : Lines) (time : ℕ) (files : FileMap) (databases : Databases) → HasLines needs lines
    → databases_by origin needs lines time files ≡ Ok databases → HoldByOrigin origin needs lines time files databases
held_by from.Opened needs lines time files databases has h = databases_held needs lines files databases has h
held_by (from.Exported to) needs lines time files databases has h =
    let a = absent_first to (map.get files to) (databases_of needs lines files) databases h in
    (a.0, databases_held needs lines files databases has a.1)
held_by (from.Attached source) needs lines time files databases has h = databases_held needs lines files databases has h
held_by (from.Imported import) needs lines time files databases has h =
    let a = one_database_is (imported_of import lines time files) databases h in
    (import_held import lines time files databases.target a.0, a.1)
held_by (from.Created create) needs lines time files databases has h =
    let a = one_database_is (created_of create lines time files) databases h in
    (created_held create lines time files databases.target a.0, a.1)
held_by (from.Changed change) needs lines time files databases has h =
    let a = one_database_is (edited_of needs change lines files) databases h in
    (edited_held needs change lines files databases.target a.0, a.1)

pub databases_hold : (command : Command) (lines : Lines) (time : ℕ) (files : FileMap) (databases : Databases) → HasLines (needs_of command) lines
    → databases_for command lines time files ≡ Ok databases → HoldCommandDatabases command lines time files databases
databases_hold command lines time files databases has h = held_by (origin_of command) (needs_of command) lines time files databases has h

given_by : (origin : Origin) (needs : Needs) (lines : Lines) (time : ℕ) (files : FileMap) (databases : Databases)
    → HoldByOrigin origin needs lines time files databases → databases_by origin needs lines time files ≡ Ok databases
given_by from.Opened needs lines time files databases h = databases_given needs lines files databases h
given_by (from.Exported to) needs lines time files databases h =
    ap (λ (o : Option (List ℕ)). refuse_file to o >>= λ absent. databases_of needs lines files) h.0
    ∙ databases_given needs lines files databases h.1
given_by (from.Attached source) needs lines time files databases h = databases_given needs lines files databases h
given_by (from.Imported import) needs lines time files databases h =
    is_one (imported_of import lines time files) databases (import_given import lines time files databases.target h.0) h.1
given_by (from.Created create) needs lines time files databases h =
    is_one (created_of create lines time files) databases (created_given create lines time files databases.target h.0) h.1
given_by (from.Changed change) needs lines time files databases h =
    is_one (edited_of needs change lines files) databases (edited_given needs change lines files databases.target h.0) h.1

pub databases_follow : (command : Command) (lines : Lines) (time : ℕ) (files : FileMap) (databases : Databases)
    → HoldCommandDatabases command lines time files databases → databases_for command lines time files ≡ Ok databases
databases_follow command lines time files databases h = given_by (origin_of command) (needs_of command) lines time files databases h

-- ---- databases that are opened where no file has a name

module _ (to : List ℕ) (name : List ℕ) (needs : Needs) (lines : Lines) (files : FileMap) (named : name ≡ to) where
  -- No file has the name, and what is opened then is what the databases are.
  pub opened_beside : (absent : Unit {0}) (result : Result memory.Databases Stop) → refuse_file name (map.get files name) ≡ Ok absent
      → Returns databases_seen result (databases_of needs lines files) → Returns databases_seen result (databases_beside to needs lines files)
  opened_beside absent result is h =
      subst (λ (n : List ℕ). Returns databases_seen result (databases_beside n needs lines files)) named
      (subst (λ (r : Result (Unit {0}) Refusal). Returns databases_seen result (r >>= λ absent. databases_of needs lines files)) (sym is) h)

  -- A file that has the name is a refusal of them.
  pub name_refused : (stop : Stop) → Stops stop (refuse_file name (map.get files name)) → Stops stop (databases_beside to needs lines files)
  name_refused stop h =
      subst (λ (n : List ℕ). Stops stop (databases_beside n needs lines files)) named
      (stops_both stop (refuse_file name (map.get files name)) (λ absent. databases_of needs lines files) h)

-- A stop at the new file, or behind it.
pub at_new_name : (stop : Stop) (to name : List ℕ) (names : List (List ℕ)) (f f' a a' : ℕ) → name ≡ to → IsFileStop (name ∷ []) f f' a a' stop
    → IsFileStop (to ∷ names) f f' a a' stop
at_new_name stop to name names f f' a a' named h =
    first_at_files (to ∷ []) names f f' a a' stop (subst (λ (n : List ℕ). IsFileStop (n ∷ []) f f' a a' stop) named h)

pub behind_new_name : (result : Result memory.Databases Stop) (to : List ℕ) (names : List (List ℕ)) (f f' f'' a a' a'' : ℕ) → f ≤ f' → a ≤ a'
    → IfErr result (IsFileStop names f' f'' a' a'') → IfErr result (IsFileStop (to ∷ names) f f'' a a'')
behind_new_name (Ok databases) to names f f' f'' a a' a'' p q h = tt
behind_new_name (Err stop) to names f f' f'' a a' a'' p q h = later_at_files (to ∷ []) names f f' f'' a a' a'' stop p q h

-- ---- a file that is put into the database

-- It is read, or refused.
pub file_attached : (command : Command) (source : List ℕ) (files : FileMap) (bytes : List ℕ) → from.Attached source ≡ origin_of command
    → bytes_in source files ≡ Ok bytes → attached_for command files ≡ Ok (Some bytes)
file_attached command source files bytes o h =
    subst (λ (origin : Origin). attached_by origin files ≡ Ok (Some bytes)) o (ap (λ r. r >>= λ bytes. Ok (Some bytes)) h)

pub file_refused : (stop : Stop) (command : Command) (source : List ℕ) (files : FileMap) → from.Attached source ≡ origin_of command
    → Stops stop (bytes_in source files) → Stops stop (attached_for command files)
file_refused stop command source files o h =
    subst (λ (origin : Origin). Stops stop (attached_by origin files)) o (stops_both stop (bytes_in source files) (λ bytes. Ok (Some bytes)) h)

-- A stop at it is one at a file that the command names.
pub at_attached : (stop : Stop) (command : Command) (source : List ℕ) (f f' a a' : ℕ) → from.Attached source ≡ origin_of command
    → IsFileStop (source ∷ []) f f' a a' stop → IsFileStop (files_named (Ok command)) f f' a a' stop
at_attached stop command source f f' a a' o h =
    subst (λ (origin : Origin). IsFileStop (files_by origin (needs_of command)) f f' a a' stop) o
    (later_at_files (files_of (needs_of command)) (source ∷ []) f f f' a a a' stop (omega arith) (omega arith) h)

-- So is one at the databases that are opened before it.
pub before_attached : (result : Result memory.Databases Stop) (command : Command) (source : List ℕ) (needs : Needs) (f f' a a' : ℕ)
    → from.Attached source ≡ origin_of command → needs ≡ needs_of command → IfErr result (IsFileStop (files_of needs) f f' a a')
    → IfErr result (IsFileStop (files_named (Ok command)) f f' a a')
before_attached (Ok databases) command source needs f f' a a' o n h = tt
before_attached (Err stop) command source needs f f' a a' o n h =
    subst (λ (origin : Origin). IsFileStop (files_by origin (needs_of command)) f f' a a' stop) o
    (first_at_files (files_of (needs_of command)) (source ∷ []) f f' a a' stop (subst (λ (k : Needs). IsFileStop (files_of k) f f' a a' stop) n h))
