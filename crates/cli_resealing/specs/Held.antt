-- What files hold of which such a database is made, speaking of all their bytes.
use Rattle.std.specs.Prelude.{◌≡◌, ◌≤◌, ℕ, List, [], Option, None, Some, Ok}
use Rattle.std.specs.FinMap as map
use Rattle.outside_core.specs.Files.{FileMap}
use Rattle.time_core.specs.Times.{last_stamp}
use Rattle.kdbx_frame.specs.declared.sealings.Sealing.{Sealing}
use Rattle.cli_needs.specs.Needs.{CreateNeeds, Needs}
use Rattle.cli_needs.specs.declared.command.FileChange.{FileChange}
use Rattle.cli_needs.specs.declared.command.KeyFileChange.{KeyFileChange}
use Rattle.cli_needs.specs.declared.command.KeyFileChange.TheVariants as key_file
use Rattle.cli_lines.specs.Lines.{Lines}
use Rattle.cli_databases.specs.CliFiles.Files.{Opened}
use Rattle.cli_databases.specs.CliFiles.Held.{GivesKey}
use Rattle.cli_databases.specs.CliFiles.SomeFiles.{SomeKey}
use Rattle.cli_databases.specs.Held.{IsSealed}
use Rattle.cli_databases.specs.SomeFiles.{SomeSealed}
use Rattle.cli_importing.specs.Held.{IsSealingBy, SomeSealing}
use Rattle.cli_resealing.specs.Asked.{asked_settings, with_resealed}
use Rattle.cli_resealing.specs.Created.{empty_document, undrawn_id}
use Rattle.cli_resealing.specs.Edited.{key_made, settings_in, under_key}

-- ---- an empty database

-- A new file is sealed by what is asked for in the place of what imported ones have.
abbrev pub IsNewSealing : CreateNeeds → Option Sealing → Opened → Type 0
IsNewSealing create sealing opened = with_resealed create.file
    (asked_settings create.cipher create.kdf None)
    (record { doc = opened.doc; sealing = sealing; passed_over = [] }) ≡ Ok opened

-- No file has the name of the new one, the document is empty, and the key file gives the key that
-- the new file is sealed with.
pub record HoldsCreated (create : CreateNeeds) (lines : Lines) (time : ℕ) (files : FileMap)
    (opened : Opened) : Type 0 where
  pub in_time : time ≤ last_stamp
  pub is_empty : opened.doc ≡ empty_document create.name undrawn_id time
  pub absent : map.get files create.file ≡ None
  pub sealing : Option Sealing
  pub sealed : IsSealingBy create.access.plain create.access.key_file lines.password files sealing
  pub changed : IsNewSealing create sealing opened

-- The same with the key of some key file, where one is named.
pub record SomeCreated (create : CreateNeeds) (lines : Lines) (time : ℕ) (opened : Opened) : Type 0
  where
    pub in_time : time ≤ last_stamp
    pub is_empty : opened.doc ≡ empty_document create.name undrawn_id time
    pub sealing : Option Sealing
    pub sealed : SomeSealing create.access.plain create.access.key_file lines.password sealing
    pub changed : IsNewSealing create sealing opened

-- ---- a file that is changed

-- The key of the key file after a change: the one that the new file gives, or none, or the old one.
abbrev pub GivesKeyAfter : KeyFileChange → FileMap → (old new : Option (List ℕ)) → Type 0
GivesKeyAfter key_file.Keep files old new = new ≡ old
GivesKeyAfter (key_file.Set name) files old new = GivesKey (Some name) files new
GivesKeyAfter key_file.Unset files old new = new ≡ None

-- The same with the key of some file.
abbrev pub SomeKeyAfter : KeyFileChange → (old new : Option (List ℕ)) → Type 0
SomeKeyAfter key_file.Keep old new = new ≡ old
SomeKeyAfter (key_file.Set name) old new = SomeKey (Some name) new
SomeKeyAfter key_file.Unset old new = new ≡ None

-- A database is another one in how its file is to be sealed: by what is asked for.
abbrev pub IsChangedSealing : List ℕ → FileChange → Lines → Option (List ℕ) → (before now : Opened)
    → Type 0
IsChangedSealing file change lines key before now =
    with_resealed file (settings_in change) (under_key (key_made change lines key) before) ≡ Ok now

-- The file holds the document, sealed under the composite key of the password and the key file; and
-- it is to be sealed by what is asked for.
pub record HoldsEdited (needs : Needs) (change : FileChange) (lines : Lines) (files : FileMap)
    (opened : Opened) : Type 0 where
  pub before : Opened
  pub sealed : IsSealed needs.access.key_file needs.file lines.password files before
  pub new : Option (List ℕ)
  pub gives_new : GivesKeyAfter change.key_file files sealed.key new
  pub changed : IsChangedSealing needs.file change lines new before opened

-- A key of some key file, where one is to be had, and how the file is sealed under it.
pub record SomeChanged (file : List ℕ) (change : FileChange) (lines : Lines)
    (old : Option (List ℕ)) (before now : Opened) : Type 0 where
  pub new : Option (List ℕ)
  pub gives_new : SomeKeyAfter change.key_file old new
  pub changed : IsChangedSealing file change lines new before now

-- Some bytes hold the document so, under the keys of some key files, where they are named.
pub record SomeEdited (needs : Needs) (change : FileChange) (lines : Lines) (opened : Opened) :
    Type 0 where
  pub before : Opened
  pub sealed : SomeSealed needs.access.key_file lines.password before
  pub changed : SomeChanged needs.file change lines sealed.key before opened
