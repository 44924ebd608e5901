-- What a command asks for.
use Rattle.std.specs.Prelude.{◌≡◌, ℕ, Bool, false, true, IsSome, is_some, ◌&&◌, ◌||◌, not, List, [], ◌∷◌, ◌++◌, Option, None, Some, Result, Ok, Err}
use Rattle.std.specs.Option.{unwrap_or}
use Rattle.cli_messages.specs.declared.answers.Refusal.{Refusal}
use Rattle.cli_profiles.specs.declared.profiles.PasswordProfile.{PasswordProfile}
use Rattle.cli_needs.specs.declared.command.Access.{Access}
use Rattle.cli_needs.specs.declared.command.Command.{Command}
use Rattle.cli_needs.specs.declared.command.Command.TheVariants.{Ls, Show, History, Search, Add, Edit, Restore, ExportAttachment, ImportAttachment, RemoveAttachment, Move, Remove, MakeGroup, RemoveGroup, Merge, Import, Create, Export, EditFile, Info}
use Rattle.cli_needs.specs.declared.command.FileChange.{FileChange}
use Rattle.cli_needs.specs.declared.command.ImportFormat.{ImportFormat}
use Rattle.cli_needs.specs.declared.command.KdfAsked.{KdfAsked}
use Rattle.cli_needs.specs.declared.command.KeyFileChange.{KeyFileChange}
use Rattle.cli_needs.specs.declared.command.KeyFileChange.TheVariants as key_file
use Rattle.cli_needs.specs.declared.command.PasswordChange.{PasswordChange}
use Rattle.cli_needs.specs.declared.command.PasswordChange.TheVariants as password
use Rattle.kdbx_frame.specs.declared.settings.Cipher.{Cipher}

-- What a command asks for: the file of its database and how it is opened; the files of its sources,
-- how each is opened, and whether each has the password of the database; whether a line of the input
-- is due after those that open databases; whether one more, a one-time code, is due after it; and
-- the names of the fields whose values are the lines after that.
pub record Needs : Type 0 where
  pub access : Access
  pub file : List ℕ
  pub from : Access
  pub same : Bool
  pub sources : List (List ℕ)
  pub has_line : Bool
  pub has_otp : Bool
  pub fields : List (List ℕ)

-- What a command asks for that has no sources.
abbrev pub without_sources : Access → List ℕ → Bool → Needs
without_sources access file has_line = record {
  access = access;
  file = file;
  from = access;
  same = false;
  sources = [];
  has_line = has_line;
  has_otp = false;
  fields = [];
}

-- A database asks for a line: its password, unless it is a plain document or has none.
abbrev pub asks_password : Access → Bool
asks_password access = not (access.plain || access.no_password)

-- A new password of a database is a line.
abbrev pub sets_password : PasswordChange → Bool
sets_password password.Keep = false
sets_password password.Set = true
sets_password password.Unset = false

-- What each command asks for. The database that an import opens is its source, and the line after
-- the source's is the password of the new database. The one that is made empty is not opened, and
-- its line is the password that it is to have. Where a database's file gets another password, that
-- is the line after the one that opens it.
abbrev pub needs_of : Command → Needs
needs_of (Ls access file group recursive flat ids) = without_sources access file false
needs_of (Show access file entry clear all attachments names totp at) =
    without_sources access file false
needs_of (History access file entry) = without_sources access file false
needs_of (Search access file term) = without_sources access file false
needs_of (Add access file entry asked) = without_sources access file asked.password
needs_of (Edit access file entry asked further) =
    record (without_sources access file asked.password) {
      has_otp = asked.otp;
      fields = further.set;
    }
needs_of (Restore access file entry version) = without_sources access file false
needs_of (ExportAttachment access file entry name to) = without_sources access file false
needs_of (ImportAttachment access file entry name source replaces) =
    without_sources access file false
needs_of (RemoveAttachment access file entry name) = without_sources access file false
needs_of (Move access file node group) = without_sources access file false
needs_of (Remove access file entry) = without_sources access file false
needs_of (MakeGroup access file group) = without_sources access file false
needs_of (RemoveGroup access file group) = without_sources access file false
needs_of (Merge access file sources from same dry details) = record {
  access = access;
  file = file;
  from = from;
  same = same;
  sources = sources;
  has_line = false;
  has_otp = false;
  fields = [];
}
needs_of (Import access format source from file) =
    without_sources from source (asks_password access)
needs_of (Create access file name cipher kdf) = without_sources access file false
needs_of (Export access format file) = without_sources access file false
needs_of (EditFile access file change) =
    without_sources access file (sets_password change.password)
needs_of (Info access file) = without_sources access file false

-- How the password of an entry is generated, where a command asks for that.
abbrev pub generated_by : Command → Option PasswordProfile
generated_by (Add access file entry asked) = asked.generated
generated_by (Edit access file entry asked further) = asked.generated
generated_by command = None

-- What an import asks for beside what its source is opened by: the format and the file of the
-- source, and the file of the new database and how that is opened afterwards.
pub record ImportNeeds : Type 0 where
  pub format : ImportFormat
  pub source : List ℕ
  pub access : Access
  pub file : List ℕ

-- What an import asks for; other commands are none.
abbrev pub import_of : Command → Option ImportNeeds
import_of (Import access format source from file) = Some (record {
  format = format;
  source = source;
  access = access;
  file = file;
})
import_of command = None

-- What an empty database is made by: how it is opened afterwards, its file and its name, and the
-- cipher and the key derivation, each where it is asked for.
pub record CreateNeeds : Type 0 where
  pub access : Access
  pub file : List ℕ
  pub name : Option (List ℕ)
  pub cipher : Option Cipher
  pub kdf : Option KdfAsked

-- Where the database of a command comes from: it is opened; it is opened where no file has this
-- name, which gets what is taken out of it; it is opened beside a file, which is put into it; it is
-- made of what another program has written; it is made empty; or it is opened, and its file is
-- changed.
pub data Origin : Type 0 where
  Opened : Origin
  Exported : (to : List ℕ) → Origin
  Attached : (source : List ℕ) → Origin
  Imported : ImportNeeds → Origin
  Created : CreateNeeds → Origin
  Changed : FileChange → Origin

-- Where a database comes from of which something is taken out: into a new file, where one is named.
abbrev pub opened_for : Option (List ℕ) → Origin
opened_for None = Opened
opened_for (Some to) = Exported to

-- The file that a command makes of an attachment, where it names one.
abbrev pub exported_to : Command → Option (List ℕ)
exported_to (ExportAttachment access file entry name to) = to
exported_to command = None

-- Where the database of each command comes from.
abbrev pub origin_of : Command → Origin
origin_of (Import access format source from file) = Imported (record {
  format = format;
  source = source;
  access = access;
  file = file;
})
origin_of (Create access file name cipher kdf) = Created (record {
  access = access;
  file = file;
  name = name;
  cipher = cipher;
  kdf = kdf;
})
origin_of (EditFile access file change) = Changed change
origin_of (ExportAttachment access file entry name to) = opened_for to
origin_of (ImportAttachment access file entry name source replaces) = Attached source
origin_of command = Opened

-- The file of what an import makes, or else the other.
abbrev pub file_made : Option ImportNeeds → List ℕ → List ℕ
file_made (Some import) file = import.file
file_made None file = file

-- The file of the database that a command shows or writes: that of the new database of an import, or
-- else that of the database that it opens.
abbrev pub target_of : Command → List ℕ
target_of command = file_made (import_of command) (needs_of command).file

-- The file that a command writes, where it writes one: the new file that it takes an attachment out
-- into, or else that of its database.
abbrev pub file_written : Command → List ℕ
file_written command = unwrap_or (exported_to command) (target_of command)

-- How what an import makes is opened, or else as the other.
abbrev pub access_made : Option ImportNeeds → Access → Access
access_made (Some import) access = import.access
access_made None access = access

-- How the database in that file is opened.
abbrev pub target_access : Command → Access
target_access command = access_made (import_of command) (needs_of command).access

-- A database that is no plain document has a password or a key file.
abbrev pub HasKey : Access → Type 0
HasKey access = access.plain ≡ false → access.no_password ≡ true → IsSome access.key_file

-- A database has a password after a change of its file: it is set, or it stays.
abbrev pub keeps_password : Access → PasswordChange → Bool
keeps_password access password.Keep = not access.no_password
keeps_password access password.Set = true
keeps_password access password.Unset = false

-- And it has a key file: it is set, or it stays.
abbrev pub keeps_key_file : Access → KeyFileChange → Bool
keeps_key_file access key_file.Keep = is_some access.key_file
keeps_key_file access (key_file.Set name) = true
keeps_key_file access key_file.Unset = false

-- A file that is changed is sealed, and its new key has a password or a key file.
pub record HasNewKey (access : Access) (change : FileChange) : Type 0 where
  pub sealed : access.plain ≡ false
  pub part : keeps_password access change.password || keeps_key_file access change.key_file ≡ true

-- So it is with each command that changes a file.
abbrev pub HasKeyAfter : Command → Type 0
HasKeyAfter (EditFile access file change) = HasNewKey access change
HasKeyAfter command = Unit {0}

-- Each source asks for a line: a password of its own, unless it has the password of the database, or
-- none.
abbrev pub asks_passwords_from : Needs → Bool
asks_passwords_from needs = not needs.same && asks_password needs.from

-- The database and each source have a password or a key file, or are plain documents; and a source
-- that has the password of the database is opened as that is.
pub record HasKeys (needs : Needs) : Type 0 where
  pub target : HasKey needs.access
  pub sources : HasKey needs.from
  pub same : needs.same ≡ true → needs.from ≡ needs.access

-- There is something in a list.
abbrev pub is_filled : {A : Type 0} → List A → Bool
is_filled [] = false
is_filled (x ∷ xs) = true

-- A line is asked for after those that open databases.
abbrev pub asks_more : Needs → Bool
asks_more needs = needs.has_line || (needs.has_otp || is_filled needs.fields)

-- A line is asked for: by the database, by each of its sources, or after them.
abbrev pub asks_line : Needs → Bool
asks_line needs = asks_password needs.access || (asks_passwords_from needs || asks_more needs)

-- The key file, where one is named.
abbrev pub key_files : Option (List ℕ) → List (List ℕ)
key_files None = []
key_files (Some name) = name ∷ []

-- The files of one database: the key file, and then its own.
abbrev pub database_files : Access → List ℕ → List (List ℕ)
database_files access name = key_files access.key_file ++ name ∷ []

-- The files of sources, each opened in this way.
abbrev pub source_files : Access → List (List ℕ) → List (List ℕ)
source_files from [] = []
source_files from (name ∷ names) = database_files from name ++ source_files from names

-- The files that a command asks for: those of its database, and then those of its sources.
abbrev pub files_of : Needs → List (List ℕ)
files_of needs = database_files needs.access needs.file ++ source_files needs.from needs.sources

-- The key file that a database's file is to have, where one is named.
abbrev pub new_key_files : KeyFileChange → List (List ℕ)
new_key_files key_file.Keep = []
new_key_files (key_file.Set name) = name ∷ []
new_key_files key_file.Unset = []

-- The files of a database by where it comes from. Of one that is opened for a new file they are that
-- and its own, and of one beside a file its own and that. Of an import they are its source, the new
-- database, and the key file of that; of an empty database its own, and its key file; and of one
-- whose file is changed those that it is opened by, and the new key file.
abbrev pub files_by : Origin → Needs → List (List ℕ)
files_by Opened needs = files_of needs
files_by (Exported to) needs = to ∷ files_of needs
files_by (Attached source) needs = files_of needs ++ source ∷ []
files_by (Imported import) needs = import.source ∷ import.file ∷ key_files import.access.key_file
files_by (Created create) needs = create.file ∷ key_files create.access.key_file
files_by (Changed change) needs =
    database_files needs.access needs.file ++ new_key_files change.key_file

-- The files that the words name.
abbrev pub files_named : Result Command Refusal → List (List ℕ)
files_named (Ok command) = files_by (origin_of command) (needs_of command)
files_named (Err refusal) = []
