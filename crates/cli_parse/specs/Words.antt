-- Which command the words of a call are.
use Rattle.std.specs.Prelude.{ℕ, Bool, true, false, not, ◌&&◌, ◌||◌, ◌==◌, nat_lt, if◌then◌else◌, length, List, [], ◌∷◌, codes, Option, None, Some, Result, Ok, Err, option_and_then, option_map}
use Rattle.std.specs.Str.{bytes_eq}
use Rattle.cli_messages.specs.declared.answers.Reason.TheVariants.{WrongWords}
use Rattle.cli_messages.specs.declared.answers.Refusal.{Refusal}
use Rattle.cli_messages.specs.Messages.{refusal_of}
use Rattle.cli_profiles.specs.Generating.{generated_in, has_profile_option}
use Rattle.cli_profiles.specs.declared.profiles.PasswordProfile.{PasswordProfile}
use Rattle.cli_needs.specs.declared.command.Access.{Access}
use Rattle.cli_needs.specs.declared.command.Asked.{Asked}
use Rattle.cli_needs.specs.declared.command.Command.{Command}
use Rattle.cli_needs.specs.declared.command.Command.TheVariants.{Ls, Show, History, Search, Add, Edit, Restore, ExportAttachment, ImportAttachment, RemoveAttachment, Move, Remove, MakeGroup, RemoveGroup, Merge, Import, Create, Export, EditFile, Info}
use Rattle.cli_needs.specs.Needs.{is_filled}
use Rattle.cli_needs.specs.declared.command.ExportFormat.{ExportFormat}
use Rattle.cli_needs.specs.declared.command.FurtherAsked.{FurtherAsked}
use Rattle.cli_needs.specs.declared.command.ExportFormat.TheVariants as format
use Rattle.cli_needs.specs.declared.command.ImportFormat.{ImportFormat}
use Rattle.cli_needs.specs.declared.command.ImportFormat.TheVariants.{Xml, Psafe, Csv, Bitwarden}
use Rattle.cli_options.specs.declared.names.CommandName.{CommandName}
use Rattle.cli_options.specs.declared.names.CommandName.TheVariants as name
use Rattle.cli_options.specs.declared.forms.CommandOption.TheVariants as option
use Rattle.cli_options.specs.Numbers.{number_of}
use Rattle.cli_options.specs.Options.{command_named}
use Rattle.cli_options.specs.Credentials.{is_fit_change, is_fit_new, is_whole}
use Rattle.cli_options.specs.Said.{Said, is_given, nothing_said, text_of, texts_of, with_words}
use Rattle.cli_parse.specs.Fields.{further_of}
use Rattle.cli_parse.specs.Settings.{change_in, cipher_in, has_file_change, kdf_in}
use Rattle.cli_needs.specs.declared.command.KdfAsked.{KdfAsked}
use Rattle.cli_needs.specs.KdbxFrame.declared.settings.Cipher.{Cipher}

-- How a database is opened.
abbrev pub access_of : Said → Access
access_of said = record {
  plain = is_given option.Plain said;
  quiet = is_given option.Quiet said;
  key_file = text_of option.KeyFile said;
  no_password = is_given option.NoPassword said;
}

-- How each source of a merge is opened: as its target where that is asked for, or by options of its
-- own.
abbrev pub access_from : Said → Access
access_from said = if is_given option.SameCredentials said then access_of said
    else record {
      plain = is_given option.Plain said;
      quiet = is_given option.Quiet said;
      key_file = text_of option.KeyFileFrom said;
      no_password = is_given option.NoPasswordFrom said;
    }

-- How a new database is opened: by the password and the key file that it is to have.
abbrev pub access_new : Said → Access
access_new said = record {
  plain = is_given option.Plain said;
  quiet = is_given option.Quiet said;
  key_file = text_of option.SetKeyFile said;
  no_password = not (is_given option.Plain said || is_given option.SetPassword said);
}

-- The values that an entry is to have, with its password generated so, where it is.
abbrev pub asked_with : Said → Option PasswordProfile → Asked
asked_with said generated = record {
  title = text_of option.Title said;
  user = text_of option.User said;
  url = text_of option.Url said;
  notes = text_of option.Notes said;
  password = is_given option.EntryPassword said;
  generated = generated;
  otp = is_given option.Otp said;
}

-- The values that an entry is to have, if what is said of its password fits together.
abbrev pub asked_of : Said → Option Asked
asked_of said = option_map (asked_with said) (generated_in said)

-- Something is said of a field of one's own, of a tag, or of when an entry expires.
abbrev pub has_further : Said → Bool
has_further said =
    is_given option.Set said || is_given option.Protect said || is_given option.Unset said
    || is_given option.Tag said || is_given option.Untag said || is_given option.Expires said

-- At least one value of an entry is given, or something is said of what else it says.
abbrev pub has_change : Said → Bool
has_change said =
    is_given option.Title said || is_given option.User said || is_given option.Url said
    || is_given option.Notes said || is_given option.EntryPassword said
    || is_given option.Generate said || is_given option.Otp said || has_further said

-- The format of a name.
abbrev pub format_named : List ℕ → Option ExportFormat
format_named name =
    if bytes_eq name (codes "xml") then Some format.Xml
    else (if bytes_eq name (codes "csv") then Some format.Csv
    else None)

-- The format that is asked for: the plain document where none is named.
abbrev pub format_asked : Option (List ℕ) → Option ExportFormat
format_asked None = Some format.Xml
format_asked (Some name) = format_named name

-- The format of this name in which something is imported.
abbrev pub import_format_named : List ℕ → Option ImportFormat
import_format_named name =
    if bytes_eq name (codes "xml") then Some Xml
    else (if bytes_eq name (codes "psafe3") then Some Psafe
    else (if bytes_eq name (codes "csv") then Some Csv
    else (if bytes_eq name (codes "bitwarden") then Some Bitwarden
    else None)))

-- The format of what is imported: the plain document where none is named.
abbrev pub import_format_asked : Option (List ℕ) → Option ImportFormat
import_format_asked None = Some Xml
import_format_asked (Some name) = import_format_named name

-- A file of this format has no password.
abbrev pub lacks_password : ImportFormat → Bool
lacks_password Xml = true
lacks_password Psafe = false
lacks_password Csv = true
lacks_password Bitwarden = true

-- How the source of an import is opened: by a password alone, if it has one.
abbrev pub access_source : Said → ImportFormat → Access
access_source said format = record {
  plain = lacks_password format;
  quiet = is_given option.Quiet said;
  key_file = None;
  no_password = false;
}

-- The listing of a file's group, if one is named.
abbrev pub list_of : Said → List ℕ → Option (List ℕ) → Command
list_of said file group =
    Ls (access_of said) file group (is_given option.Recursive said) (is_given option.Flat said)
    (is_given option.Ids said)

-- `ls DATABASE [GROUP]`
abbrev pub list_at : Said → List (List ℕ) → Option Command
list_at said (file ∷ []) = Some (list_of said file None)
list_at said (file ∷ group ∷ []) = Some (list_of said file (Some group))
list_at said positions = None

-- A one-time code is shown alone or beside fields that are named.
abbrev pub is_fit_show : Said → Bool
is_fit_show said = not (is_given option.Totp said
    && (is_given option.All said || is_given option.Attachments said))

-- The number of a version that a text is: one to six decimal digits.
abbrev pub version_numbered : List ℕ → Option ℕ
version_numbered text = number_of 6 text

-- The number of the version that is asked for: 0, that of the current one, where there is no text.
abbrev pub version_asked : Option (List ℕ) → Option ℕ
version_asked None = Some 0
version_asked (Some text) = version_numbered text

-- What is shown of a file's entry, of its version of this number.
abbrev pub show_of : Said → List ℕ → List ℕ → (at : ℕ) → Command
show_of said file entry at =
    Show (access_of said) file entry (is_given option.Clear said) (is_given option.All said)
    (is_given option.Attachments said) (texts_of option.Attribute said)
    (is_given option.Totp said) at

-- The same, if what is asked for is the number of a version.
abbrev pub show_by : Said → List ℕ → List ℕ → Option Command
show_by said file entry =
    option_map (show_of said file entry) (version_asked (text_of option.At said))

-- `show DATABASE ENTRY`
abbrev pub show_at : Said → List (List ℕ) → Option Command
show_at said (file ∷ entry ∷ []) = if is_fit_show said then show_by said file entry else None
show_at said positions = None

-- `history DATABASE ENTRY`
abbrev pub history_at : Said → List (List ℕ) → Option Command
history_at said (file ∷ entry ∷ []) = Some (History (access_of said) file entry)
history_at said positions = None

-- `search DATABASE TERM`
abbrev pub search_at : Said → List (List ℕ) → Option Command
search_at said (file ∷ term ∷ []) = Some (Search (access_of said) file term)
search_at said positions = None

-- `add DATABASE ENTRY`
abbrev pub add_at : Said → List (List ℕ) → Option Command
add_at said (file ∷ entry ∷ []) = option_map (Add (access_of said) file entry) (asked_of said)
add_at said positions = None

-- The change of a file's entry, if both parts of what is asked for fit together.
abbrev pub edit_with : Said → (file entry : List ℕ) → Option Asked → Option FurtherAsked
    → Option Command
edit_with said file entry None further = None
edit_with said file entry (Some asked) further =
    option_map (Edit (access_of said) file entry asked) further

-- The change of a file's entry.
abbrev pub edit_of : Said → List ℕ → List ℕ → Option Command
edit_of said file entry = edit_with said file entry (asked_of said) (further_of said)

-- A version of a file's entry becomes the current one: that of the number that a text is,
-- if no value is given too, and nothing is said of a generated password.
abbrev pub restore_of : Said → List ℕ → List ℕ → List ℕ → Option Command
restore_of said file entry text = if has_change said || has_profile_option said then None
    else option_map (Restore (access_of said) file entry) (version_numbered text)

-- A version of a file's entry becomes the current one where a text says which, or else the entry is
-- changed, if a value is given.
abbrev pub edit_by : Said → List ℕ → List ℕ → Option (List ℕ) → Option Command
edit_by said file entry (Some text) = restore_of said file entry text
edit_by said file entry None = if has_change said then edit_of said file entry else None

-- `edit DATABASE ENTRY`
abbrev pub edit_at : Said → List (List ℕ) → Option Command
edit_at said (file ∷ entry ∷ []) = edit_by said file entry (text_of option.Restore said)
edit_at said positions = None

-- An attachment of a file's entry is taken out: it is printed where `--stdout` is given, and else
-- there is a name for its new file.
abbrev pub export_attachment_at : Said → List (List ℕ) → Option Command
export_attachment_at said (file ∷ entry ∷ name ∷ []) = if is_given option.Stdout said
    then Some (ExportAttachment (access_of said) file entry name None) else None
export_attachment_at said (file ∷ entry ∷ name ∷ to ∷ []) = if is_given option.Stdout said
    then None else Some (ExportAttachment (access_of said) file entry name (Some to))
export_attachment_at said positions = None

-- `attachment-import DATABASE ENTRY NAME FILE`; the name is not empty.
abbrev pub import_attachment_at : Said → List (List ℕ) → Option Command
import_attachment_at said (file ∷ entry ∷ name ∷ source ∷ []) = if is_filled name
    then Some (ImportAttachment (access_of said) file entry name source
    (is_given option.Force said)) else None
import_attachment_at said positions = None

-- `attachment-rm DATABASE ENTRY NAME`
abbrev pub remove_attachment_at : Said → List (List ℕ) → Option Command
remove_attachment_at said (file ∷ entry ∷ name ∷ []) =
    Some (RemoveAttachment (access_of said) file entry name)
remove_attachment_at said positions = None

-- `mv DATABASE NODE GROUP`
abbrev pub move_at : Said → List (List ℕ) → Option Command
move_at said (file ∷ node ∷ group ∷ []) = Some (Move (access_of said) file node group)
move_at said positions = None

-- `rm DATABASE ENTRY`
abbrev pub remove_at : Said → List (List ℕ) → Option Command
remove_at said (file ∷ entry ∷ []) = Some (Remove (access_of said) file entry)
remove_at said positions = None

-- `mkdir DATABASE GROUP`
abbrev pub make_group_at : Said → List (List ℕ) → Option Command
make_group_at said (file ∷ group ∷ []) = Some (MakeGroup (access_of said) file group)
make_group_at said positions = None

-- `rmdir DATABASE GROUP`
abbrev pub remove_group_at : Said → List (List ℕ) → Option Command
remove_group_at said (file ∷ group ∷ []) = Some (RemoveGroup (access_of said) file group)
remove_group_at said positions = None

-- A number of sources is one that a merge may have: 1 to 16.
abbrev pub is_mergeable : ℕ → Bool
is_mergeable count = not (count == 0) && not (nat_lt 16 count)

-- The merge of sources into a file.
abbrev pub merge_of : Said → List ℕ → List (List ℕ) → Command
merge_of said file sources =
    Merge (access_of said) file sources (access_from said) (is_given option.SameCredentials said)
    (is_given option.DryRun said) (is_given option.Details said)

-- `merge TARGET SOURCE...`
abbrev pub merge_at : Said → List (List ℕ) → Option Command
merge_at said (file ∷ sources) =
    if is_mergeable (length sources) then Some (merge_of said file sources) else None
merge_at said positions = None

-- The import of a source in this format into a new file.
abbrev pub import_from : Said → List ℕ → List ℕ → ImportFormat → Command
import_from said source file format =
    Import (access_new said) format source (access_source said format) file

-- The same, if the format is known and what opens the new file fits it.
abbrev pub import_as : Said → List ℕ → List ℕ → Option ImportFormat → Option Command
import_as said source file (Some format) =
    if is_fit_new said then Some (import_from said source file format) else None
import_as said source file None = None

-- `import SOURCE DATABASE`
abbrev pub import_at : Said → List (List ℕ) → Option Command
import_at said (source ∷ file ∷ []) =
    import_as said source file (import_format_asked (text_of option.ImportFormat said))
import_at said positions = None

-- What a new database is to be fits together: a plain document has neither a key nor settings.
abbrev pub is_fit_create : Said → Bool
is_fit_create said = is_fit_new said && not (is_given option.Plain said
    && (is_given option.Cipher said || is_given option.Kdf said))

-- A new database in this file with these settings, if each of them is known.
abbrev pub create_with : Said → List ℕ → Option (Option Cipher) → Option (Option KdfAsked)
    → Option Command
create_with said file (Some cipher) (Some kdf) =
    Some (Create (access_new said) file (text_of option.DatabaseName said) cipher kdf)
create_with said file cipher kdf = None

-- `db-create DATABASE`
abbrev pub create_at : Said → List (List ℕ) → Option Command
create_at said (file ∷ []) =
    if is_fit_create said then create_with said file (cipher_in said) (kdf_in said) else None
create_at said positions = None

-- A database is written in a format, if that is known.
abbrev pub export_as : Said → List ℕ → Option ExportFormat → Option Command
export_as said file (Some known) = Some (Export (access_of said) known file)
export_as said file None = None

-- `export DATABASE`
abbrev pub export_at : Said → List (List ℕ) → Option Command
export_at said (file ∷ []) = export_as said file (format_asked (text_of option.Format said))
export_at said positions = None

-- What changes a file fits it, and there is a change.
abbrev pub is_fit_edit : Said → Bool
is_fit_edit said = has_file_change said && is_fit_change said

-- How a database is opened whose file is changed: it is no plain document.
abbrev pub access_sealed : Said → Access
access_sealed said = record (access_of said) { plain = false }

-- The change of the file of a database.
abbrev pub edit_file_with : Said → List ℕ → Option Command
edit_file_with said file = option_map (EditFile (access_sealed said) file) (change_in said)

-- `db-edit DATABASE`
abbrev pub edit_file_at : Said → List (List ℕ) → Option Command
edit_file_at said (file ∷ []) = if is_fit_edit said then edit_file_with said file else None
edit_file_at said positions = None

-- `db-info DATABASE`
abbrev pub info_at : Said → List (List ℕ) → Option Command
info_at said (file ∷ []) = Some (Info (access_of said) file)
info_at said positions = None

-- `generate` and `selftest` have no database, and `open` opens a session over one: none of them is one
-- of the commands that a call carries out over its database.
abbrev pub no_command_at : Said → List (List ℕ) → Option Command
no_command_at said positions = None

-- The command of this name with these positions, if it takes so many.
abbrev pub command_at : CommandName → Said → List (List ℕ) → Option Command
command_at name.Ls = list_at
command_at name.Show = show_at
command_at name.History = history_at
command_at name.Search = search_at
command_at name.Add = add_at
command_at name.Edit = edit_at
command_at name.Move = move_at
command_at name.Remove = remove_at
command_at name.MakeGroup = make_group_at
command_at name.RemoveGroup = remove_group_at
command_at name.Merge = merge_at
command_at name.Import = import_at
command_at name.Create = create_at
command_at name.Export = export_at
command_at name.EditFile = edit_file_at
command_at name.Info = info_at
command_at name.Generate = no_command_at
command_at name.SelfTest = no_command_at
command_at name.Open = no_command_at
command_at name.ExportAttachment = export_attachment_at
command_at name.ImportAttachment = import_attachment_at
command_at name.RemoveAttachment = remove_attachment_at

-- The command of this name whose other words say this.
abbrev pub command_saying : CommandName → Said → Option Command
command_saying command said =
    if is_whole said then command_at command said said.positions else None

-- The command of this name with these words after it.
abbrev pub command_by : List (List ℕ) → CommandName → Option Command
command_by words command =
    option_and_then (command_saying command) (with_words command words nothing_said)

-- The command that the words are, if they are one: its name, and then its options and its positions
-- in any order.
abbrev pub command_in : List (List ℕ) → Option Command
command_in [] = None
command_in (word ∷ words) = option_and_then (command_by words) (command_named word)

-- The command, or that the words are none.
abbrev pub or_wrong_words : Option Command → Result Command Refusal
or_wrong_words (Some command) = Ok command
or_wrong_words None = Err (refusal_of WrongWords (codes "words"))

-- The command that the words are.
abbrev pub command_of : List (List ℕ) → Result Command Refusal
command_of words = or_wrong_words (command_in words)
