-- The commands by their names, and the options that each of them takes.
use Rattle.std.specs.Prelude.{ℕ, Bool, true, false, ◌==◌, if◌then◌else◌, List, [], ◌∷◌, ◌++◌, codes, Option, None, Some}
use Rattle.std.specs.List.{find}
use Rattle.std.specs.Str.{bytes_eq}
use Rattle.cli_options.specs.declared.names.CommandName.{CommandName}
use Rattle.cli_options.specs.declared.names.CommandName.TheVariants as name
use Rattle.cli_options.specs.declared.forms.CommandOption.{CommandOption}
use Rattle.cli_options.specs.declared.forms.CommandOption.TheVariants.{Recursive, Flat, Quiet, Plain, NoPassword, KeyFile, Title, User, Url, Notes, EntryPassword, SameCredentials, DryRun, KeyFileFrom, NoPasswordFrom, Clear, All, Attachments, Format, Attribute, SetPassword, SetKeyFile, ImportFormat, Totp, Generate, Length, Lower, Upper, Numeric, Special, Exclude, Otp, Cipher, Kdf, Rounds, Memory, Lanes, UnsetPassword, UnsetKeyFile, FileVersion, DatabaseName, At, Restore, Details, Ids, Set, Protect, Unset, Tag, Untag, Expires, Stdout, Force}

-- ---- commands

-- The command of a name.
abbrev pub command_named : List ℕ → Option CommandName
command_named word =
    if bytes_eq word (codes "ls") then Some name.Ls
    else (if bytes_eq word (codes "show") then Some name.Show
    else (if bytes_eq word (codes "history") then Some name.History
    else (if bytes_eq word (codes "search") then Some name.Search
    else (if bytes_eq word (codes "add") then Some name.Add
    else (if bytes_eq word (codes "edit") then Some name.Edit
    else (if bytes_eq word (codes "mv") then Some name.Move
    else (if bytes_eq word (codes "rm") then Some name.Remove
    else (if bytes_eq word (codes "mkdir") then Some name.MakeGroup
    else (if bytes_eq word (codes "rmdir") then Some name.RemoveGroup
    else (if bytes_eq word (codes "merge") then Some name.Merge
    else (if bytes_eq word (codes "import") then Some name.Import
    else (if bytes_eq word (codes "db-create") then Some name.Create
    else (if bytes_eq word (codes "export") then Some name.Export
    else (if bytes_eq word (codes "db-edit") then Some name.EditFile
    else (if bytes_eq word (codes "db-info") then Some name.Info
    else (if bytes_eq word (codes "generate") then Some name.Generate
    else (if bytes_eq word (codes "selftest") then Some name.SelfTest
    else (if bytes_eq word (codes "open") then Some name.Open
    else (if bytes_eq word (codes "attachment-export") then Some name.ExportAttachment
    else (if bytes_eq word (codes "attachment-import") then Some name.ImportAttachment
    else (if bytes_eq word (codes "attachment-rm") then Some name.RemoveAttachment
    else None)))))))))))))))))))))

-- ---- how options are written

-- How an option is written: its name after `--`, its letter after `-` where it has one, whether it
-- has a value, and whether it may occur more than once.
pub record OptionForm : Type 0 where
  pub name : List ℕ
  pub letter : Option ℕ
  pub has_value : Bool
  pub is_repeatable : Bool

-- The form of an option that has no value.
abbrev pub flag : List ℕ → Option ℕ → OptionForm
flag name letter = record {
  name = name;
  letter = letter;
  has_value = false;
  is_repeatable = false;
}

-- The form of an option that has a value.
abbrev pub valued : List ℕ → Option ℕ → OptionForm
valued name letter = record {
  name = name;
  letter = letter;
  has_value = true;
  is_repeatable = false;
}

-- The form of an option that has a value and may occur more than once.
abbrev pub repeatable : List ℕ → Option ℕ → OptionForm
repeatable name letter = record {
  name = name;
  letter = letter;
  has_value = true;
  is_repeatable = true;
}

-- The letter that a text is.
abbrev pub the : List ℕ → Option ℕ
the [] = None
the (letter ∷ letters) = Some letter

-- How each option is written.
abbrev pub form_of : CommandOption → OptionForm
form_of Recursive = flag (codes "recursive") (the (codes "R"))
form_of Flat = flag (codes "flatten") (the (codes "f"))
form_of Quiet = flag (codes "quiet") (the (codes "q"))
form_of Plain = flag (codes "plain") None
form_of NoPassword = flag (codes "no-password") None
form_of KeyFile = valued (codes "key-file") (the (codes "k"))
form_of Title = valued (codes "title") (the (codes "t"))
form_of User = valued (codes "username") (the (codes "u"))
form_of Url = valued (codes "url") None
form_of Notes = valued (codes "notes") None
form_of EntryPassword = flag (codes "password-prompt") (the (codes "p"))
form_of SameCredentials = flag (codes "same-credentials") (the (codes "s"))
form_of DryRun = flag (codes "dry-run") (the (codes "d"))
form_of KeyFileFrom = valued (codes "key-file-from") None
form_of NoPasswordFrom = flag (codes "no-password-from") None
form_of Clear = flag (codes "show-protected") (the (codes "s"))
form_of All = flag (codes "all") None
form_of Attachments = flag (codes "show-attachments") None
form_of Format = valued (codes "format") (the (codes "f"))
form_of Attribute = repeatable (codes "attributes") (the (codes "a"))
form_of SetPassword = flag (codes "set-password") (the (codes "p"))
form_of SetKeyFile = valued (codes "set-key-file") None
form_of ImportFormat = valued (codes "format") None
form_of Totp = flag (codes "totp") (the (codes "t"))
form_of Generate = flag (codes "generate") (the (codes "g"))
form_of Length = valued (codes "length") (the (codes "L"))
form_of Lower = flag (codes "lower") (the (codes "l"))
form_of Upper = flag (codes "upper") (the (codes "U"))
form_of Numeric = flag (codes "numeric") (the (codes "n"))
form_of Special = flag (codes "special") (the (codes "s"))
form_of Exclude = valued (codes "exclude") (the (codes "x"))
form_of Otp = flag (codes "otp") None
form_of Cipher = valued (codes "cipher") None
form_of Kdf = valued (codes "kdf") None
form_of Rounds = valued (codes "rounds") None
form_of Memory = valued (codes "memory") None
form_of Lanes = valued (codes "lanes") None
form_of UnsetPassword = flag (codes "unset-password") None
form_of UnsetKeyFile = flag (codes "unset-key-file") None
form_of FileVersion = valued (codes "version") None
form_of DatabaseName = valued (codes "name") None
form_of At = valued (codes "at") None
form_of Restore = valued (codes "restore") None
form_of Details = flag (codes "details") None
form_of Ids = flag (codes "ids") None
form_of Set = repeatable (codes "set") None
form_of Protect = flag (codes "protect") None
form_of Unset = repeatable (codes "unset") None
form_of Tag = repeatable (codes "tag") None
form_of Untag = repeatable (codes "untag") None
form_of Expires = valued (codes "expires") None
form_of Stdout = flag (codes "stdout") None
form_of Force = flag (codes "force") (the (codes "f"))

-- Whether an option has a value; the others are flags.
abbrev pub has_value : CommandOption → Bool
has_value option = (form_of option).has_value

-- Whether an option may occur more than once.
abbrev pub is_repeatable : CommandOption → Bool
is_repeatable option = (form_of option).is_repeatable

-- The place of an option among all of them.
abbrev pub place_of : CommandOption → ℕ
place_of Recursive = 0
place_of Flat = 1
place_of Quiet = 2
place_of Plain = 3
place_of NoPassword = 4
place_of KeyFile = 5
place_of Title = 6
place_of User = 7
place_of Url = 8
place_of Notes = 9
place_of EntryPassword = 10
place_of SameCredentials = 11
place_of DryRun = 12
place_of KeyFileFrom = 13
place_of NoPasswordFrom = 14
place_of Clear = 15
place_of All = 16
place_of Attachments = 17
place_of Format = 18
place_of Attribute = 19
place_of SetPassword = 20
place_of SetKeyFile = 21
place_of ImportFormat = 22
place_of Totp = 23
place_of Generate = 24
place_of Length = 25
place_of Lower = 26
place_of Upper = 27
place_of Numeric = 28
place_of Special = 29
place_of Exclude = 30
place_of Otp = 31
place_of Cipher = 32
place_of Kdf = 33
place_of Rounds = 34
place_of Memory = 35
place_of Lanes = 36
place_of UnsetPassword = 37
place_of UnsetKeyFile = 38
place_of FileVersion = 39
place_of DatabaseName = 40
place_of At = 41
place_of Restore = 42
place_of Details = 43
place_of Ids = 44
place_of Set = 45
place_of Protect = 46
place_of Unset = 47
place_of Tag = 48
place_of Untag = 49
place_of Expires = 50
place_of Stdout = 51
place_of Force = 52

-- ---- which options each command takes

-- The options that a command takes beside those that others take too.
abbrev pub own_options : CommandName → List CommandOption
own_options name.Ls = Recursive ∷ Flat ∷ Ids ∷ []
own_options name.Show = Clear ∷ All ∷ Attachments ∷ Attribute ∷ Totp ∷ At ∷ []
own_options name.History = []
own_options name.Search = []
own_options name.Add = User ∷ Url ∷ Notes ∷ EntryPassword
    ∷ Generate ∷ Length ∷ Lower ∷ Upper ∷ Numeric ∷ Special ∷ Exclude ∷ []
own_options name.Edit = Title ∷ User ∷ Url ∷ Notes ∷ EntryPassword
    ∷ Generate ∷ Length ∷ Lower ∷ Upper ∷ Numeric ∷ Special ∷ Exclude ∷ Otp ∷ Restore
    ∷ Set ∷ Protect ∷ Unset ∷ Tag ∷ Untag ∷ Expires ∷ []
own_options name.Move = []
own_options name.Remove = []
own_options name.MakeGroup = []
own_options name.RemoveGroup = []
own_options name.Merge = SameCredentials ∷ DryRun ∷ Details ∷ KeyFileFrom ∷ NoPasswordFrom ∷ []
own_options name.Import = SetPassword ∷ SetKeyFile ∷ ImportFormat ∷ []
own_options name.Create = SetPassword ∷ SetKeyFile
    ∷ Cipher ∷ Kdf ∷ Rounds ∷ Memory ∷ Lanes ∷ DatabaseName ∷ []
own_options name.Export = Format ∷ []
own_options name.EditFile = SetPassword ∷ SetKeyFile ∷ UnsetPassword ∷ UnsetKeyFile
    ∷ Cipher ∷ Kdf ∷ Rounds ∷ Memory ∷ Lanes ∷ FileVersion ∷ []
own_options name.Info = []
own_options name.ExportAttachment = Stdout ∷ []
own_options name.ImportAttachment = Force ∷ []
own_options name.RemoveAttachment = []
own_options name.Generate = Length ∷ Lower ∷ Upper ∷ Numeric ∷ Special ∷ Exclude ∷ []
own_options name.SelfTest = []
own_options name.Open = []

-- The options that a command shares with others: what has a database takes that of what is printed,
-- and all but `db-edit`, which gives its file a key, that of plain documents; and all but `import`
-- and `db-create`, which make their database, those of what opens one.
abbrev pub shared_options : CommandName → List CommandOption
shared_options name.Import = Quiet ∷ Plain ∷ []
shared_options name.Create = Quiet ∷ Plain ∷ []
shared_options name.EditFile = Quiet ∷ NoPassword ∷ KeyFile ∷ []
shared_options name.Generate = []
shared_options name.SelfTest = []
shared_options command = Quiet ∷ Plain ∷ NoPassword ∷ KeyFile ∷ []

-- All options that a command takes.
abbrev pub options_of : CommandName → List CommandOption
options_of command = own_options command ++ shared_options command

-- This letter is that of a form.
abbrev pub is_letter : Option ℕ → ℕ → Bool
is_letter None letter = false
is_letter (Some own) letter = own == letter

-- An option has this letter.
abbrev pub has_letter : CommandOption → ℕ → Bool
has_letter option letter = is_letter (form_of option).letter letter

-- The first of these options that has this letter.
abbrev pub with_letter : ℕ → List CommandOption → Option CommandOption
with_letter letter = find (λ option. has_letter option letter)

-- The first of these options that has this name.
abbrev pub with_name : List ℕ → List CommandOption → Option CommandOption
with_name name = find (λ option. bytes_eq (form_of option).name name)

-- The option of a command that has this letter.
abbrev pub letter_option : CommandName → ℕ → Option CommandOption
letter_option command letter = with_letter letter (options_of command)

-- The option of a command that has this long name.
abbrev pub name_option : CommandName → List ℕ → Option CommandOption
name_option command name = with_name name (options_of command)
