-- Words of calls, and which commands they are.
use Rattle.std.proofs.Common.{◌≡◌, refl, [], ◌∷◌, codes, true, false, Some, None}
use Rattle.std.specs.Str.{chars, trim_end, trim_start}
use Rattle.cli_needs.specs.declared.command.Access.{Access}
use Rattle.cli_needs.specs.declared.command.Asked.{Asked}
use Rattle.cli_needs.specs.declared.command.FurtherAsked.{FurtherAsked}
use Rattle.tree_core.specs.declared.values.Expiry.TheVariants.{At, Never}
use Rattle.doc_forms.specs.Values.{iso_time}
use Rattle.jiff_core.specs.Calendar.{day_count, days_of_months, days_of_years}
use Rattle.cli_needs.specs.declared.command.Command.TheVariants.{Ls, Show, History, Edit, Restore, ExportAttachment, ImportAttachment, RemoveAttachment, Merge, Import, Create, Export, EditFile}
use Rattle.cli_needs.specs.declared.command.KdfKind.TheVariants as kdf
use Rattle.cli_needs.specs.declared.command.KeyFileChange.TheVariants as key_file
use Rattle.cli_needs.specs.declared.command.PasswordChange.TheVariants as password
use Rattle.cli_needs.specs.KdbxFrame.declared.settings.Cipher.TheVariants as cipher
use Rattle.vault_model.specs.declared.forms.FileVersion.TheVariants.{V41}
use Rattle.cli_needs.specs.declared.command.ExportFormat.TheVariants.{Csv}
use Rattle.cli_needs.specs.declared.command.ImportFormat.TheVariants as import_format
use Rattle.cli_parse.specs.Words.{command_in}

-- A database is opened by its password alone.
abbrev by_password : Access
by_password = record { plain = false; quiet = false; key_file = None; no_password = false }

-- No value of an entry is given.
abbrev nothing_asked : Asked
nothing_asked = record {
  title = None;
  user = None;
  url = None;
  notes = None;
  password = false;
  generated = None;
  otp = false;
}

-- And nothing else is said of it.
abbrev nothing_further : FurtherAsked
nothing_further = record {
  set = [];
  protect = false;
  unset = [];
  tags = [];
  untags = [];
  expiry = None;
}

-- Names of fields are kept in their order, and `-s` of `show` is a flag of its own.
fields_in_order : command_in (codes "show" ∷ codes "-s" ∷ codes "-a" ∷ codes "UserName" ∷ codes "-a=Pass" ∷ codes "--all" ∷ codes "F" ∷ codes "E" ∷ [])
    ≡ Some (Show by_password (codes "F") (codes "E") true true false (codes "UserName" ∷ codes "Pass" ∷ []) false 0)
fields_in_order = refl

joined_name : command_in (codes "show" ∷ codes "-aTitle" ∷ codes "F" ∷ codes "E" ∷ [])
    ≡ Some (Show by_password (codes "F") (codes "E") false false false (codes "Title" ∷ []) false 0)
joined_name = refl

-- `-f` of `export` has a value, and `-f` of `ls` has none.
format_of_table : command_in (codes "export" ∷ codes "-f" ∷ codes "csv" ∷ codes "F" ∷ []) ≡ Some (Export by_password Csv (codes "F"))
format_of_table = refl

unknown_format : command_in (codes "export" ∷ codes "-f" ∷ codes "yaml" ∷ codes "F" ∷ []) ≡ None
unknown_format = refl

flat_listing : command_in (codes "ls" ∷ codes "-f" ∷ codes "F" ∷ []) ≡ Some (Ls by_password (codes "F") None false true false)
flat_listing = refl

-- Another option occurs once.
plain_twice : command_in (codes "ls" ∷ codes "--plain" ∷ codes "--plain" ∷ codes "F" ∷ []) ≡ None
plain_twice = refl

-- `-s` of `merge` is another flag than that of `show`.
same_credentials : command_in (codes "merge" ∷ codes "-s" ∷ codes "F" ∷ codes "G" ∷ [])
    ≡ Some (Merge by_password (codes "F") (codes "G" ∷ []) by_password true false false)
same_credentials = refl

-- A source in a format of its own; the new database has a password, or a key file, or none of them where it is a plain document.
set_password : command_in (codes "import" ∷ codes "--format" ∷ codes "psafe3" ∷ codes "-p" ∷ codes "S" ∷ codes "F" ∷ [])
    ≡ Some (Import by_password import_format.Psafe (codes "S") by_password (codes "F"))
set_password = refl

-- An export of Bitwarden is opened by no password.
source_of_bitwarden : command_in (codes "import" ∷ codes "--format=bitwarden" ∷ codes "-p" ∷ codes "S" ∷ codes "F" ∷ [])
    ≡ Some (Import by_password import_format.Bitwarden (codes "S") (record by_password { plain = true }) (codes "F"))
source_of_bitwarden = refl

no_credential : command_in (codes "import" ∷ codes "S" ∷ codes "F" ∷ []) ≡ None
no_credential = refl

plain_with_credential : command_in (codes "import" ∷ codes "--plain" ∷ codes "-p" ∷ codes "S" ∷ codes "F" ∷ []) ≡ None
plain_with_credential = refl

key_file_of_others : command_in (codes "import" ∷ codes "-p" ∷ codes "-k" ∷ codes "K" ∷ codes "S" ∷ codes "F" ∷ []) ≡ None
key_file_of_others = refl

format_without_letter : command_in (codes "import" ∷ codes "-p" ∷ codes "-f" ∷ codes "csv" ∷ codes "S" ∷ codes "F" ∷ []) ≡ None
format_without_letter = refl

-- A one-time code beside fields that are named, and not beside all fields.
code_shown : command_in (codes "show" ∷ codes "-t" ∷ codes "-a" ∷ codes "UserName" ∷ codes "F" ∷ codes "E" ∷ [])
    ≡ Some (Show by_password (codes "F") (codes "E") false false false (codes "UserName" ∷ []) true 0)
code_shown = refl

code_and_all : command_in (codes "show" ∷ codes "-t" ∷ codes "--all" ∷ codes "F" ∷ codes "E" ∷ []) ≡ None
code_and_all = refl

-- The version of a number is shown, of one to six digits; 0 is the current one.
version_shown : command_in (codes "show" ∷ codes "--at" ∷ codes "007" ∷ codes "-s" ∷ codes "F" ∷ codes "E" ∷ [])
    ≡ Some (Show by_password (codes "F") (codes "E") true false false [] false 7)
version_shown = refl

seven_digits : command_in (codes "show" ∷ codes "--at=0000001" ∷ codes "F" ∷ codes "E" ∷ []) ≡ None
seven_digits = refl

no_digit : command_in (codes "show" ∷ codes "--at=" ∷ codes "F" ∷ codes "E" ∷ []) ≡ None
no_digit = refl

version_twice : command_in (codes "show" ∷ codes "--at=1" ∷ codes "--at=1" ∷ codes "F" ∷ codes "E" ∷ []) ≡ None
version_twice = refl

versions_listed : command_in (codes "history" ∷ codes "F" ∷ codes "E" ∷ []) ≡ Some (History by_password (codes "F") (codes "E"))
versions_listed = refl

version_of_history : command_in (codes "history" ∷ codes "--at=1" ∷ codes "F" ∷ codes "E" ∷ []) ≡ None
version_of_history = refl

-- A version is restored alone.
version_restored : command_in (codes "edit" ∷ codes "--restore=3" ∷ codes "F" ∷ codes "E" ∷ []) ≡ Some (Restore by_password (codes "F") (codes "E") 3)
version_restored = refl

restored_and_titled : command_in (codes "edit" ∷ codes "--restore=3" ∷ codes "-t" ∷ codes "T" ∷ codes "F" ∷ codes "E" ∷ []) ≡ None
restored_and_titled = refl

restored_and_generated : command_in (codes "edit" ∷ codes "--restore=3" ∷ codes "-g" ∷ codes "F" ∷ codes "E" ∷ []) ≡ None
restored_and_generated = refl

restored_with_length : command_in (codes "edit" ∷ codes "--restore=3" ∷ codes "-L" ∷ codes "8" ∷ codes "F" ∷ codes "E" ∷ []) ≡ None
restored_with_length = refl

-- What is listed has its ids, and a merge its details.
ids_listed : command_in (codes "ls" ∷ codes "--ids" ∷ codes "F" ∷ []) ≡ Some (Ls by_password (codes "F") None false false true)
ids_listed = refl

merged_in_detail : command_in (codes "merge" ∷ codes "-d" ∷ codes "--details" ∷ codes "F" ∷ codes "G" ∷ [])
    ≡ Some (Merge by_password (codes "F") (codes "G" ∷ []) by_password false true true)
merged_in_detail = refl

-- A password is generated, or is a line, and its options are said only where it is generated.
generated_and_typed : command_in (codes "add" ∷ codes "-g" ∷ codes "-p" ∷ codes "F" ∷ codes "E" ∷ []) ≡ None
generated_and_typed = refl

length_alone : command_in (codes "edit" ∷ codes "-L" ∷ codes "8" ∷ codes "-p" ∷ codes "F" ∷ codes "E" ∷ []) ≡ None
length_alone = refl

code_given : command_in (codes "edit" ∷ codes "--otp" ∷ codes "-gn" ∷ codes "F" ∷ codes "E" ∷ [])
    ≡ Some (Edit by_password (codes "F") (codes "E") (record {
      title = None;
      user = None;
      url = None;
      notes = None;
      password = false;
      generated = Some (record { length = 32; alphabet = codes "0123456789" });
      otp = true;
    }) nothing_further)
code_given = refl

-- Fields, tags and when an entry expires, each kept in its order.
further_given : command_in (codes "edit" ∷ codes "--set" ∷ codes "Pin" ∷ codes "--tag=work" ∷ codes "--protect" ∷ codes "--unset=Old"
    ∷ codes "--set" ∷ codes "Room" ∷ codes "--untag" ∷ codes "home" ∷ codes "--expires=never" ∷ codes "F" ∷ codes "E" ∷ [])
    ≡ Some (Edit by_password (codes "F") (codes "E") nothing_asked (record {
      set = codes "Pin" ∷ codes "Room" ∷ [];
      protect = true;
      unset = codes "Old" ∷ [];
      tags = codes "work" ∷ [];
      untags = codes "home" ∷ [];
      expiry = Some Never;
    }))
unfolding chars trim_start trim_end lib.Utf8.encode
further_given = refl

expires_at : command_in (codes "edit" ∷ codes "--expires=2030-01-02T03:04:05Z" ∷ codes "F" ∷ codes "E" ∷ [])
    ≡ Some (Edit by_password (codes "F") (codes "E") nothing_asked (record nothing_further { expiry = Some (At 64029150245) }))
unfolding iso_time day_count days_of_years days_of_months
expires_at = refl

no_time : command_in (codes "edit" ∷ codes "--expires=tomorrow" ∷ codes "F" ∷ codes "E" ∷ []) ≡ None
unfolding iso_time
no_time = refl

standard_field : command_in (codes "edit" ∷ codes "--set=Password" ∷ codes "F" ∷ codes "E" ∷ []) ≡ None
standard_field = refl

two_tags : command_in (codes "edit" ∷ codes "--tag=a;b" ∷ codes "F" ∷ codes "E" ∷ []) ≡ None
unfolding chars trim_start trim_end lib.Utf8.encode
two_tags = refl

protected_alone : command_in (codes "edit" ∷ codes "--protect" ∷ codes "F" ∷ codes "E" ∷ []) ≡ None
protected_alone = refl

-- An attachment is printed, or taken into a file, or put in, where `-f` replaces another one, or taken away.
attachment_printed : command_in (codes "attachment-export" ∷ codes "--stdout" ∷ codes "F" ∷ codes "E" ∷ codes "A" ∷ [])
    ≡ Some (ExportAttachment by_password (codes "F") (codes "E") (codes "A") None)
attachment_printed = refl

attachment_taken : command_in (codes "attachment-export" ∷ codes "F" ∷ codes "E" ∷ codes "A" ∷ codes "G" ∷ [])
    ≡ Some (ExportAttachment by_password (codes "F") (codes "E") (codes "A") (Some (codes "G")))
attachment_taken = refl

printed_and_taken : command_in (codes "attachment-export" ∷ codes "--stdout" ∷ codes "F" ∷ codes "E" ∷ codes "A" ∷ codes "G" ∷ []) ≡ None
printed_and_taken = refl

attachment_put : command_in (codes "attachment-import" ∷ codes "-f" ∷ codes "F" ∷ codes "E" ∷ codes "A" ∷ codes "S" ∷ [])
    ≡ Some (ImportAttachment by_password (codes "F") (codes "E") (codes "A") (codes "S") true)
attachment_put = refl

attachment_unnamed : command_in (codes "attachment-import" ∷ codes "F" ∷ codes "E" ∷ codes "" ∷ codes "S" ∷ []) ≡ None
attachment_unnamed = refl

attachment_removed : command_in (codes "attachment-rm" ∷ codes "F" ∷ codes "E" ∷ codes "A" ∷ [])
    ≡ Some (RemoveAttachment by_password (codes "F") (codes "E") (codes "A"))
attachment_removed = refl

-- Costs are read as they are, and those that are not named are the usual ones.
many_rounds : command_in (codes "db-edit" ∷ codes "--kdf" ∷ codes "aes" ∷ codes "--rounds" ∷ codes "4294967297" ∷ codes "D" ∷ [])
    ≡ Some (EditFile by_password (codes "D") (record {
      password = password.Keep;
      key_file = key_file.Keep;
      cipher = None;
      kdf = Some (record { kind = kdf.Aes; rounds = 4294967297; kib = 65536; lanes = 2 });
      version = None;
    }))
many_rounds = refl

usual_costs : command_in (codes "db-create" ∷ codes "-p" ∷ codes "--kdf=argon2id" ∷ codes "--memory" ∷ codes "0000001024" ∷ codes "--name=Home" ∷ codes "D" ∷ [])
    ≡ Some (Create by_password (codes "D") (Some (codes "Home")) None
    (Some (record { kind = kdf.Argon2id; rounds = 10; kib = 1024; lanes = 2 })))
usual_costs = refl

eleven_digits : command_in (codes "db-edit" ∷ codes "--kdf" ∷ codes "aes" ∷ codes "--rounds" ∷ codes "00000000001" ∷ codes "D" ∷ []) ≡ None
eleven_digits = refl

memory_of_aes : command_in (codes "db-edit" ∷ codes "--kdf" ∷ codes "aes" ∷ codes "--memory" ∷ codes "1" ∷ codes "D" ∷ []) ≡ None
memory_of_aes = refl

rounds_alone : command_in (codes "db-edit" ∷ codes "--rounds" ∷ codes "1" ∷ codes "D" ∷ []) ≡ None
rounds_alone = refl

-- Parts of a key are set or unset, and one of them stays.
other_key : command_in (codes "db-edit" ∷ codes "-p" ∷ codes "--unset-key-file" ∷ codes "--version=4.1" ∷ codes "--cipher" ∷ codes "twofish" ∷ codes "D" ∷ [])
    ≡ Some (EditFile by_password (codes "D") (record {
      password = password.Set;
      key_file = key_file.Unset;
      cipher = Some cipher.Twofish;
      kdf = None;
      version = Some V41;
    }))
other_key = refl

set_and_unset : command_in (codes "db-edit" ∷ codes "-p" ∷ codes "--unset-password" ∷ codes "D" ∷ []) ≡ None
set_and_unset = refl

no_part_left : command_in (codes "db-edit" ∷ codes "--unset-password" ∷ codes "D" ∷ []) ≡ None
no_part_left = refl

both_unset : command_in (codes "db-edit" ∷ codes "-k" ∷ codes "K" ∷ codes "--unset-password" ∷ codes "--unset-key-file" ∷ codes "D" ∷ []) ≡ None
both_unset = refl

nothing_changed : command_in (codes "db-edit" ∷ codes "D" ∷ []) ≡ None
nothing_changed = refl

plain_changed : command_in (codes "db-edit" ∷ codes "--plain" ∷ codes "-p" ∷ codes "D" ∷ []) ≡ None
plain_changed = refl

plain_with_cipher : command_in (codes "db-create" ∷ codes "--plain" ∷ codes "--cipher" ∷ codes "aes" ∷ codes "D" ∷ []) ≡ None
plain_with_cipher = refl

created_without_key : command_in (codes "db-create" ∷ codes "D" ∷ []) ≡ None
created_without_key = refl
