-- What is wrong in what is said of the key and the settings of a file.
use Rattle.std.specs.Prelude.{ℕ, not, ◌&&◌, ◌||◌, if◌then◌else◌, is_some, List, [], ◌∷◌, Option, None, Some}
use Rattle.std.specs.Option.{option_map_or, option_or}
use Rattle.cli_options.specs.declared.names.CommandName.{CommandName}
use Rattle.cli_options.specs.declared.names.CommandName.TheVariants as name
use Rattle.cli_options.specs.declared.forms.CommandOption.{CommandOption}
use Rattle.cli_options.specs.declared.forms.CommandOption.TheVariants as option
use Rattle.cli_options.specs.Credentials.{has_part}
use Rattle.cli_options.specs.Numbers.{number_of}
use Rattle.cli_options.specs.Said.{Said, is_given, text_of}
use Rattle.cli_needs.specs.declared.command.KdfKind.{KdfKind}
use Rattle.cli_parse.specs.Settings.{cipher_named, has_file_change, is_argon, kdf_named, version_named}
use Rattle.cli_causes.specs.declared.cause.Cause.{Cause}
use Rattle.cli_causes.specs.declared.cause.Cause.TheVariants.{KeyFileChangesNothing, NeedsArgon, NeedsKdf, NoFileChange, NoKeyLeft, NoNewKey, NotTogether, NotWithPlain, UnknownCipher, UnknownCost, UnknownKdf, UnknownVersion}
use Rattle.cli_causes.specs.First.{first_of}

-- ---- settings

-- A cipher that is unknown, if one is named.
abbrev pub cipher_cause : Option (List ℕ) → Option Cause
cipher_cause None = None
cipher_cause (Some name) =
    if is_some (cipher_named name) then None else Some (UnknownCipher name)

-- A version that is unknown, if one is named.
abbrev pub version_cause : Option (List ℕ) → Option Cause
version_cause None = None
version_cause (Some name) =
    if is_some (version_named name) then None else Some (UnknownVersion name)

-- A cost that is no number of one to ten digits, if it is named.
abbrev pub cost_cause : CommandOption → Option (List ℕ) → Option Cause
cost_cause option None = None
cost_cause option (Some text) =
    if is_some (number_of 10 text) then None else Some (UnknownCost option text)

-- The first cost that is no such number.
abbrev pub costs_cause : Said → Option Cause
costs_cause said = option_or (cost_cause option.Rounds (text_of option.Rounds said))
    (option_or (cost_cause option.Memory (text_of option.Memory said))
    (cost_cause option.Lanes (text_of option.Lanes said)))

-- A cost that only Argon2 has.
abbrev pub argon_cause : Said → Option Cause
argon_cause said = first_of (
    (is_given option.Memory said, NeedsArgon option.Memory)
    ∷ (is_given option.Lanes said, NeedsArgon option.Lanes) ∷ [])

-- A cost that a derivation of this kind does not have, or that is no number.
abbrev pub kind_cause : Said → KdfKind → Option Cause
kind_cause said kind =
    if is_argon kind then costs_cause said else option_or (argon_cause said) (costs_cause said)

-- A cost, where no derivation is named.
abbrev pub no_kdf_cause : Said → Option Cause
no_kdf_cause said = first_of (
    (is_given option.Rounds said, NeedsKdf option.Rounds)
    ∷ (is_given option.Memory said, NeedsKdf option.Memory)
    ∷ (is_given option.Lanes said, NeedsKdf option.Lanes) ∷ [])

-- A derivation that is unknown, or a cost that does not fit the one that is named.
abbrev pub kdf_cause : Said → Option (List ℕ) → Option Cause
kdf_cause said None = no_kdf_cause said
kdf_cause said (Some name) =
    option_map_or (kind_cause said) (kdf_named name) (Some (UnknownKdf name))

-- A cipher or a derivation that is unknown, or a cost that does not fit.
abbrev pub settings_cause : Said → Option Cause
settings_cause said = option_or (cipher_cause (text_of option.Cipher said))
    (kdf_cause said (text_of option.Kdf said))

-- ---- new files

-- What opens the new database of this command does not fit it.
abbrev pub new_key_cause : CommandName → Said → Option Cause
new_key_cause command said = if is_given option.Plain said
    then first_of ((is_given option.SetPassword said, NotWithPlain option.SetPassword)
    ∷ (is_given option.SetKeyFile said, NotWithPlain option.SetKeyFile) ∷ [])
    else first_of ((
      not (is_given option.SetPassword said || is_given option.SetKeyFile said),
      NoNewKey command,
    ) ∷ [])

-- A new plain document is given a setting.
abbrev pub plain_settings_cause : Said → Option Cause
plain_settings_cause said = first_of ((
  is_given option.Plain said && is_given option.Cipher said,
  NotTogether option.Cipher option.Plain,
)
    ∷ (
      is_given option.Plain said && is_given option.Kdf said,
      NotTogether option.Kdf option.Plain,
    ) ∷ [])

-- What is said of a database that is created does not fit together.
abbrev pub create_cause : Said → Option Cause
create_cause said = option_or (new_key_cause name.Create said)
    (option_or (plain_settings_cause said) (settings_cause said))

-- ---- changed files

-- A part of the key is both set and unset, or none is left.
abbrev pub key_change_cause : Said → Option Cause
key_change_cause said = first_of ((
  is_given option.SetPassword said && is_given option.UnsetPassword said,
  NotTogether option.SetPassword option.UnsetPassword,
)
    ∷ (
      is_given option.SetKeyFile said && is_given option.UnsetKeyFile said,
      NotTogether option.SetKeyFile option.UnsetKeyFile,
    )
    ∷ (
      not (has_part (is_given option.SetPassword said) (is_given option.UnsetPassword said)
          (not (is_given option.NoPassword said))
          || has_part (is_given option.SetKeyFile said) (is_given option.UnsetKeyFile said)
          (is_given option.KeyFile said)),
      NoKeyLeft,
    ) ∷ [])

-- What is said where nothing is given that changes a file: a key file only opens it.
abbrev pub no_change_cause : Said → Cause
no_change_cause said =
    if is_given option.KeyFile said then KeyFileChangesNothing else NoFileChange

-- Nothing is given that changes a file.
abbrev pub file_change_cause : Said → Option Cause
file_change_cause said = if has_file_change said then None else Some (no_change_cause said)

-- What is said of a file that is changed does not fit together.
abbrev pub edit_file_cause : Said → Option Cause
edit_file_cause said = option_or (key_change_cause said)
    (option_or (settings_cause said)
    (option_or (version_cause (text_of option.FileVersion said)) (file_change_cause said)))
