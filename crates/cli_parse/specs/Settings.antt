-- What is said of the settings of a file: its cipher, how its key is derived, its version, and what
-- becomes of the parts of its key.
use Rattle.std.specs.Prelude.{ℕ, Bool, true, false, not, ◌&&◌, ◌||◌, if◌then◌else◌, List, codes, Option, None, Some, option_and_then, option_map}
use Rattle.std.specs.Str.{bytes_eq}
use Rattle.cli_options.specs.declared.forms.CommandOption.TheVariants as option
use Rattle.cli_options.specs.Numbers.{number_of}
use Rattle.cli_options.specs.Said.{Said, is_given, text_of}
use Rattle.cli_needs.specs.declared.command.FileChange.{FileChange}
use Rattle.cli_needs.specs.declared.command.KdfAsked.{KdfAsked}
use Rattle.cli_needs.specs.declared.command.KdfKind.{KdfKind}
use Rattle.cli_needs.specs.declared.command.KdfKind.TheVariants.{Aes, Argon2d, Argon2id}
use Rattle.cli_needs.specs.declared.command.KeyFileChange.{KeyFileChange}
use Rattle.cli_needs.specs.declared.command.KeyFileChange.TheVariants as key_file
use Rattle.cli_needs.specs.declared.command.PasswordChange.{PasswordChange}
use Rattle.cli_needs.specs.declared.command.PasswordChange.TheVariants as password
use Rattle.cli_needs.specs.KdbxFrame.declared.settings.Cipher.{Cipher}
use Rattle.cli_needs.specs.KdbxFrame.declared.settings.Cipher.TheVariants as cipher
use Rattle.vault_model.specs.declared.forms.FileVersion.{FileVersion}
use Rattle.vault_model.specs.declared.forms.FileVersion.TheVariants.{V31, V40, V41}

-- What the text of an option names, where the option is given; a text that names nothing is none.
abbrev pub if_named : {A : Type 0} → (List ℕ → Option A) → Option (List ℕ) → Option (Option A)
if_named named None = Some None
if_named named (Some text) = option_map Some (named text)

-- ---- ciphers and versions

-- The cipher of a name.
abbrev pub cipher_named : List ℕ → Option Cipher
cipher_named name =
    if bytes_eq name (codes "aes") then Some cipher.Aes
    else (if bytes_eq name (codes "twofish") then Some cipher.Twofish
    else (if bytes_eq name (codes "chacha20") then Some cipher.ChaCha
    else None))

-- The cipher that is asked for, where one is.
abbrev pub cipher_in : Said → Option (Option Cipher)
cipher_in said = if_named cipher_named (text_of option.Cipher said)

-- The version of the format of a name.
abbrev pub version_named : List ℕ → Option FileVersion
version_named name =
    if bytes_eq name (codes "3.1") then Some V31
    else (if bytes_eq name (codes "4.0") then Some V40
    else (if bytes_eq name (codes "4.1") then Some V41
    else None))

-- The version that is asked for, where one is.
abbrev pub version_in : Said → Option (Option FileVersion)
version_in said = if_named version_named (text_of option.FileVersion said)

-- ---- key derivations

-- The kind of a key derivation of a name.
abbrev pub kdf_named : List ℕ → Option KdfKind
kdf_named name =
    if bytes_eq name (codes "aes") then Some Aes
    else (if bytes_eq name (codes "argon2d") then Some Argon2d
    else (if bytes_eq name (codes "argon2id") then Some Argon2id
    else None))

-- A kind is one of Argon2, which has memory and lanes.
abbrev pub is_argon : KdfKind → Bool
is_argon Aes = false
is_argon Argon2d = true
is_argon Argon2id = true

-- The rounds of AES or the passes of Argon2 where none are named.
abbrev pub usual_rounds : KdfKind → ℕ
usual_rounds kind = if is_argon kind then 10 else 100000

-- The cost that a text of one to ten digits is, or the usual one where there is no text.
abbrev pub cost_or : (usual : ℕ) → Option (List ℕ) → Option ℕ
cost_or usual None = Some usual
cost_or usual (Some text) = number_of 10 text

-- A derivation of this kind with these costs, if each of them is one.
abbrev pub kdf_with : KdfKind → (rounds kib lanes : Option ℕ) → Option KdfAsked
kdf_with kind (Some rounds) (Some kib) (Some lanes) =
    Some (record { kind = kind; rounds = rounds; kib = kib; lanes = lanes })
kdf_with kind rounds kib lanes = None

-- A cost is named that only Argon2 has.
abbrev pub has_argon_cost : Said → Bool
has_argon_cost said = is_given option.Memory said || is_given option.Lanes said

-- The derivation of this kind that is asked for, with its costs or else the usual ones, if it has
-- what is named.
abbrev pub kdf_of : Said → KdfKind → Option KdfAsked
kdf_of said kind = if has_argon_cost said && not (is_argon kind) then None
    else kdf_with kind (cost_or (usual_rounds kind) (text_of option.Rounds said))
    (cost_or 65536 (text_of option.Memory said)) (cost_or 2 (text_of option.Lanes said))

-- No derivation is named, and so none of its costs.
abbrev pub no_kdf : Said → Option (Option KdfAsked)
no_kdf said = if is_given option.Rounds said || has_argon_cost said then None else Some None

-- The derivation of a name that is asked for.
abbrev pub kdf_by : Said → List ℕ → Option KdfAsked
kdf_by said name = option_and_then (kdf_of said) (kdf_named name)

-- The derivation that is asked for, where one is.
abbrev pub kdf_asked : Said → Option (List ℕ) → Option (Option KdfAsked)
kdf_asked said None = no_kdf said
kdf_asked said (Some name) = option_map Some (kdf_by said name)

-- The derivation that is asked for, where one is.
abbrev pub kdf_in : Said → Option (Option KdfAsked)
kdf_in said = kdf_asked said (text_of option.Kdf said)

-- ---- changes of a file

-- What becomes of the password.
abbrev pub password_change : Said → PasswordChange
password_change said =
    if is_given option.SetPassword said then password.Set
    else (if is_given option.UnsetPassword said then password.Unset
    else password.Keep)

-- What becomes of the key file: the one that is set, or else none where that is asked for.
abbrev pub key_file_with : (set : Option (List ℕ)) → (unset : Bool) → KeyFileChange
key_file_with (Some name) unset = key_file.Set name
key_file_with None true = key_file.Unset
key_file_with None false = key_file.Keep

-- What becomes of the key file.
abbrev pub key_file_change : Said → KeyFileChange
key_file_change said =
    key_file_with (text_of option.SetKeyFile said) (is_given option.UnsetKeyFile said)

-- A part of the key is set or unset, or a setting is named.
abbrev pub has_file_change : Said → Bool
has_file_change said =
    is_given option.SetPassword said || is_given option.UnsetPassword said
    || is_given option.SetKeyFile said || is_given option.UnsetKeyFile said
    || is_given option.Cipher said || is_given option.Kdf said || is_given option.FileVersion said

-- The change of a file to these settings, if each of them is known.
abbrev pub change_with : Said → Option (Option Cipher) → Option (Option KdfAsked)
    → Option (Option FileVersion) → Option FileChange
change_with said (Some cipher) (Some kdf) (Some version) = Some (record {
  password = password_change said;
  key_file = key_file_change said;
  cipher = cipher;
  kdf = kdf;
  version = version;
})
change_with said cipher kdf version = None

-- The change of a file that is asked for.
abbrev pub change_in : Said → Option FileChange
change_in said = change_with said (cipher_in said) (kdf_in said) (version_in said)
