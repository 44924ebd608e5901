-- The database whose file is changed: its key, and how it is sealed.
use Rattle.std.specs.Prelude.{ℕ, List, Option, None, Some, option_map, Result, Ok}
use Rattle.outside_core.specs.Files.{FileMap}
use Rattle.outside_core.specs.Results.{◌>>=◌}
use Rattle.key_core.specs.Keys.{composite_key}
use Rattle.kdbx_settings.specs.declared.changing.SettingsChange.{SettingsChange}
use Rattle.cli_messages.specs.declared.answers.Refusal.{Refusal}
use Rattle.cli_needs.specs.Needs.{Needs}
use Rattle.cli_needs.specs.declared.command.FileChange.{FileChange}
use Rattle.cli_needs.specs.declared.command.KeyFileChange.{KeyFileChange}
use Rattle.cli_needs.specs.declared.command.KeyFileChange.TheVariants as key_file
use Rattle.cli_needs.specs.declared.command.PasswordChange.{PasswordChange}
use Rattle.cli_needs.specs.declared.command.PasswordChange.TheVariants as password
use Rattle.cli_lines.specs.Lines.{Lines}
use Rattle.cli_databases.specs.CliFiles.Files.{Opened, key_of}
use Rattle.cli_databases.specs.Databases.{sealed_in}
use Rattle.cli_resealing.specs.Asked.{asked_settings, with_resealed}

-- The password after a change: the new line, or none, or the old one.
abbrev pub password_after : PasswordChange → (old new : Option (List ℕ)) → Option (List ℕ)
password_after password.Keep old new = old
password_after password.Set old new = new
password_after password.Unset old new = None

-- The key of the key file after a change: that of the new file, or none, or the old one.
abbrev pub key_after : KeyFileChange → Option (List ℕ) → FileMap → Result (Option (List ℕ)) Refusal
key_after key_file.Keep old files = Ok old
key_after (key_file.Set name) old files = key_of (Some name) files
key_after key_file.Unset old files = Ok None

-- A database whose file is sealed under another composite key.
abbrev pub under_key : List ℕ → Opened → Opened
under_key composite opened = record {
  doc = opened.doc;
  sealing = option_map (λ s. record { settings = s.settings; composite = composite })
      opened.sealing;
  passed_over = opened.passed_over;
}

-- The settings that a change of a file asks for.
abbrev pub settings_in : FileChange → SettingsChange
settings_in change = asked_settings change.cipher change.kdf change.version

-- The composite key after a change, of the lines and the new key file's key.
abbrev pub key_made : FileChange → Lines → Option (List ℕ) → List ℕ
key_made change lines key =
    composite_key (password_after change.password lines.password lines.more) key

-- A database that was opened, with the key of its key file, and how its file is to be sealed after a
-- change: under the composite key of the parts that are set, or else of those that stay, and by the
-- settings that are asked for, or else its own. The new key file is read first.
abbrev pub changed_of : List ℕ → FileChange → Lines → Option (List ℕ) → Opened → FileMap
    → Result Opened Refusal
changed_of file change lines old opened files = key_after change.key_file old files >>= λ new.
    with_resealed file (settings_in change) (under_key (key_made change lines new) opened)

-- The database whose file is changed, as it is opened and is to be sealed.
unfoldable pub edited_of : Needs → FileChange → Lines → FileMap → Result Opened Refusal
edited_of needs change lines files = do
  old ← key_of needs.access.key_file files
  opened ← sealed_in needs.file files lines.password old
  changed_of needs.file change lines old opened files
