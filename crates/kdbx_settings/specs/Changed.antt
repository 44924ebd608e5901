-- The settings of a file after others were asked for.
use Rattle.std.specs.Prelude.{◌≡◌, ℕ, Bool, true, false, if◌then◌else◌, List, Option, None, Some, Result, Ok, Err}
use Rattle.outside_core.specs.Results.{◌>>=◌}
use Rattle.key_core.specs.Kdf.{checked_kdf}
use Rattle.key_core.specs.declared.kdf.Kdf.{Kdf}
use Rattle.key_core.specs.declared.kdf.Kdf.TheVariants.{Aes, Argon}
use Rattle.key_core.specs.declared.kdf.KdfFail.{KdfFail}
use Rattle.vault_making.specs.NeededVersion.{later}
use Rattle.vault_model.specs.declared.forms.FileVersion.{FileVersion}
use Rattle.vault_model.specs.declared.forms.FileVersion.TheVariants.{V31, V40, V41}
use Rattle.kdbx_frame.specs.declared.settings.Settings.{Settings}
use Rattle.kdbx_settings.specs.declared.changing.SettingsChange.{SettingsChange}
use Rattle.kdbx_settings.specs.declared.changing.SettingsFail.{SettingsFail}
use Rattle.kdbx_settings.specs.declared.changing.SettingsFail.TheVariants.{NeedsVersion, KdfLimit}

-- What is asked for, or else what was before.
abbrev pub asked_or : {A : Type 0} → Option A → A → A
asked_or None before = before
asked_or (Some asked) before = asked

-- Argon2 needs version 4.0.
abbrev pub kdf_needs : Kdf → FileVersion
kdf_needs (Aes rounds seed) = V31
kdf_needs (Argon kind passes bytes lanes salt) = V40

-- And so does public data.
abbrev pub public_needs : Option (List ℕ) → FileVersion
public_needs None = V31
public_needs (Some bytes) = V40

-- The earliest version that a file can have with this key derivation and this public data, and a
-- document that needs this version.
abbrev pub earliest_version : Kdf → Option (List ℕ) → FileVersion → FileVersion
earliest_version kdf public needed = later needed (later (kdf_needs kdf) (public_needs public))

-- A version is earlier than another.
abbrev pub is_earlier : FileVersion → FileVersion → Bool
is_earlier V31 V31 = false
is_earlier V31 V40 = true
is_earlier V31 V41 = true
is_earlier V40 V31 = false
is_earlier V40 V40 = false
is_earlier V40 V41 = true
is_earlier V41 w = false

-- The version of a file: the one that is asked for, which must not be earlier than the earliest; or
-- else that of before, raised to it.
abbrev pub changed_version : Option FileVersion → (before earliest : FileVersion)
    → Result FileVersion SettingsFail
changed_version None before earliest = Ok (later earliest before)
changed_version (Some asked) before earliest =
    if is_earlier asked earliest then Err (NeedsVersion earliest) else Ok asked

-- The numbers of a key derivation must be within their limits.
abbrev pub refuse_costs : Result (Unit {0}) KdfFail → Result (Unit {0}) SettingsFail
refuse_costs (Ok _) = Ok tt
refuse_costs (Err fail) = Err KdfLimit

-- The version of a file after other settings were asked for, whose document needs this version. The
-- version is refused first, and then the numbers of the key derivation.
unfoldable pub version_after : SettingsChange → Settings → FileVersion
    → Result FileVersion SettingsFail
version_after change before needed = do
  version ← changed_version change.version before.version
      (earliest_version (asked_or change.kdf before.kdf) before.public needed)
  _ ← refuse_costs (checked_kdf (asked_or change.kdf before.kdf))
  Ok version

-- Settings with the cipher and the key derivation that are asked for, or else those of before, in
-- this version. The public data stays.
abbrev pub with_change : SettingsChange → Settings → FileVersion → Settings
with_change change before version = record {
  version = version;
  cipher = asked_or change.cipher before.cipher;
  kdf = asked_or change.kdf before.kdf;
  public = before.public;
}

-- The settings of a file after others were asked for, whose document needs this version.
abbrev pub changed_settings : SettingsChange → Settings → FileVersion
    → Result Settings SettingsFail
changed_settings change before needed =
    version_after change before needed >>= λ version. Ok (with_change change before version)

-- ---- how the code relates to it

-- The settings are the defined ones now, or the refusal is the defined one.
abbrev pub IsChanged : Result (Unit {0}) SettingsFail → Settings → Result Settings SettingsFail
    → Type 0
IsChanged (Ok _) now defined = defined ≡ Ok now
IsChanged (Err fail) now defined = defined ≡ Err fail
