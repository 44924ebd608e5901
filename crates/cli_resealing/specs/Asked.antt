-- The settings that words ask for, and what a file is sealed with then.
use Rattle.std.specs.Prelude.{◌≡◌, ◌<◌, ◌⊎◌, ℕ, ◌*◌, List, [], replicate, Option, None, Some, option_map, Result, Ok, Err}
use Rattle.argon_core.specs.declared.params.ArgonKind.{ArgonKind}
use Rattle.argon_core.specs.declared.params.ArgonKind.TheVariants as argon
use Rattle.outside_core.specs.Results.{◌>>=◌}
use Rattle.key_core.specs.Kdf.{checked_kdf}
use Rattle.key_core.specs.declared.kdf.Kdf.{Kdf}
use Rattle.key_core.specs.declared.kdf.Kdf.TheVariants.{Aes, Argon}
use Rattle.vault_making.specs.NeededVersion.{needed_version}
use Rattle.vault_model.specs.Tree.{BareDoc}
use Rattle.vault_model.specs.declared.forms.FileVersion.{FileVersion}
use Rattle.vault_model.specs.declared.forms.FileVersion.TheVariants.{V31, V40, V41}
use Rattle.kdbx_frame.specs.declared.sealings.Sealing.{Sealing}
use Rattle.kdbx_frame.specs.declared.settings.Cipher.{Cipher}
use Rattle.kdbx_frame.specs.declared.settings.Settings.{Settings}
use Rattle.kdbx_settings.specs.Changed.{changed_settings, kdf_needs, refuse_costs}
use Rattle.kdbx_settings.specs.declared.changing.SettingsChange.{SettingsChange}
use Rattle.kdbx_settings.specs.declared.changing.SettingsFail.{SettingsFail}
use Rattle.kdbx_settings.specs.declared.changing.SettingsFail.TheVariants.{NeedsVersion, KdfLimit}
use Rattle.cli_messages.specs.Messages.{refusal_of}
use Rattle.cli_messages.specs.declared.answers.NeededVersion.{NeededVersion}
use Rattle.cli_messages.specs.declared.answers.NeededVersion.TheVariants as needed
use Rattle.cli_messages.specs.declared.answers.Reason.{Reason}
use Rattle.cli_messages.specs.declared.answers.Reason.TheVariants as answer
use Rattle.cli_messages.specs.declared.answers.Refusal.{Refusal}
use Rattle.cli_databases.specs.CliFiles.Files.{Opened}
use Rattle.cli_needs.specs.declared.command.KdfAsked.{KdfAsked}
use Rattle.cli_needs.specs.declared.command.KdfKind.{KdfKind}
use Rattle.cli_needs.specs.declared.command.KdfKind.TheVariants as kind

-- Argon2 of this kind with these costs, the memory being in KiB; its salt is drawn as the file is
-- written.
abbrev pub argon_of : ArgonKind → (rounds kib lanes : ℕ) → Kdf
argon_of kind rounds kib lanes = Argon kind rounds (1024 * kib) lanes (replicate 32 0)

-- The key derivation of this kind with these costs.
abbrev pub derivation_by : KdfKind → (rounds kib lanes : ℕ) → Kdf
derivation_by kind.Aes rounds kib lanes = Aes rounds (replicate 32 0)
derivation_by kind.Argon2d rounds kib lanes = argon_of argon.D rounds kib lanes
derivation_by kind.Argon2id rounds kib lanes = argon_of argon.Id rounds kib lanes

-- The key derivation that is asked for.
abbrev pub derivation_of : KdfAsked → Kdf
derivation_of asked = derivation_by asked.kind asked.rounds asked.kib asked.lanes

-- The settings that are asked for.
abbrev pub asked_settings : Option Cipher → Option KdfAsked → Option FileVersion → SettingsChange
asked_settings cipher kdf version = record {
  cipher = cipher;
  kdf = option_map derivation_of kdf;
  version = version;
}

-- The version that a file needs, as a refusal says it: no file needs one after 3.1 but 4.0 and 4.1.
abbrev pub needed_answer : FileVersion → NeededVersion
needed_answer V31 = needed.V40
needed_answer V40 = needed.V40
needed_answer V41 = needed.V41

-- The answer that a refusal of settings is.
abbrev pub settings_answer : SettingsFail → Reason
settings_answer (NeedsVersion version) = answer.NeedsVersion (needed_answer version)
settings_answer KdfLimit = answer.KdfLimit

-- The settings, or the refusal about the file of this name.
abbrev pub settings_or_refusal : List ℕ → Result Settings SettingsFail → Result Settings Refusal
settings_or_refusal file (Ok settings) = Ok settings
settings_or_refusal file (Err why) = Err (refusal_of (settings_answer why) file)

-- What a file is sealed with by other settings.
abbrev pub with_settings : List ℕ → Settings → Option Sealing
with_settings composite settings =
    Some (record { settings = settings; composite = composite })

-- What the file of this name is sealed with once these settings were asked for, with a document, or
-- the refusal about the file. A plain document is not sealed.
abbrev pub resealed : List ℕ → SettingsChange → BareDoc → Option Sealing
    → Result (Option Sealing) Refusal
resealed file change doc None = Ok None
resealed file change doc (Some sealing) =
    settings_or_refusal file (changed_settings change sealing.settings (needed_version doc))
    >>= λ settings. Ok (with_settings sealing.composite settings)

-- A database whose file is to be sealed so, which is made of no table.
abbrev pub with_resealed : List ℕ → SettingsChange → Opened → Result Opened Refusal
with_resealed file change opened = resealed file change opened.doc opened.sealing
    >>= λ sealing. Ok (record { doc = opened.doc; sealing = sealing; passed_over = [] })

-- ---- how the code relates to it

-- A number is another one, or both are greater than a limit.
abbrev pub IsOrPasses : (limit number asked : ℕ) → Type 0
IsOrPasses limit number asked = (number ≡ asked) ⊎ ((limit < number) × (limit < asked))

-- A key derivation has these costs; or both have costs that are refused, and need the same version.
abbrev pub StandsFor : Kdf → Kdf → Type 0
StandsFor kdf asked = (kdf_needs kdf ≡ kdf_needs asked)
    × ((kdf ≡ asked) ⊎ ((refuse_costs (checked_kdf kdf) ≡ Err KdfLimit)
    × (refuse_costs (checked_kdf asked) ≡ Err KdfLimit)))

-- A key derivation stands for the one that is asked for, where one is.
abbrev pub StandsIn : Option Kdf → Option Kdf → Type 0
StandsIn None None = Unit {0}
StandsIn None (Some asked) = ⊥
StandsIn (Some kdf) None = ⊥
StandsIn (Some kdf) (Some asked) = StandsFor kdf asked

-- A change of settings asks for this.
pub record AsksFor (change asked : SettingsChange) : Type 0 where
  pub cipher : change.cipher ≡ asked.cipher
  pub kdf : StandsIn change.kdf asked.kdf
  pub version : change.version ≡ asked.version
