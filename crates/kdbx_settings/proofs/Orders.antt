-- Settings that were changed are in order.
use Rattle.std.proofs.Common.{◌≡◌, ℕ, true, false, Bool, List, Option, None, Some, Result, Ok, Err, refl, ◌∙◌}
use Rattle.key_core.specs.Kdf.{IsChecked, checked_kdf}
use Rattle.key_core.specs.declared.kdf.Kdf.{Kdf}
use Rattle.key_core.specs.declared.kdf.Kdf.TheVariants.{Aes, Argon}
use Rattle.key_core.specs.declared.kdf.KdfFail.{KdfFail}
use Rattle.outside_core.specs.Results.{◌>>=◌}
use Rattle.vault_making.specs.NeededVersion.{later}
use Rattle.vault_model.specs.declared.forms.FileVersion.{FileVersion}
use Rattle.vault_model.specs.declared.forms.FileVersion.TheVariants.{V31, V40, V41}
use Rattle.kdbx_frame.specs.Settings.{IsInOrder, IsOfVersion}
use Rattle.kdbx_frame.specs.declared.settings.Settings.{Settings}
use Rattle.kdbx_settings.specs.declared.changing.SettingsChange.{SettingsChange}
use Rattle.kdbx_settings.specs.declared.changing.SettingsFail.{SettingsFail}
use Rattle.kdbx_settings.specs.Changed.{asked_or, changed_version, earliest_version, is_earlier, kdf_needs, public_needs, refuse_costs, version_after, with_change}

-- Where a file needs a version after 3.1, it has one.
late : (asked : Option FileVersion) (before earliest v : FileVersion) → is_earlier V31 earliest ≡ true → changed_version asked before earliest ≡ Ok v → is_earlier V31 v ≡ true
late asked before earliest V40 after h = refl
late asked before earliest V41 after h = refl
late asked before V31 V31 after h = cc
late None V31 V40 V31 after h = cc
late None V40 V40 V31 after h = cc
late None V41 V40 V31 after h = cc
late None V31 V41 V31 after h = cc
late None V40 V41 V31 after h = cc
late None V41 V41 V31 after h = cc
late (Some V31) before V40 V31 after h = cc
late (Some V31) before V41 V31 after h = cc
late (Some V40) before V40 V31 after h = cc
late (Some V40) before V41 V31 after h = cc
late (Some V41) before V40 V31 after h = cc
late (Some V41) before V41 V31 after h = cc

no : false ≡ true → ⊥
no h = cc

-- A key derivation and public data need a version that a file can have with them.
possible : (needed : FileVersion) (kdf : Kdf) (public : Option (List ℕ)) (v : FileVersion) → (is_earlier V31 (earliest_version kdf public needed) ≡ true → is_earlier V31 v ≡ true) → IsOfVersion v kdf public
possible needed kdf public V40 is_late = tt
possible needed kdf public V41 is_late = tt
possible needed (Aes rounds seed) None V31 is_late = tt
possible V31 (Aes rounds seed) (Some bytes) V31 is_late = no (is_late refl)
possible V40 (Aes rounds seed) (Some bytes) V31 is_late = no (is_late refl)
possible V41 (Aes rounds seed) (Some bytes) V31 is_late = no (is_late refl)
possible V31 (Argon kind passes bytes lanes salt) None V31 is_late = no (is_late refl)
possible V31 (Argon kind passes bytes lanes salt) (Some public) V31 is_late = no (is_late refl)
possible V40 (Argon kind passes bytes lanes salt) None V31 is_late = no (is_late refl)
possible V40 (Argon kind passes bytes lanes salt) (Some public) V31 is_late = no (is_late refl)
possible V41 (Argon kind passes bytes lanes salt) None V31 is_late = no (is_late refl)
possible V41 (Argon kind passes bytes lanes salt) (Some public) V31 is_late = no (is_late refl)

-- What a version and costs that are not refused say.
parts : (asked : Option FileVersion) (before earliest v : FileVersion) (chosen : Result FileVersion SettingsFail) (costs : Result (Unit {0}) KdfFail)
    → changed_version asked before earliest ≡ chosen
    → (chosen >>= λ version. refuse_costs costs >>= λ _. Ok version) ≡ Ok v
    → (changed_version asked before earliest ≡ Ok v) × (costs ≡ Ok tt)
parts asked before earliest v (Ok w) (Ok tt) is h = (is ∙ h, refl)
parts asked before earliest v (Ok w) (Err fail) is h = cc
parts asked before earliest v (Err fail) costs is h = cc

-- Settings that were changed are in order.
pub ordered : (change : SettingsChange) (before : Settings) (needed v : FileVersion) → IsInOrder before → version_after change before needed ≡ Ok v → IsInOrder (with_change change before v)
unfolding version_after
ordered change before needed v in_order h =
    let kdf = asked_or change.kdf before.kdf in
    let found = parts change.version before.version (earliest_version kdf before.public needed) v _ (checked_kdf kdf) refl h in
    record {
      kdf = found.1;
      version = possible needed kdf before.public v (λ after. late change.version before.version (earliest_version kdf before.public needed) v after found.0);
      public = in_order.public;
    }
