use Rattle.std.proofs.Common.{ℕ, ℤ, Bool, List, drop, refl}
use Rattle.vault_model.specs.declared.metas.Icon.{Icon}
use Rattle.vault_model.specs.declared.metas.Protection.{Protection}
use Rattle.doc_forms.specs.Metas.{meta_rows, with_meta, with_settings, with_view}
use Rattle.doc_forms.specs.SeenDrafts.{meta_parts}
use Rattle.doc_walk.proofs.Rests.{by_later_rows, kept_in}
use Rattle.doc_metas.proofs.metas.setting_child.Goals as goal

pub returns-in-MaintenanceHistoryDays : goal.returns-in-MaintenanceHistoryDays
returns-in-MaintenanceHistoryDays c = rw c.in-MaintenanceHistoryDays.is (kept_in (λ (v : ℕ). with_settings (λ m. record m { days = v }) (meta_parts c.args.known.now)) c.keep.ensures)

pub returns-in-Color : goal.returns-in-Color
returns-in-Color c = rw c.in-Color.is (kept_in (λ (v : List ℕ). with_settings (λ m. record m { color = v }) (meta_parts c.args.known.now)) c.keep-in-Color.ensures)

pub returns-in-MasterKeyChanged : goal.returns-in-MasterKeyChanged
returns-in-MasterKeyChanged c = rw c.in-MasterKeyChanged.is (kept_in (λ (v : ℕ). with_view (λ m. record m { key_changed = v }) (meta_parts c.args.known.now)) c.keep-in-MasterKeyChanged.ensures)

pub returns-in-MasterKeyChangeRec : goal.returns-in-MasterKeyChangeRec
returns-in-MasterKeyChangeRec c = rw c.in-MasterKeyChangeRec.is (kept_in (λ (v : ℤ). with_settings (λ m. record m { key_rec = v }) (meta_parts c.args.known.now)) c.keep-in-MasterKeyChangeRec.ensures)

pub returns-in-MasterKeyChangeForce : goal.returns-in-MasterKeyChangeForce
returns-in-MasterKeyChangeForce c = rw c.in-MasterKeyChangeForce.is (kept_in (λ (v : ℤ). with_settings (λ m. record m { key_force = v }) (meta_parts c.args.known.now)) c.keep-in-MasterKeyChangeForce.ensures)

pub returns-in-MasterKeyChangeForceOnce : goal.returns-in-MasterKeyChangeForceOnce
returns-in-MasterKeyChangeForceOnce c = rw c.in-MasterKeyChangeForceOnce.is (kept_in (λ (v : Bool). with_settings (λ m. record m { key_force_once = v }) (meta_parts c.args.known.now)) c.keep-in-MasterKeyChangeForceOnce.ensures)

pub returns-in-MemoryProtection : goal.returns-in-MemoryProtection
returns-in-MemoryProtection c = rw c.in-MemoryProtection.is (kept_in (λ (v : Protection). with_settings (λ m. record m { protect = v }) (meta_parts c.args.known.now)) c.protection.ensures)

pub returns-in-CustomIcons : goal.returns-in-CustomIcons
returns-in-CustomIcons c = rw c.in-CustomIcons.is (kept_in (λ (v : List Icon). with_meta (λ m. record m { icons = v }) (meta_parts c.args.known.now)) c.icons.ensures)

pub returns-in_default : goal.returns-in_default
returns-in_default c =
    by_later_rows (λ _. meta_parts c.bin_child.new.known) c.args.walk.now c.bin_child.new.walk c.bin_child.result 8 (λ s. drop 9 (meta_rows s)) (meta_parts c.args.known.now) c.args.tag.now (λ _. refl)
    (λ _. (c.in_default.not-MaintenanceHistoryDays, (c.in_default.not-Color, (c.in_default.not-MasterKeyChanged, (c.in_default.not-MasterKeyChangeRec, (c.in_default.not-MasterKeyChangeForce, (c.in_default.not-MasterKeyChangeForceOnce, (c.in_default.not-MemoryProtection, (c.in_default.not-CustomIcons, tt)))))))))
    c.bin_child.ensures
