-- The later of two versions.
use Rattle.std.proofs.Common.{◌≡◌, refl}
use Rattle.vault_model.specs.declared.forms.FileVersion.{FileVersion}
use Rattle.vault_model.specs.declared.forms.FileVersion.TheVariants.{V31, V40, V41}
use Rattle.vault_making.specs.NeededVersion.{later}

-- the later of three, by either two
pub later_of_three : (a b c : FileVersion) → later (later a b) c ≡ later a (later b c)
later_of_three V31 b c = refl
later_of_three V40 V31 c = refl
later_of_three V40 V40 V31 = refl
later_of_three V40 V40 V40 = refl
later_of_three V40 V40 V41 = refl
later_of_three V40 V41 c = refl
later_of_three V41 b c = refl
