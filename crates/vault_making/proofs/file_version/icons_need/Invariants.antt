use Rattle.std.proofs.Common.{◌≡◌, drop}
use Rattle.vault_making.specs.NeededVersion as spec
use Rattle.vault_making.proofs.file_version.icons_need.Given as goal

abbrev pub invariant-loop-icon : goal.invariant-loop-icon
invariant-loop-icon l =
    spec.later l.needed (spec.latest_needed spec.icon_needs (drop l.icon-index l.icons))
    ≡ spec.latest_needed spec.icon_needs l.icons
