use Rattle.std.proofs.Common.{◌≡◌, drop, map}
use Rattle.vault_making.specs.NeededVersion as spec
use Rattle.vault_model.specs.SeenNodes.{bare_version}
use Rattle.vault_making.proofs.file_version.history_needs.Given as goal

abbrev pub invariant-loop-version : goal.invariant-loop-version
invariant-loop-version l =
    spec.later l.needed (spec.latest_needed spec.version_needs (map bare_version (drop l.version-index l.history)))
    ≡ spec.latest_needed spec.version_needs (map bare_version l.history)
