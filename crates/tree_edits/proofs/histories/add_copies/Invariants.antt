use Rattle.std.proofs.Common.{drop, map}
use Rattle.vault_model.specs.SeenNodes.{bare_version}
use Rattle.tree_edits.proofs.RisingVersions.{IsRising}
use Rattle.tree_edits.proofs.histories.add_copies.Given as goal

abbrev pub invariant-loop-version : goal.invariant-loop-version
invariant-loop-version l = IsRising (map bare_version l.version-items) (map bare_version (drop l.version-index l.version-items)) (map bare_version l.rising)
