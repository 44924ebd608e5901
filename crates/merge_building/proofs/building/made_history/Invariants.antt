use Rattle.std.proofs.Common.{◌≡◌, ◌++◌, map, drop}
use Rattle.vault_model.specs.SeenNodes.{bare_version}
use Rattle.merge_building.proofs.building.made_history.Given as goal

abbrev pub invariant-loop-version : goal.invariant-loop-version
invariant-loop-version l = map bare_version l.made ++ drop l.version-index l.history ≡ l.history
