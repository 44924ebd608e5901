use Rattle.std.proofs.Common.{◌≡◌, map, drop}
use Rattle.vault_model.specs.SeenNodes.{bare_version}
use Rattle.merge_changes.specs.Equality.{same_all, same_version}
use Rattle.merge_changes.proofs.equality.same_history.Given as goal

abbrev pub invariant-loop-at : goal.invariant-loop-at
invariant-loop-at l = same_all same_version (map bare_version l.first) (map bare_version l.second) ≡ same_all same_version (map bare_version (drop l.at l.first)) (map bare_version (drop l.at l.second))
